use Rattle.std.proofs.Common.{◌≡◌, ◌-◌, ◌≤◌}
use Rattle.sources.specs.Meaning.{iterate}
use Rattle.layers.specs.Engine.{delay, keeping, laid_meaning, laid_tick}
use Rattle.layers.proofs.layered.Layered.turn.Given as goal

abbrev pub invariant-loop-told : goal.invariant-loop-told
invariant-loop-told g l =
    (l.spent ≤ l.grant)
    × (laid_meaning g.M.Machine.rule g.S.Source.meaning (keeping g.M.Machine.state g.S.Source.kept l.initial.self) ≡ delay l.spent (laid_meaning g.M.Machine.rule g.S.Source.meaning (keeping g.M.Machine.state g.S.Source.kept l.self)))
    × (keeping g.M.Machine.state g.S.Source.kept l.self ≡ iterate (laid_tick g.M.Machine.rule g.S.Source.meaning g.S.Source.tick) l.spent (keeping g.M.Machine.state g.S.Source.kept l.initial.self))

abbrev pub decreases-loop-told : goal.decreases-loop-told
decreases-loop-told g l = l.grant - l.spent
