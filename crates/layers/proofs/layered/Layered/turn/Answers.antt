use Rattle.std.proofs.Common.{sym, refl, arith, rules}
use Rattle.layers.proofs.Advancing.{goes_on, turns}
use Rattle.layers.specs.Delays.{delay_none}
use Rattle.layers.proofs.layered.Layered.turn.Goals as goal

pub loop-told-init : goal.loop-told-init
loop-told-init g c = (omega arith, sym (delay_none _), refl)

pub returns-in-Some : goal.returns-in-Some
returns-in-Some g c =
    let m = g.M.Machine in
    let s = g.S.Source in
    let i = c.loop-told.invariant in
    turns m.rule m.falls s.meaning s.tick s.paced _ _ _ _ _ _ _ c.in-Some.told i.0 i.1 i.2 c.advance-more.ensures c.in-Some.is

pub loop-told-preserved : goal.loop-told-preserved
loop-told-preserved g c =
    let m = g.M.Machine in
    let s = g.S.Source in
    let i = c.loop-told.invariant in
    let on = goes_on m.rule m.falls s.meaning s.tick s.paced _ _ _ _ _ _ _ i.0 i.1 i.2 c.advance-more.ensures (search rules) in
    (on.0, on.1, on.2)
