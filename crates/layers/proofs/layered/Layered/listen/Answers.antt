use Rattle.std.proofs.Common.{subst}
use Rattle.sources.specs.declared.answers.Told.{Told}
use Rattle.sources.specs.declared.answers.Told.TheVariants as told
use Rattle.sources.specs.declared.line.Line.{Line}
use Rattle.sources.specs.Hearings.{HearsOf}
use Rattle.sources.proofs.Hear.{heard_ok, reached_ok}
use Rattle.layers.proofs.Advancing.{code_took, code_waited, code_closed}
use Rattle.layers.proofs.layered.Layered.listen.Goals as goal

pub returns-in-Line : goal.returns-in-Line
returns-in-Line g c =
    let m = g.M.Machine in
    let s = g.S.Source in
    let h = c.unwrap-spent.result in
    let reached = reached_ok s.tick _ _ _ h c.unwrap-spent.ensures c.ask.ensures.reached in
    let P : Told Line → Type 0 = λ t. HearsOf (s.meaning (s.kept c.args.self.now.below)) c.args.grant h.spent t in
    let said : P (told.Line c.in-Line.line) = subst P c.in-Line.is (heard_ok _ _ _ h c.unwrap-spent.ensures c.ask.ensures.heard) in
    code_took m.rule m.falls s.meaning s.tick s.paced _ _ _ _ _ _ _ _ c.in-Line.line c.take-deed.result _ c.requires.goes c.requires.idle said reached c.take-deed.ensures c.ending-self.ensures c.told-told.ensures

pub returns-in-Held : goal.returns-in-Held
returns-in-Held g c =
    let m = g.M.Machine in
    let s = g.S.Source in
    let h = c.unwrap-spent.result in
    let reached = reached_ok s.tick _ _ _ h c.unwrap-spent.ensures c.ask.ensures.reached in
    let P : Told Line → Type 0 = λ t. HearsOf (s.meaning (s.kept c.args.self.now.below)) c.args.grant h.spent t in
    let said : P told.Held = subst P c.in-Held.is (heard_ok _ _ _ h c.unwrap-spent.ensures c.ask.ensures.heard) in
    code_waited m.rule m.falls s.meaning s.tick s.paced _ _ _ _ _ _ c.requires.goes c.requires.idle said reached

pub returns-in-Ended : goal.returns-in-Ended
returns-in-Ended g c =
    let m = g.M.Machine in
    let s = g.S.Source in
    let h = c.unwrap-spent.result in
    let reached = reached_ok s.tick _ _ _ h c.unwrap-spent.ensures c.ask.ensures.reached in
    let P : Told Line → Type 0 = λ t. HearsOf (s.meaning (s.kept c.args.self.now.below)) c.args.grant h.spent t in
    let said : P (told.Ended c.in-Ended.ending) = subst P c.in-Ended.is (heard_ok _ _ _ h c.unwrap-spent.ensures c.ask.ensures.heard) in
    code_closed m.rule m.falls s.meaning s.tick s.paced _ _ _ _ _ _ c.in-Ended.ending _ c.requires.goes c.requires.idle said reached c.close.ensures
