use Rattle.std.proofs.Common.{arith}
use Rattle.layers.proofs.Advancing.{code_worked, code_no_step}
use Rattle.layers.proofs.layered.Layered.work.Goals as goal

pub returns-then-grant-eq0 : goal.returns-then-grant-eq0
returns-then-grant-eq0 g c =
    let m = g.M.Machine in
    let s = g.S.Source in
    code_no_step m.rule m.falls s.meaning s.tick s.paced _ _ _ _ c.requires.goes c.requires.busy (omega arith)

pub returns : goal.returns
returns g c =
    let m = g.M.Machine in
    let s = g.S.Source in
    code_worked m.rule m.falls s.meaning s.tick s.paced _ _ _ _ _ _ c.work-deed.result _ c.requires.goes c.requires.busy (omega arith) c.work-deed.ensures c.ending-self.ensures c.told.ensures
