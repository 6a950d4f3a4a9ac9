use Rattle.layers.proofs.Advancing.{code_over}
use Rattle.layers.proofs.layered.Layered.advance.Goals as goal

pub returns-in-Some : goal.returns-in-Some
returns-in-Some g c =
    let m = g.M.Machine in
    let s = g.S.Source in
    code_over m.rule m.falls s.meaning s.tick s.paced _ _ _ _ _ c.in-Some.is
