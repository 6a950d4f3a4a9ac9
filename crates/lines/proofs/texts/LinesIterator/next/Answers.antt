use Rattle.std.proofs.Common.{length, ap, arith}
use Rattle.lines.proofs.Splitting.{lines_cut}
use Rattle.lines.proofs.texts.LinesIterator.next.Goals as goal

pub returns-clause-steps : goal.returns-clause-steps
returns-clause-steps c = let e = c.in_ok-line.ensures in lines_cut _ _ _ _ c.self.view_is e.0 e.1 e.2

pub returns-clause-goes : goal.returns-clause-goes
returns-clause-goes c =
    let e = c.in_ok-line.ensures in
    let cut = lines_cut _ _ _ _ c.self.view_is e.0 e.1 e.2 in
    record { on = λ _. (tt, tt, omega (arith, ap length cut)); keeps = tt; rests = λ _. tt }
