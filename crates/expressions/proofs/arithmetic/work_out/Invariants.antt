use Rattle.std.proofs.Common.{length}
use Rattle.expressions.proofs.Working.{Gone}
use Rattle.expressions.proofs.arithmetic.work_out.Given as goal

abbrev pub invariant-loop-rest : goal.invariant-loop-rest
invariant-loop-rest g l = Gone g.V.Number.operations (g.S.Symbols.meaning l.symbols) (length l.fn.levels) l.text l.rest l.walk l.known

abbrev pub decreases-loop-rest : goal.decreases-loop-rest
decreases-loop-rest g l = length l.rest
