use Rattle.std.proofs.Common.{length}
use Rattle.expressions.proofs.Substituting.{Come}
use Rattle.expressions.proofs.substitution.substitute.Given as goal

abbrev pub invariant-loop-rest : goal.invariant-loop-rest
invariant-loop-rest g l = Come (g.S.Symbols.meaning l.symbols) l.field l.rest l.held l.known

abbrev pub decreases-loop-rest : goal.decreases-loop-rest
decreases-loop-rest g l = length l.rest
