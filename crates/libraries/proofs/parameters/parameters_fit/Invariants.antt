use Rattle.std.proofs.Common.{◌≡◌}
use Rattle.lines.specs.Division.{parts_of}
use Rattle.libraries.specs.Prototypes.{all_fit}
use Rattle.libraries.proofs.parameters.parameters_fit.Given as goal

abbrev pub invariant-loop-part : goal.invariant-loop-part
invariant-loop-part l = all_fit l.seen.late l.seen.names l.part-iterator ≡ all_fit l.initial.seen.late l.initial.seen.names (parts_of l.operand)
