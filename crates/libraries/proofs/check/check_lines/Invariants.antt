use Rattle.std.proofs.Common.{◌≡◌}
use Rattle.lines.specs.Texts.{lines_of}
use Rattle.libraries.specs.Checks.{bad_from, ended}
use Rattle.libraries.proofs.Endings.{bad_then}
use Rattle.libraries.proofs.check.check_lines.Given as goal

abbrev pub invariant-loop-line : goal.invariant-loop-line
invariant-loop-line l = bad_then l.taken (ended l.text) (lines_of l.line-iterator) ≡ bad_from 0 (ended l.text) (lines_of l.text)
