use Rattle.std.proofs.Common.{◌≡◌, []}
use Rattle.lines.specs.Texts.{lines_of}
use Rattle.libraries.specs.declared.flaws.Phase.TheVariants.{Between}
use Rattle.libraries.specs.Checks.{read_from, reading}
use Rattle.libraries.proofs.check.check_definitions.Given as goal

abbrev pub invariant-loop-line : goal.invariant-loop-line
invariant-loop-line l = read_from l.taken (lines_of l.line-iterator) l.reader ≡ read_from 0 (lines_of l.text) (reading Between [])
