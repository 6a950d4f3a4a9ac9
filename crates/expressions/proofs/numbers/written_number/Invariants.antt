use Rattle.std.proofs.Common.{◌≡◌, drop, pos}
use Rattle.expressions.specs.Numbers.{value_from, value_of}
use Rattle.expressions.proofs.numbers.written_number.Given as goal

abbrev pub invariant-loop-byte : goal.invariant-loop-byte
invariant-loop-byte l = (l.value ≡ pos l.wide) × (value_from l.wide (drop l.byte-index l.text) ≡ value_of l.text)
