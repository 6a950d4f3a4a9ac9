use Rattle.std.proofs.Common.{◌≡◌, ◌≤◌, drop}
use Rattle.lines.specs.Nesting.{past_all, start}
use Rattle.lines.proofs.nesting.is_closed.Given as goal

abbrev pub invariant-loop-byte : goal.invariant-loop-byte
invariant-loop-byte l = (past_all l.nest (drop l.byte-index l.bytes) ≡ past_all start l.bytes) × (l.nest.depth ≤ l.byte-index)
