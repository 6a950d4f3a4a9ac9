use Rattle.std.proofs.Common.{◌≡◌, ◌+◌, ◌≤◌, drop}
use Rattle.lines.specs.Nesting.{end_by, start}
use Rattle.lines.proofs.nesting.outside_end.Given as goal

abbrev pub invariant-loop-i : goal.invariant-loop-i
invariant-loop-i l = (l.i + end_by l.stop l.nest (drop l.i l.bytes) ≡ end_by l.stop start l.bytes) × (l.nest.depth ≤ l.i)
