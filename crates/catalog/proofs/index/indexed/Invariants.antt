use Rattle.std.proofs.Common.{length}
use Rattle.catalog.proofs.Indexes.{Indexed}
use Rattle.catalog.proofs.index.indexed.Given as goal

abbrev pub invariant-loop-body : goal.invariant-loop-body
invariant-loop-body l = Indexed l.text l.entries.items l.rest

abbrev pub decreases-loop-body : goal.decreases-loop-body
decreases-loop-body l = length l.rest
