use Rattle.std.proofs.Common.{◌≡◌, ◌++◌, drop, vec_items}
use Rattle.polling.specs.Show.{replies_shown}
use Rattle.polling.proofs.show.replies.Given as goal

abbrev pub invariant-loop-request : goal.invariant-loop-request
invariant-loop-request l = vec_items l.out ++ replies_shown (drop l.request-index l.requests) ≡ replies_shown l.requests
