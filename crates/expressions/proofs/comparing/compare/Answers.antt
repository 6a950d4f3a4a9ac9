use Rattle.std.proofs.Common.{◌≡◌, length, nat_cmp, ◌∙◌, rules}
use Rattle.std.specs.Cmp.Lexicographic.{slice_cmp}
use Rattle.std.specs.Ordering.{ordering_then}
use Rattle.expressions.proofs.Bytewise.{as_compared}
use Rattle.expressions.proofs.comparing.compare.Goals as goal

pub returns : goal.returns
returns c =
    let xs = c.args.left.now in
    let ys = c.args.right.now in
    let is : c.then_with.result ≡ ordering_then (nat_cmp (length xs) (length ys)) (slice_cmp nat_cmp xs ys) = search rules in
    is ∙ as_compared xs ys
