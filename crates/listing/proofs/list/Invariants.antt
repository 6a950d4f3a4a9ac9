use Rattle.std.proofs.Common.{vec_items}
use Rattle.piles.specs.Prices.{total}
use Rattle.listing.proofs.Progress.{Progress}
use Rattle.listing.proofs.list.Given as goal

abbrev pub invariant-loop-line : goal.invariant-loop-line
invariant-loop-line g l =
    Progress (g.S.Source.meaning (g.S.Source.kept l.initial.source)) (g.S.Source.meaning (g.S.Source.kept l.source)) (vec_items l.out) l.lines l.steps

abbrev pub decreases-loop-line : goal.decreases-loop-line
decreases-loop-line g l = total (g.S.Source.meaning (g.S.Source.kept l.source))
