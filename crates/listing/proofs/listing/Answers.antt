use Rattle.std.proofs.Common.{ap, arith}
use Rattle.piles.specs.Prices.{total}
use Rattle.listing.proofs.Sizes.{text_few}
use Rattle.listing.proofs.listing.Goals as goal

pub list-requires : goal.list-requires
list-requires c =
    let e = ap total c.new-source.ensures in
    let t = text_few c.args.site.now in
    omega (arith, e, t)
