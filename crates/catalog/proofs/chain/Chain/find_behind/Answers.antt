use Rattle.std.proofs.Common.{leb-true, sym, ◌∙◌, arith}
use Rattle.catalog.proofs.Behind.{chained_neither, chained_second, second_within}
use Rattle.catalog.proofs.chain.Chain.find_behind.Goals as goal

pub returns-in_err-number : goal.returns-in_err-number
returns-in_err-number g c = c.from_residual.ensures ∙ chained_neither _ _ _ c.if-not-fits.ensures c.requires (sym c.in_err-number.was ∙ c.find.ensures)

pub overflow_add-result : goal.overflow_add-result
overflow_add-result g c =
    let few = leb-true _ _ (sym c.if-not-fits.ensures) in
    let within = second_within (g.A.Library.definitions c.args.self.now.first) (g.B.Library.definitions c.args.self.now.second) c.args.name c.in_ok-number.number (sym c.in_ok-number.was ∙ c.find.ensures) in
    omega (arith, few, within, c.count.ensures)

pub returns : goal.returns
returns g c = chained_second _ _ _ c.in_ok-number.number c.count.result c.count.ensures c.if-not-fits.ensures c.requires (sym c.in_ok-number.was ∙ c.find.ensures)
