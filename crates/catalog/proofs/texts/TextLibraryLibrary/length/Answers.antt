use Rattle.std.proofs.Common.{◌≡◌, sym, ap}
use Rattle.std.specs.Option.{ok_or}
use Rattle.std.proofs.lemmas.Result.{err_from_is_err_and}
use Rattle.libraries.specs.declared.refusals.LibraryRefusal.TheVariants.{Missing}
use Rattle.catalog.proofs.Numbering.{length_missing, length_there}
use Rattle.catalog.proofs.texts.TextLibraryLibrary.length.Goals as goal

pub returns : goal.returns
returns c = sym (length_there c.args.self.now.text.now c.args.definition.0 c.in_ok-entry.entry (rw c.in_ok-entry.ensures.ok_part at c.entry.ensures))

pub returns-in_err-entry : goal.returns-in_err-entry
returns-in_err-entry c =
    let none = length_missing c.args.self.now.text.now c.args.definition.0 (rw c.in_err-entry.ensures.ok_part at c.entry.ensures) in
    let p = err_from_is_err_and c.from_residual.result c.from_residual.ensures.1 in
    let why : c.in_err-entry.field-0.0 ≡ Missing = cc (c.in_err-entry.ensures.value, ap (λ o. ok_or o Missing) c.in_err-entry.ensures.ok_part) in
    rw (p.1, p.2, why) (sym none)
