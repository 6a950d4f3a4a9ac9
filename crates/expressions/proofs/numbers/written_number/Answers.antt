use Rattle.std.proofs.Common.{◌≡◌, ◌+◌, ◌-◌, ◌*◌, pos, get_or, drop, refl, arith, rules, w32}
use Rattle.std.specs.Int.RustNames.{FitsSigned}
use Rattle.std.proofs.lemmas.Int.{ints}
use Rattle.std.proofs.lemmas.Grind.{common_steps}
use Rattle.expressions.proofs.Figures.{value_grows, too_high}
use Rattle.expressions.proofs.numbers.written_number.Goals as goal

pub returns-in_err-value : goal.returns-in_err-value
returns-in_err-value c =
    let t = c.args.text.now in
    let i = c.loop-byte.byte-index in
    let n = c.loop-byte.wide in
    let k = get_or t i 0 - 48 in
    let digit : c.from.result ≡ k = search rules in
    let none : FitsSigned w32 (pos (n * 10 + c.from.result)) → ⊥ = search rules in
    let high = too_high (pos n) (pos k) n k refl refl (λ _ s. none (omega (arith, ints))) in
    let least = value_grows (n * 10 + k) (drop (i + 1) t) in
    grind (arith, common_steps)
