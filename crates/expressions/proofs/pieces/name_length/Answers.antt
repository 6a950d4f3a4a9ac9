use Rattle.std.proofs.Common.{◌≡◌, ℕ, true, false, not, ◌∙◌, rules, tests}
use Rattle.std.proofs.lemmas.Iterator.{YieldsList-from_slice, IsFirst-from_position}
use Rattle.lines.proofs.Scans.{first_found}
use Rattle.expressions.specs.Classes.{letter_or_digit}
use Rattle.expressions.proofs.pieces.name_length.Goals as goal

pub returns-clause-value : goal.returns-clause-value
returns-clause-value c =
    let bs = c.args.bytes.now in
    c.unwrap_or.ensures ∙ first_found (λ (b : ℕ). not (letter_or_digit b)) bs c.position.result
    (IsFirst-from_position _ _ _ (λ b. not (letter_or_digit b) ≡ true) (λ b. not (letter_or_digit b) ≡ false) c.position.ensures.ran (YieldsList-from_slice bs cc) (λ x q k. search (rules, tests)) (λ x q k. search (rules, tests)))
