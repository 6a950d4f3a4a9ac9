-- The first byte that passes a test, as `position` finds it.
use Rattle.std.proofs.Common.{◌≡◌, ℕ, suc, ◌<◌, ◌≤◌, Bool, true, false, cond, List, [], ◌∷◌, length, Option, sym, ap, ◌∙◌, refl, arith}
use Rattle.std.specs.List.{AllWithin, HoldsAt}
use Rattle.std.specs.Option.{MatchOption, unwrap_or}
use Rattle.std.proofs.lemmas.Iterator.{index_from_first}
use Rattle.lines.specs.Fields.{first_by}

pub first_within : (p : ℕ → Bool) (bs : List ℕ) → first_by p bs ≤ length bs
first_within p [] = omega arith
first_within p (b ∷ bs) = go (p b) (first_within p bs)
  where
    go : (t : Bool) → first_by p bs ≤ length bs → cond t 0 (suc (first_by p bs)) ≤ suc (length bs)
    go true ih = omega arith
    go false ih = omega arith

-- the length stands in the place of none
pub first_found : (p : ℕ → Bool) (bs : List ℕ) (r : Option ℕ)
    → MatchOption r (AllWithin (λ x. p x ≡ false) bs 0 (length bs)) (λ i. (i < length bs) × HoldsAt (λ x. p x ≡ true) bs i × AllWithin (λ x. p x ≡ false) bs 0 i)
    → unwrap_or r (length bs) ≡ first_by p bs
first_found p bs r h =
    sym (index_from_first (first_by p) (λ x. p x ≡ true) (λ x. p x ≡ false) refl
    (λ x xs e. ap (λ z. cond z 0 (suc (first_by p xs))) e) (λ x xs e. ap (λ z. cond z 0 (suc (first_by p xs))) e ∙ omega arith) bs r h)
