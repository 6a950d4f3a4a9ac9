-- The steps of reading digits.
use Rattle.std.proofs.Common.{◌≡◌, ℕ, ◌+◌, ◌-◌, ◌*◌, ◌<◌, ◌≤◌, Bool, true, false, leb, List, [], ◌∷◌, ℤ, pos, ◌+ℤ◌, ◌*ℤ◌, w32, refl, arith}
use Rattle.std.specs.Int.RustNames.{FitsSigned}
use Rattle.std.proofs.lemmas.Int.{ints}
use Rattle.std.proofs.lemmas.Bool.Decides.{nat_tests}
use Rattle.expressions.specs.Numbers.{value_from}

-- digits only make a number higher
pub value_grows : (n : ℕ) (ds : List ℕ) → n ≤ value_from n ds
value_grows n [] = omega arith
value_grows n (d ∷ ds) = let ih = value_grows (n * 10 + (d - 48)) ds in omega arith

-- what fits no 32 bits with a sign is too high
pub too_high : (v d : ℤ) (n k : ℕ) → v ≡ pos n → d ≡ pos k → (FitsSigned w32 (v *ℤ pos 10) → FitsSigned w32 ((v *ℤ pos 10) +ℤ d) → ⊥) → 2147483647 < n * 10 + k
too_high v d n k e f p = go (leb (n * 10 + k) 2147483647) refl
  where
    go : (z : Bool) → leb (n * 10 + k) 2147483647 ≡ z → 2147483647 < n * 10 + k
    go true t =
        let low : n * 10 + k ≤ 2147483647 = grind (arith, nat_tests) in
        let m : FitsSigned w32 (v *ℤ pos 10) = omega (arith, ints) in
        let s : FitsSigned w32 ((v *ℤ pos 10) +ℤ d) = omega (arith, ints) in
        absurd (p m s)
    go false t = grind (arith, nat_tests)
