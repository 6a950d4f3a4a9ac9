-- std's order of bytes, and the order of texts.
use Rattle.std.proofs.Common.{◌≡◌, ℕ, Bool, true, false, cond, eqb, ltb, nat_cmp, List, [], ◌∷◌, length, Less, Equal, Greater, refl, ap, ◌∙◌, arith}
use Rattle.std.proofs.lemmas.Bool.Decides.{nat_tests}
use Rattle.std.specs.declared.cmp.Ordering.{Ordering}
use Rattle.std.specs.Cmp.Lexicographic.{slice_cmp}
use Rattle.std.specs.Ordering.{ordering_then}
use Rattle.expressions.specs.Compared.{by_bytes, compared}

-- the order of two numbers, and where they are the same what follows
three : (a b : ℕ) (o : Ordering) → ordering_then (nat_cmp a b) o ≡ cond (ltb a b) Less (cond (ltb b a) Greater o)
three a b o = go (ltb a b) (eqb a b) (ltb b a) refl refl refl
  where
    go : (l e m : Bool) → ltb a b ≡ l → eqb a b ≡ e → ltb b a ≡ m → ordering_then (cond l Less (cond e Equal Greater)) o ≡ cond l Less (cond m Greater o)
    go true e m p q r = refl
    go false true true p q r = absurd (grind (arith, nat_tests))
    go false true false p q r = refl
    go false false true p q r = refl
    go false false false p q r = absurd (grind (arith, nat_tests))

as_bytes : (xs ys : List ℕ) → length xs ≡ length ys → slice_cmp nat_cmp xs ys ≡ by_bytes xs ys
as_bytes [] [] e = refl
as_bytes [] (y ∷ ys) e = absurd (omega arith)
as_bytes (x ∷ xs) [] e = absurd (omega arith)
as_bytes (x ∷ xs) (y ∷ ys) e = ap (ordering_then (nat_cmp x y)) (as_bytes xs ys (omega arith)) ∙ three x y (by_bytes xs ys)

-- the lengths decide, and else std's order of bytes
pub as_compared : (xs ys : List ℕ) → ordering_then (nat_cmp (length xs) (length ys)) (slice_cmp nat_cmp xs ys) ≡ compared xs ys
as_compared xs ys = three (length xs) (length ys) (slice_cmp nat_cmp xs ys) ∙ go (ltb (length xs) (length ys)) (ltb (length ys) (length xs)) refl refl
  where
    go : (l m : Bool) → ltb (length xs) (length ys) ≡ l → ltb (length ys) (length xs) ≡ m → cond l Less (cond m Greater (slice_cmp nat_cmp xs ys)) ≡ cond l Less (cond m Greater (by_bytes xs ys))
    go true m p q = refl
    go false true p q = refl
    go false false p q = as_bytes xs ys (grind (arith, nat_tests))
