-- The first part of bytes: as many as pass a test, and what is said where it is found.
use Rattle.std.proofs.Common.{◌≡◌, ℕ, suc, Bool, true, false, cond, not, ◌&&◌, List, [], ◌∷◌, ◌++◌, length, take, drop, Some, sym, refl, ap, ◌∙◌, subst}
use Rattle.std.specs.List.{list_all}
use Rattle.std.proofs.lemmas.List.{drop_at}
use Rattle.lines.specs.Fields.{first_by}
use Rattle.expressions.specs.Classes.{starts}

-- both tests of an `and` passed
pub both : (a b : Bool) → a && b ≡ true → (a ≡ true) × (b ≡ true)
both true b e = (refl, e)
both false b e = absurd (cc)

pub and_true : (a b : Bool) → a ≡ true → b ≡ true → a && b ≡ true
and_true a b e f = rw (e, f) refl

pub not_true : (a : Bool) → not a ≡ true → a ≡ false
not_true true e = absurd (cc)
not_true false e = refl

-- how many bytes pass before the first that does not
abbrev pub run_of : (ℕ → Bool) → List ℕ → ℕ
run_of test bs = first_by (λ b. not (test b)) bs

-- all of them pass
pub every_before : (test : ℕ → Bool) (bs : List ℕ) → list_all test (take (run_of test bs) bs) ≡ true
every_before test [] = refl
every_before test (b ∷ bs) = go (test b) refl (every_before test bs)
  where
    go : (z : Bool) → test b ≡ z → list_all test (take (run_of test bs) bs) ≡ true → list_all test (take (cond (not z) 0 (suc (run_of test bs))) (b ∷ bs)) ≡ true
    go true e ih = and_true _ _ e ih
    go false e ih = refl

-- what follows them does not
pub stops_after : (test : ℕ → Bool) (bs : List ℕ) → starts test (drop (run_of test bs) bs) ≡ false
stops_after test [] = refl
stops_after test (b ∷ bs) = go (test b) refl (stops_after test bs)
  where
    go : (z : Bool) → test b ≡ z → starts test (drop (run_of test bs) bs) ≡ false → starts test (drop (cond (not z) 0 (suc (run_of test bs))) (b ∷ bs)) ≡ false
    go true e ih = ih
    go false e ih = e

-- they are as many as are written where what follows does not pass
pub run_is : (test : ℕ → Bool) (cs rest : List ℕ) → list_all test cs ≡ true → starts test rest ≡ false → run_of test (cs ++ rest) ≡ length cs
run_is test [] [] e f = refl
run_is test [] (b ∷ bs) e f = rw f refl
run_is test (c ∷ cs) rest e f =
    let p = both (test c) (list_all test cs) e in
    go (test c) p.0 (run_is test cs rest p.1 f)
  where
    go : (z : Bool) → z ≡ true → run_of test (cs ++ rest) ≡ length cs → cond (not z) 0 (suc (run_of test (cs ++ rest))) ≡ suc (length cs)
    go true e ih = ap suc ih
    go false e ih = absurd (cc)

-- what is said of a first part: it is written first, and may stand before what follows
pub record FoundPart {P : Type 0} (write : P → List ℕ) (may : P → List ℕ → Bool) (bs : List ℕ) (p : P) : Type 0 where
  pub here : write p ++ drop (length (write p)) bs ≡ bs
  pub fits : may p (drop (length (write p)) bs) ≡ true

-- a part is found where it is written, if it may stand there
pub there : {P : Type 0} {write : P → List ℕ} {may : P → List ℕ → Bool} (p : P) (rest bs : List ℕ) → bs ≡ write p ++ rest → may p rest ≡ true → FoundPart write may bs p
there {write = write} {may = may} p rest bs e f =
    let d : drop (length (write p)) bs ≡ rest = ap (drop (length (write p))) e ∙ drop_at (write p) rest _ refl in
    record { here = ap (λ x. write p ++ x) d ∙ sym e; fits = ap (may p) d ∙ f }

pub some_is : {P : Type 0} {write : P → List ℕ} {may : P → List ℕ → Bool} (p q : P) (bs : List ℕ) → Some p ≡ Some q → FoundPart write may bs p → FoundPart write may bs q
some_is {P = P} {write = write} {may = may} p q bs e f = let F : P → Type 0 = FoundPart write may bs in let i : p ≡ q = cc in subst F i f
