-- The value of a tree whose symbols are known is a number, or lost for what its evaluation met.
use Rattle.std.proofs.Common.{◌≡◌, ℕ, Bool, true, false, cond, ◌&&◌, leb, List, [], ◌∷◌, ◌++◌, length, ℤ, pos, ◌+ℤ◌, ◌-ℤ◌, ◌*ℤ◌, neg_ℤ, Some, None, Ok, Err, Option, Result, sym, refl, ap, ◌∙◌, subst}
use lib.Signed.{quot_z}
use Rattle.expressions.specs.declared.flaws.Flaw.{Flaw}
use Rattle.expressions.specs.declared.flaws.Flaw.TheVariants.{NoForm, UnknownSymbol, NotDigits, OutOfRange, ZeroDivisor}
use Rattle.expressions.specs.declared.level.Op.{Op}
use Rattle.expressions.specs.declared.level.Op.TheVariants.{Plus, Minus, Times, Over}
use Rattle.expressions.specs.declared.symbol.Symbol.{Symbol}
use Rattle.expressions.specs.declared.symbol.Symbol.TheVariants.{Parameter, Arithmetic, Bit, Characters, Call}
use Rattle.expressions.specs.Arithmetic.{in_range, fitted, known_value, is_zero, divided, value_signed, value_applied, arithmetic, Answers}
use Rattle.expressions.specs.Classes.{digits}
use Rattle.expressions.specs.Numbers.{number_of, ranged, value_of}
use Rattle.expressions.specs.Pieces.{Table, is_known, name_of}
use Rattle.expressions.specs.Texts.{text_of}
use Rattle.expressions.specs.Trees.{Tree, number, name, signed, applied, group, Word, operator, close, words_of, word_known, words_known, value_in, Writes, Worked}
use Rattle.expressions.proofs.Starts.{both}

-- met by evaluation
abbrev Met : Flaw → Type 0
Met NoForm = ⊥
Met UnknownSymbol = ⊥
Met NotDigits = Unit {0}
Met OutOfRange = Unit {0}
Met ZeroDivisor = Unit {0}

abbrev FineV : Result ℤ Flaw → Type 0
FineV (Ok z) = Unit {0}
FineV (Err f) = Met f

fine_fitted : (z : ℤ) → FineV (fitted z)
fine_fitted z = go (in_range z)
  where
    go : (b : Bool) → FineV (cond b (Ok z) (Err OutOfRange))
    go true = tt
    go false = tt

fine_ranged : (n : ℕ) → FineV (ranged n)
fine_ranged n = go (leb n 2147483647)
  where
    go : (b : Bool) → FineV (cond b (Ok (pos n)) (Err OutOfRange))
    go true = tt
    go false = tt

fine_number : (t : List ℕ) → FineV (number_of t)
fine_number t = go (digits t && (leb 1 (length t) && leb (length t) 10))
  where
    go : (b : Bool) → FineV (cond b (ranged (value_of t)) (Err NotDigits))
    go true = fine_ranged (value_of t)
    go false = tt

fine_symbol : (o : Option Symbol) → is_known o ≡ true → FineV (known_value o)
fine_symbol None e = absurd (cc)
fine_symbol (Some (Parameter t)) e = fine_number (text_of t)
fine_symbol (Some (Arithmetic z)) e = tt
fine_symbol (Some (Bit b)) e = tt
fine_symbol (Some (Characters t)) e = fine_number (text_of t)
fine_symbol (Some (Call n)) e = tt

fine_signed : (o : Op) (v : Result ℤ Flaw) → FineV v → FineV (value_signed o v)
fine_signed Plus (Ok z) h = tt
fine_signed Minus (Ok z) h = fine_fitted (neg_ℤ z)
fine_signed Times (Ok z) h = tt
fine_signed Over (Ok z) h = tt
fine_signed o (Err f) h = h

fine_divided : (a b : ℤ) → FineV (divided a b)
fine_divided a b = go (is_zero b)
  where
    go : (z : Bool) → FineV (cond z (Err ZeroDivisor) (fitted (quot_z a b)))
    go true = tt
    go false = fine_fitted (quot_z a b)

fine_applied : (o : Op) (v w : Result ℤ Flaw) → FineV v → FineV w → FineV (value_applied o v w)
fine_applied Plus (Ok a) (Ok b) h k = fine_fitted (a +ℤ b)
fine_applied Minus (Ok a) (Ok b) h k = fine_fitted (a -ℤ b)
fine_applied Times (Ok a) (Ok b) h k = fine_fitted (a *ℤ b)
fine_applied Over (Ok a) (Ok b) h k = fine_divided a b
fine_applied o (Ok a) (Err f) h k = k
fine_applied o (Err f) w h k = h

known_parts : (σ : Table) (xs ys : List Word) → words_known σ (xs ++ ys) ≡ true → (words_known σ xs ≡ true) × (words_known σ ys ≡ true)
known_parts σ [] ys e = (refl, e)
known_parts σ (x ∷ xs) ys e =
    let b = both (word_known σ x) (words_known σ (xs ++ ys)) e in
    let r = known_parts σ xs ys b.1 in
    (ap (λ z. z && words_known σ xs) b.0 ∙ r.0, r.1)

fine_tree : (σ : Table) (t : Tree) → words_known σ (words_of t) ≡ true → FineV (value_in arithmetic σ t)
fine_tree σ (number ds) e = fine_ranged (value_of ds)
fine_tree σ (name cs) e = fine_symbol (σ (name_of cs)) (both (is_known (σ (name_of cs))) true e).0
fine_tree σ (signed o t) e = fine_signed o (value_in arithmetic σ t) (fine_tree σ t e)
fine_tree σ (applied o a b) e =
    let p = known_parts σ (words_of a) (operator o ∷ words_of b) e in
    fine_applied o (value_in arithmetic σ a) (value_in arithmetic σ b) (fine_tree σ a p.0) (fine_tree σ b p.1)
fine_tree σ (group t) e = fine_tree σ t (known_parts σ (words_of t) (close ∷ []) e).0

-- a lost value is told by its flaw
tells_lost : (σ : Table) (text : List ℕ) (t : Tree) (f : Flaw) → Writes 15 t text → words_known σ (words_of t) ≡ true → Err f ≡ value_in arithmetic σ t → Answers σ text (Err f)
tells_lost σ text t f w k e =
    let P : Result ℤ Flaw → Type 0 = FineV in
    go f (sym e) (subst P (sym e) (fine_tree σ t k))
  where
    go : (g : Flaw) → value_in arithmetic σ t ≡ Err g → Met g → Answers σ text (Err g)
    go NoForm h m = absurd m
    go UnknownSymbol h m = absurd m
    go NotDigits h m = (t, (w, k), h)
    go OutOfRange h m = (t, (w, k), h)
    go ZeroDivisor h m = (t, (w, k), h)

-- what working out gives is what an expression answers
pub answered : (σ : Table) (text : List ℕ) (r : Result ℤ Flaw) → Worked arithmetic σ 15 text (Ok r) → Answers σ text r
answered σ text (Ok z) w = (w.0, (w.1, w.2), sym w.3)
answered σ text (Err f) w = tells_lost σ text w.0 f w.1 w.2 w.3
