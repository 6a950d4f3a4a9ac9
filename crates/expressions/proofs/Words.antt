-- The first word of an expression: what is read is there, and what is there is read.
use Rattle.std.proofs.Common.{◌≡◌, ℕ, suc, ◌≤◌, Bool, true, false, cond, not, ◌&&◌, eqb, leb, List, [], ◌∷◌, ◌++◌, length, take, drop, Some, None, Option, sym, refl, ap, ◌∙◌, subst, arith}
use Rattle.std.specs.List.{list_all}
use Rattle.std.proofs.lemmas.List.{take-append-drop, take_at}
use Rattle.std.proofs.lemmas.Bool.Decides.{nat_tests}
use Rattle.expressions.specs.declared.level.Op.TheVariants.{Plus, Minus, Times, Over}
use Rattle.expressions.specs.Classes.{digit, letter_or_digit, digits}
use Rattle.expressions.specs.Firsts.{name_length}
use Rattle.expressions.specs.Pieces.{letter_first, goes_on, named}
use Rattle.expressions.specs.Trees.{Word, numeral, variable, operator, open', close, word_written, word_fits, digit_first}
use Rattle.expressions.specs.Walks.{digits_length, variable_at, mark_at, first_word_of}
use Rattle.expressions.proofs.Starts.{both, and_true, not_true, every_before, stops_after, run_is, FoundPart, there, some_is}
use Rattle.expressions.proofs.Naming.{named_is}
use Rattle.expressions.proofs.Joining.{Reader}

numeral_found : (b : ℕ) (bs : List ℕ) → digit b ≡ true → FoundPart word_written word_fits (b ∷ bs) (numeral (take (digits_length (b ∷ bs)) (b ∷ bs)))
numeral_found b bs e =
    let cs = b ∷ bs in
    let f : digit_first (take (digits_length cs) cs) ≡ true = ap (λ z. digit_first (take (cond (not z) 0 (suc (digits_length bs))) cs)) e ∙ e in
    there (numeral (take (digits_length cs) cs)) (drop (digits_length cs) cs) cs (sym (take-append-drop (digits_length cs) cs))
    (and_true _ _ (and_true _ _ f (every_before digit cs)) (ap not (stops_after digit cs)))

variable_found : (bs : List ℕ) (p : Word) → variable_at bs ≡ Some p → FoundPart word_written word_fits (37 ∷ bs) p
variable_found bs p f = go (letter_first bs && leb (name_length bs) 7) refl f
  where
    go : (z : Bool) → letter_first bs && leb (name_length bs) 7 ≡ z → cond z (Some (variable (take (name_length bs) bs))) None ≡ Some p → FoundPart word_written word_fits (37 ∷ bs) p
    go true e f =
        let t = both (letter_first bs) (leb (name_length bs) 7) e in
        let few : name_length bs ≤ 7 = grind (arith, nat_tests) in
        some_is _ p (37 ∷ bs) f (there (variable (take (name_length bs) bs)) (drop (name_length bs) bs) (37 ∷ bs) (ap (λ x. 37 ∷ x) (sym (take-append-drop (name_length bs) bs)))
        (and_true _ _ (named_is bs t.0 few) (ap not (stops_after letter_or_digit bs))))
    go false e f = absurd (cc)

mark_one : (b k : ℕ) (bs : List ℕ) (p q : Word) (other : Option Word) → word_written p ≡ k ∷ [] → ((rest : List ℕ) → word_fits p rest ≡ true)
    → (other ≡ Some q → FoundPart word_written word_fits (b ∷ bs) q) → cond (eqb b k) (Some p) other ≡ Some q → FoundPart word_written word_fits (b ∷ bs) q
mark_one b k bs p q other is may else f = go (eqb b k) refl f
  where
    go : (z : Bool) → eqb b k ≡ z → cond z (Some p) other ≡ Some q → FoundPart word_written word_fits (b ∷ bs) q
    go true e g =
        let i : b ≡ k = grind (arith, nat_tests) in
        some_is p q (b ∷ bs) g (there p bs (b ∷ bs) (ap (λ x. x ∷ bs) i ∙ ap (λ x. x ++ bs) (sym is)) (may bs))
    go false e g = else g

mark_found : (b : ℕ) (bs : List ℕ) (q : Word) → mark_at b ≡ Some q → FoundPart word_written word_fits (b ∷ bs) q
mark_found b bs q f =
    mark_one b 43 bs (operator Plus) q _ refl (λ _. refl)
    (mark_one b 45 bs (operator Minus) q _ refl (λ _. refl)
    (mark_one b 42 bs (operator Times) q _ refl (λ _. refl)
    (mark_one b 47 bs (operator Over) q _ refl (λ _. refl)
    (mark_one b 40 bs open' q _ refl (λ _. refl)
    (mark_one b 41 bs close q None refl (λ _. refl) (λ g. absurd (cc))))))) f

pub word_sound : (bs : List ℕ) (p : Word) → first_word_of bs ≡ Some p → FoundPart word_written word_fits bs p
word_sound [] p e = absurd (cc)
word_sound (b ∷ bs) p e = go (digit b) refl e
  where
    mark_go : (z : Bool) → eqb b 37 ≡ z → cond z (variable_at bs) (mark_at b) ≡ Some p → FoundPart word_written word_fits (b ∷ bs) p
    mark_go true e f =
        let q : b ≡ 37 = grind (arith, nat_tests) in
        let P : ℕ → Type 0 = λ x. FoundPart word_written word_fits (x ∷ bs) p in
        subst P (sym q) (variable_found bs p f)
    mark_go false e f = mark_found b bs p f

    go : (z : Bool) → digit b ≡ z → cond z (Some (numeral (take (digits_length (b ∷ bs)) (b ∷ bs)))) (cond (eqb b 37) (variable_at bs) (mark_at b)) ≡ Some p → FoundPart word_written word_fits (b ∷ bs) p
    go true e f = some_is _ p (b ∷ bs) f (numeral_found b bs e)
    go false e f = mark_go (eqb b 37) refl f

letter_stays : (cs rest : List ℕ) → letter_first cs ≡ true → letter_first (cs ++ rest) ≡ true
letter_stays [] rest e = absurd (cc)
letter_stays (c ∷ cs) rest e = e

pub word_complete : (p : Word) (rest : List ℕ) → word_fits p rest ≡ true → first_word_of (word_written p ++ rest) ≡ Some p
word_complete (numeral []) rest e = absurd (cc)
word_complete (numeral (d ∷ ds)) rest e =
    let a = both (digit d && digits (d ∷ ds)) (not (digit_first rest)) e in
    let b = both (digit d) (digits (d ∷ ds)) a.0 in
    let n : digits_length ((d ∷ ds) ++ rest) ≡ length (d ∷ ds) = run_is digit (d ∷ ds) rest b.1 (not_true _ a.1) in
    let t : take (digits_length ((d ∷ ds) ++ rest)) ((d ∷ ds) ++ rest) ≡ d ∷ ds = ap (λ k. take k ((d ∷ ds) ++ rest)) n ∙ take_at (d ∷ ds) rest _ refl in
    ap (λ z. cond z (Some (numeral (take (digits_length ((d ∷ ds) ++ rest)) ((d ∷ ds) ++ rest)))) (cond (eqb d 37) (variable_at (ds ++ rest)) (mark_at d))) b.0 ∙ ap (λ x. Some (numeral x)) t
word_complete (variable cs) rest e =
    let c = both (named cs) (not (goes_on rest)) e in
    let a = both (letter_first cs) (list_all letter_or_digit cs && leb (length cs) 7) c.0 in
    let b = both (list_all letter_or_digit cs) (leb (length cs) 7) a.1 in
    let n : name_length (cs ++ rest) ≡ length cs = run_is letter_or_digit cs rest b.0 (not_true _ c.1) in
    let few : leb (name_length (cs ++ rest)) 7 ≡ true = ap (λ k. leb k 7) n ∙ b.1 in
    let t : take (name_length (cs ++ rest)) (cs ++ rest) ≡ cs = ap (λ k. take k (cs ++ rest)) n ∙ take_at cs rest _ refl in
    let test : letter_first (cs ++ rest) && leb (name_length (cs ++ rest)) 7 ≡ true = and_true _ _ (letter_stays cs rest a.0) few in
    ap (λ z. cond z (Some (variable (take (name_length (cs ++ rest)) (cs ++ rest)))) None) test ∙ ap (λ x. Some (variable x)) t
word_complete (operator Plus) rest e = refl
word_complete (operator Minus) rest e = refl
word_complete (operator Times) rest e = refl
word_complete (operator Over) rest e = refl
word_complete open' rest e = refl
word_complete close rest e = refl

-- words are read from the left
abbrev pub word_reader : Reader Word
word_reader = record { write = word_written; may = word_fits; front = first_word_of; empty = refl; sound = word_sound; complete = word_complete }
