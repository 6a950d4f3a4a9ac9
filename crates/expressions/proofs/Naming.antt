-- The first piece of a field: what is read is there, and what is there is read.
use Rattle.std.proofs.Common.{◌≡◌, ℕ, suc, ◌≤◌, Bool, true, false, cond, not, ◌&&◌, ◌||◌, eqb, leb, List, [], ◌∷◌, ◌++◌, length, take, drop, Some, None, sym, refl, ap, ◌∙◌, subst, append_assoc, arith}
use Rattle.std.proofs.lemmas.List.{length-take-le, take-append-drop}
use Rattle.std.proofs.lemmas.Bool.Decides.{nat_tests}
use Rattle.lines.proofs.Scans.{first_within}
use Rattle.expressions.specs.Classes.{letter, digit, letter_or_digit}
use Rattle.expressions.specs.Pieces.{Piece, plain, percent, colons, symbol, joined, piece_written, begins, single, letter_first, named, fits}
use Rattle.expressions.proofs.Starts.{both, and_true, not_true, every_before, stops_after, FoundPart, there, some_is}
use Rattle.expressions.specs.Firsts.{name_length, symbol_of, after_percent, first}

-- a letter begins a name of at least one
pub named_some : (bs : List ℕ) → letter_first bs ≡ true → letter_first (take (name_length bs) bs) ≡ true
named_some [] e = e
named_some (b ∷ bs) e = go (letter b) (digit b) e
  where
    go : (l d : Bool) → l ≡ true → letter_first (take (cond (not (l || d)) 0 (suc (name_length bs))) (b ∷ bs)) ≡ true
    go true d f = e
    go false d f = absurd (cc)

-- what is said of a first piece
abbrev pub Found : List ℕ → Piece → Type 0
Found bs p = FoundPart piece_written fits bs p

-- the length of a symbol's name, and the name, are those of its first piece
pub named_is : (bs : List ℕ) → letter_first bs ≡ true → name_length bs ≤ 7 → named (take (name_length bs) bs) ≡ true
named_is bs l h =
    let n = length-take-le (name_length bs) bs (first_within (λ b. not (letter_or_digit b)) bs) in
    let few : leb (length (take (name_length bs) bs)) 7 ≡ true = grind (arith, nat_tests) in
    and_true _ _ (named_some bs l) (and_true _ _ (every_before letter_or_digit bs) few)

single_split : (bs : List ℕ) → single bs ≡ true → (rest : List ℕ) × (bs ≡ 58 ∷ rest) × (begins 58 rest ≡ false)
single_split [] e = absurd (cc)
single_split (b ∷ bs) e =
    let p = both (eqb b 58) (not (begins 58 bs)) e in
    let q : b ≡ 58 = grind (arith, nat_tests) in
    (bs, ap (λ x. x ∷ bs) q, not_true _ p.1)

-- a symbol that is read is there
symbol_found : (bs : List ℕ) → letter_first bs ≡ true → name_length bs ≤ 7 → Found (37 ∷ bs) (symbol_of (name_length bs) bs)
symbol_found bs l h = go (single (drop (name_length bs) bs)) refl
  where
    go : (z : Bool) → single (drop (name_length bs) bs) ≡ z
        → Found (37 ∷ bs) (cond z (joined (take (name_length bs) bs)) (symbol (take (name_length bs) bs)))
    go true e =
        let s = single_split (drop (name_length bs) bs) e in
        let w : 37 ∷ bs ≡ (37 ∷ (take (name_length bs) bs ++ (58 ∷ []))) ++ s.0 =
        ap (λ x. 37 ∷ x) (sym (take-append-drop (name_length bs) bs) ∙ (ap (λ x. take (name_length bs) bs ++ x) s.1 ∙ sym (append_assoc (take (name_length bs) bs) (58 ∷ []) s.0))) in
        there (joined (take (name_length bs) bs)) s.0 (37 ∷ bs) w (and_true _ _ (named_is bs l h) (ap not s.2))
    go false e =
        there (symbol (take (name_length bs) bs)) (drop (name_length bs) bs) (37 ∷ bs) (ap (λ x. 37 ∷ x) (sym (take-append-drop (name_length bs) bs)))
        (and_true _ _ (named_is bs l h) (and_true _ _ (ap not (stops_after letter_or_digit bs)) (ap not e)))

begins_split : (c : ℕ) (bs : List ℕ) → begins c bs ≡ true → (rest : List ℕ) × (bs ≡ c ∷ rest)
begins_split c [] e = absurd (cc)
begins_split c (b ∷ bs) e = let q : b ≡ c = grind (arith, nat_tests) in (bs, ap (λ x. x ∷ bs) q)

percent_found : (bs : List ℕ) (p : Piece) → after_percent bs ≡ Some p → Found (37 ∷ bs) p
percent_found bs p = go (begins 37 bs) refl
  where
    named_go : (z : Bool) → letter_first bs && leb (name_length bs) 7 ≡ z → cond z (Some (symbol_of (name_length bs) bs)) None ≡ Some p → Found (37 ∷ bs) p
    named_go true e f =
        let t = both (letter_first bs) (leb (name_length bs) 7) e in
        let few : name_length bs ≤ 7 = grind (arith, nat_tests) in
        some_is _ p (37 ∷ bs) f (symbol_found bs t.0 few)
    named_go false e f = absurd (cc)

    go : (z : Bool) → begins 37 bs ≡ z → cond z (Some percent) (cond (letter_first bs && leb (name_length bs) 7) (Some (symbol_of (name_length bs) bs)) None) ≡ Some p → Found (37 ∷ bs) p
    go true e f =
        let s = begins_split 37 bs e in
        some_is percent p (37 ∷ bs) f (there percent s.0 (37 ∷ bs) (ap (λ x. 37 ∷ x) s.1) refl)
    go false e f = named_go (letter_first bs && leb (name_length bs) 7) refl f

-- the first piece that is read is there
pub first_sound : (bs : List ℕ) (p : Piece) → first bs ≡ Some p → Found bs p
first_sound [] p e = absurd (cc)
first_sound (b ∷ bs) p e = go (eqb b 37) refl e
  where
    colon_go : (z : Bool) → eqb b 58 && begins 58 bs ≡ z → eqb b 37 ≡ false → Some (cond z colons (plain b)) ≡ Some p → Found (b ∷ bs) p
    colon_go true e n f =
        let t = both (eqb b 58) (begins 58 bs) e in
        let q : b ≡ 58 = grind (arith, nat_tests) in
        let s = begins_split 58 bs t.1 in
        some_is colons p (b ∷ bs) f (there colons s.0 (b ∷ bs) (ap (λ x. x ∷ bs) q ∙ ap (λ x. 58 ∷ x) s.1) refl)
    colon_go false e n f =
        some_is (plain b) p (b ∷ bs) f (there (plain b) bs (b ∷ bs) refl (and_true _ _ (ap not n) (ap not e)))

    go : (z : Bool) → eqb b 37 ≡ z → cond z (after_percent bs) (Some (cond (eqb b 58 && begins 58 bs) colons (plain b))) ≡ Some p → Found (b ∷ bs) p
    go true e f =
        let q : b ≡ 37 = grind (arith, nat_tests) in
        let P : ℕ → Type 0 = λ x. Found (x ∷ bs) p in
        subst P (sym q) (percent_found bs p f)
    go false e f = colon_go (eqb b 58 && begins 58 bs) refl e f
