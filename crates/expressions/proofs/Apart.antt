-- The words of a tree that stands are read as they are written: what follows digits or a name is no part of them.
use Rattle.std.proofs.Common.{◌≡◌, ℕ, suc, Bool, true, false, cond, not, ◌&&◌, ltb, List, [], ◌∷◌, ◌++◌, sym, refl, ap, ◌∙◌, append_assoc}
use Rattle.expressions.specs.declared.level.Op.{Op}
use Rattle.expressions.specs.declared.level.Op.TheVariants.{Plus, Minus, Times, Over}
use Rattle.expressions.specs.Joins.{join_of, lawful_of, PartsOf}
use Rattle.expressions.specs.Pieces.{goes_on}
use Rattle.expressions.specs.Trees.{Tree, number, name, signed, applied, group, Word, operator, close, words_of, word_written, word_fits, op_byte, digit_first, additive, Shape, as_sum, as_product, as_factor, takes_sign, takes_sum, takes_product, left_place, stands, Writes}
use Rattle.expressions.proofs.Starts.{both, and_true}

-- bytes that go on with no digits and no name
abbrev Stops : List ℕ → Type 0
Stops end = (goes_on end ≡ false) × (digit_first end ≡ false)

operator_stops : (o : Op) (end : List ℕ) → Stops (op_byte o ∷ end)
operator_stops Plus end = (refl, refl)
operator_stops Minus end = (refl, refl)
operator_stops Times end = (refl, refl)
operator_stops Over end = (refl, refl)

join_append : (xs ys : List Word) (end : List ℕ) → join_of word_written (xs ++ ys) ++ end ≡ join_of word_written xs ++ (join_of word_written ys ++ end)
join_append [] ys end = refl
join_append (x ∷ xs) ys end =
    append_assoc (word_written x) (join_of word_written (xs ++ ys)) end
    ∙ (ap (λ z. word_written x ++ z) (join_append xs ys end) ∙ sym (append_assoc (word_written x) (join_of word_written xs) (join_of word_written ys ++ end)))

lawful_append : (xs ys : List Word) (end : List ℕ) → lawful_of word_written word_fits xs (join_of word_written ys ++ end) ≡ true → lawful_of word_written word_fits ys end ≡ true
    → lawful_of word_written word_fits (xs ++ ys) end ≡ true
lawful_append [] ys end lx ly = ly
lawful_append (x ∷ xs) ys end lx ly =
    let b = both (word_fits x (join_of word_written xs ++ (join_of word_written ys ++ end))) (lawful_of word_written word_fits xs (join_of word_written ys ++ end)) lx in
    and_true _ _ (ap (word_fits x) (join_append xs ys end) ∙ b.0) (lawful_append xs ys end b.1 ly)

-- both sides of an operation stand somewhere
sides : (most n : ℕ) (s : Shape) (o : Op) (a b : Tree) → stands most n s (applied o a b) ≡ true → (p : Shape) × (q : Shape) × (stands most n p a ≡ true) × (stands most n q b ≡ true)
sides most n s o a b e = go (additive o) e
  where
    go : (z : Bool) → cond z (takes_sum s && (stands most n as_sum a && stands most n as_product b)) (takes_product s && (stands most n (left_place s) a && stands most n as_factor b)) ≡ true
        → (p : Shape) × (q : Shape) × (stands most n p a ≡ true) × (stands most n q b ≡ true)
    go true f =
        let x = both (takes_sum s) (stands most n as_sum a && stands most n as_product b) f in
        let y = both (stands most n as_sum a) (stands most n as_product b) x.1 in
        (as_sum, as_product, y.0, y.1)
    go false f =
        let x = both (takes_product s) (stands most n (left_place s) a && stands most n as_factor b) f in
        let y = both (stands most n (left_place s) a) (stands most n as_factor b) x.1 in
        (left_place s, as_factor, y.0, y.1)

lawful_words : (most n : ℕ) (s : Shape) (t : Tree) (end : List ℕ) → stands most n s t ≡ true → Stops end → lawful_of word_written word_fits (words_of t) end ≡ true
lawful_words most n s (number ds) end e stop = and_true _ _ (and_true _ _ e (ap not stop.1)) refl
lawful_words most n s (name cs) end e stop = and_true _ _ (and_true _ _ e (ap not stop.0)) refl
lawful_words most n s (signed o t) end e stop =
    let b = both (takes_sign s) (additive o && stands most n as_factor t) e in
    let f = both (additive o) (stands most n as_factor t) b.1 in
    lawful_words most n as_factor t end f.1 stop
lawful_words most n s (applied o a b) end e stop =
    let p = sides most n s o a b e in
    lawful_append (words_of a) (operator o ∷ words_of b) end
    (lawful_words most n p.0 a (op_byte o ∷ (join_of word_written (words_of b) ++ end)) p.2 (operator_stops o (join_of word_written (words_of b) ++ end)))
    (lawful_words most n p.1 b end p.3 stop)
lawful_words most n s (group t) end e stop =
    let b = both (ltb n most) (stands most (suc n) as_sum t) e in
    lawful_append (words_of t) (close ∷ []) end (lawful_words most (suc n) as_sum t (41 ∷ end) b.1 (refl, refl)) refl

-- the words of a written tree are the parts of its text
pub parts_of : (most : ℕ) (t : Tree) (text : List ℕ) → Writes most t text → PartsOf word_written word_fits (words_of t) text
parts_of most t text w = (w.words, lawful_words most 0 as_sum t [] w.whole (refl, refl))
