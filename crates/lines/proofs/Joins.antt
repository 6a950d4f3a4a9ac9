-- The fields of a line join to the line.
use Rattle.std.proofs.Common.{◌≡◌, ℕ, suc, Bool, true, false, cond, not, ◌&&◌, eqb, List, [], ◌∷◌, ◌++◌, length, take, drop, sym, refl, ap, ◌∙◌, ap₂, arith, take-append-drop}
use Rattle.std.proofs.lemmas.Bool.{eqb-true}
use Rattle.lines.specs.declared.nest.Nest.{Nest}
use Rattle.lines.specs.Fields.{first_by, first_blank, blanks_length, word, past_blanks, past_word, from_operand, operand_of}
use Rattle.lines.specs.Laws.{blanks, Parts, Joined}
use Rattle.lines.specs.Nesting.{past, outside, end_by, operand_end, start}

-- the blanks that stand first, and the rest
blanks_first : (bs : List ℕ) → bs ≡ blanks (blanks_length bs) ++ past_blanks bs
blanks_first [] = refl
blanks_first (b ∷ bs) = go (eqb b 32) refl (blanks_first bs)
  where
    go : (z : Bool) → eqb b 32 ≡ z → bs ≡ blanks (blanks_length bs) ++ past_blanks bs
        → b ∷ bs ≡ blanks (cond (not z) 0 (suc (blanks_length bs))) ++ drop (cond (not z) 0 (suc (blanks_length bs))) (b ∷ bs)
    go true e ih = ap₂ (λ x xs. x ∷ xs) (eqb-true b 32 e) ih
    go false e ih = refl

-- a word and what follows it
word_first : (bs : List ℕ) → bs ≡ word bs ++ (blanks (blanks_length (drop (first_blank bs) bs)) ++ past_word bs)
word_first bs = sym (take-append-drop (first_blank bs) bs) ∙ ap (λ r. word bs ++ r) (blanks_first (drop (first_blank bs) bs))

-- no byte of a front passes the test by which it was cut
front_clear : (p : ℕ → Bool) (bs : List ℕ) → first_by p (take (first_by p bs) bs) ≡ length (take (first_by p bs) bs)
front_clear p [] = refl
front_clear p (b ∷ bs) = go (p b) refl (front_clear p bs)
  where
    go : (z : Bool) → p b ≡ z → first_by p (take (first_by p bs) bs) ≡ length (take (first_by p bs) bs)
        → first_by p (take (cond z 0 (suc (first_by p bs))) (b ∷ bs)) ≡ length (take (cond z 0 (suc (first_by p bs))) (b ∷ bs))
    go true e ih = refl
    go false e ih = rw e (ap suc ih)

-- where no blank follows, nothing does
word_ends : (bs : List ℕ) → Parts (blanks_length (drop (first_blank bs) bs)) (past_word bs)
word_ends [] = λ h. refl
word_ends (b ∷ bs) = go (eqb b 32) refl (word_ends bs)
  where
    go : (z : Bool) → eqb b 32 ≡ z → Parts (blanks_length (drop (first_blank bs) bs)) (past_word bs)
        → Parts (blanks_length (drop (cond z 0 (suc (first_blank bs))) (b ∷ bs))) (past_blanks (drop (cond z 0 (suc (first_blank bs))) (b ∷ bs)))
    go true e ih = rw e (λ h. absurd (omega arith))
    go false e ih = ih

-- the same of a front that ends outside apostrophes and parentheses
pub end_clear : (stop : ℕ) (s : Nest) (bs : List ℕ) → end_by stop s (take (end_by stop s bs) bs) ≡ length (take (end_by stop s bs) bs)
end_clear stop s [] = refl
end_clear stop s (b ∷ bs) = go (eqb b stop && outside s) refl (end_clear stop (past s b) bs)
  where
    go : (z : Bool) → (eqb b stop && outside s) ≡ z → end_by stop (past s b) (take (end_by stop (past s b) bs) bs) ≡ length (take (end_by stop (past s b) bs) bs)
        → end_by stop s (take (cond z 0 (suc (end_by stop (past s b) bs))) (b ∷ bs)) ≡ length (take (cond z 0 (suc (end_by stop (past s b) bs))) (b ∷ bs))
    go true e ih = refl
    go false e ih = rw e (ap suc ih)

operand_ends : (s : Nest) (bs : List ℕ) → Parts (blanks_length (drop (end_by 32 s bs) bs)) (past_blanks (drop (end_by 32 s bs) bs))
operand_ends s [] = λ h. refl
operand_ends s (b ∷ bs) = go (eqb b 32) (outside s) refl (operand_ends (past s b) bs)
  where
    go : (y z : Bool) → eqb b 32 ≡ y → Parts (blanks_length (drop (end_by 32 (past s b) bs) bs)) (past_blanks (drop (end_by 32 (past s b) bs) bs))
        → Parts (blanks_length (drop (cond (y && z) 0 (suc (end_by 32 (past s b) bs))) (b ∷ bs))) (past_blanks (drop (cond (y && z) 0 (suc (end_by 32 (past s b) bs))) (b ∷ bs)))
    go true true e ih = rw e (λ h. absurd (omega arith))
    go true false e ih = ih
    go false z e ih = ih

pub joined : (line : List ℕ) → Joined line
joined line =
    let a = past_word line in
    let b = from_operand line in
    let n = operand_end b in
    record {
      first = blanks_length (drop (first_blank line) line);
      second = blanks_length (drop (first_blank a) a);
      third = blanks_length (drop n b);
      whole = word_first line ∙ ap (λ r. word line ++ (blanks (blanks_length (drop (first_blank line) line)) ++ r))
          (word_first a ∙ ap (λ r. word a ++ (blanks (blanks_length (drop (first_blank a) a)) ++ r))
          (sym (take-append-drop n b) ∙ ap (λ r. operand_of line ++ r) (blanks_first (drop n b))));
      name = front_clear (λ x. eqb x 32) line;
      operation = front_clear (λ x. eqb x 32) a;
      operand = end_clear 32 start b;
      name_ends = word_ends line;
      operation_ends = word_ends a;
      operand_ends = operand_ends start b;
    }
