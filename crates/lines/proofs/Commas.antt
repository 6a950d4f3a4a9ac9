-- Dividing at commas.
use Rattle.std.proofs.Common.{◌≡◌, ℕ, zero, suc, ◌+◌, ◌<◌, Bool, true, false, cond, ◌&&◌, eqb, ltb, List, [], ◌∷◌, ◌++◌, length, take, drop, sym, refl, ap, ◌∙◌, subst, ap₂, suc-add, ◌-◌, ◌≤◌, ◌∙◌, arith, length-drop, drop-drop}
use Rattle.std.proofs.lemmas.Bool.{eqb-true, and_parts, lt-ltb, le-ltb, ltb-true}
use Rattle.std.proofs.lemmas.List.{take_rest}
use Rattle.std.proofs.lemmas.Bool.Decides.{nat_tests}
use Rattle.lines.specs.declared.nest.Nest.{Nest}
use Rattle.lines.specs.Division.{divided_from, divided, parts_after, with_commas, Clear, Divided}
use Rattle.lines.specs.Texts.{onto}
use Rattle.lines.specs.Nesting.{past, outside, end_by, start, first_comma}
use Rattle.lines.proofs.Joins.{end_clear}

ltb_suc : (a b : ℕ) → ltb (suc a) (suc b) ≡ ltb a b
ltb_suc a b = grind (arith, nat_tests)

after_suc : (z : Bool) (n b : ℕ) (bs : List ℕ) → parts_after z (suc n) (b ∷ bs) ≡ parts_after z n bs
after_suc true n b bs = rw suc-add refl
after_suc false n b bs = refl

-- the first part and the others
pub first_part : (s : Nest) (bs : List ℕ) → divided_from s bs ≡ take (end_by 44 s bs) bs ∷ parts_after (ltb (end_by 44 s bs) (length bs)) (end_by 44 s bs) bs
first_part s [] = refl
first_part s (b ∷ bs) = go (eqb b 44 && outside s) (first_part (past s b) bs)
  where
    go : (z : Bool) → divided_from (past s b) bs ≡ take (end_by 44 (past s b) bs) bs ∷ parts_after (ltb (end_by 44 (past s b) bs) (length bs)) (end_by 44 (past s b) bs) bs
        → cond z ([] ∷ divided_from start bs) (onto b (divided_from (past s b) bs))
        ≡ take (cond z 0 (suc (end_by 44 (past s b) bs))) (b ∷ bs) ∷ parts_after (ltb (cond z 0 (suc (end_by 44 (past s b) bs))) (suc (length bs))) (cond z 0 (suc (end_by 44 (past s b) bs))) (b ∷ bs)
    go true ih = let t : ltb 0 (suc (length bs)) ≡ true = lt-ltb 0 (suc (length bs)) (omega arith) in rw t refl
    go false ih =
        let n = end_by 44 (past s b) bs in
        ap (onto b) ih
        ∙ ap (λ ts. (b ∷ take n bs) ∷ ts) (sym (after_suc (ltb n (length bs)) n b bs) ∙ ap (λ z. parts_after z (suc n) (b ∷ bs)) (sym (ltb_suc n (length bs))))

join_before : (b : ℕ) (ts : List (List ℕ)) → 0 < length ts → with_commas (onto b ts) ≡ b ∷ with_commas ts
join_before b [] h = absurd (omega arith)
join_before b (t ∷ []) h = refl
join_before b (t ∷ (u ∷ us)) h = refl

some_part : (s : Nest) (bs : List ℕ) → 0 < length (divided_from s bs)
some_part s bs = let e = ap length (first_part s bs) in omega (arith, e)

join_comma : (t : List ℕ) (ts : List (List ℕ)) → 0 < length ts → with_commas (t ∷ ts) ≡ t ++ (44 ∷ with_commas ts)
join_comma t [] h = absurd (omega arith)
join_comma t (u ∷ us) h = refl

join_whole : (s : Nest) (bs : List ℕ) → with_commas (divided_from s bs) ≡ bs
join_whole s [] = refl
join_whole s (b ∷ bs) = go (eqb b 44 && outside s) refl (join_whole start bs) (join_whole (past s b) bs)
  where
    go : (z : Bool) → (eqb b 44 && outside s) ≡ z → with_commas (divided_from start bs) ≡ bs → with_commas (divided_from (past s b) bs) ≡ bs
        → with_commas (cond z ([] ∷ divided_from start bs) (onto b (divided_from (past s b) bs))) ≡ b ∷ bs
    go true e i j = join_comma [] (divided_from start bs) (some_part start bs) ∙ ap₂ (λ x xs. x ∷ xs) (sym (eqb-true b 44 (and_parts (eqb b 44) (outside s) e).0)) i
    go false e i j = join_before b (divided_from (past s b) bs) (some_part (past s b) bs) ∙ ap (λ xs. b ∷ xs) j

-- each part was cut at its first comma outside
cut_clear : (fuel : ℕ) (bs : List ℕ) → length bs < fuel → Clear (divided bs)
cut_clear zero bs h = absurd (omega arith)
cut_clear (suc fuel) bs h =
    let P : List (List ℕ) → Type 0 = λ ts. Clear ts in
    subst P (sym (first_part start bs)) (end_clear 44 start bs, go (ltb (first_comma bs) (length bs)) refl (cut_clear fuel (drop (first_comma bs + 1) bs)))
  where
    go : (z : Bool) → ltb (first_comma bs) (length bs) ≡ z → (length (drop (first_comma bs + 1) bs) < fuel → Clear (divided (drop (first_comma bs + 1) bs))) → Clear (parts_after z (first_comma bs) bs)
    go true t ih = let w = ltb-true (first_comma bs) (length bs) t in let d = length-drop (first_comma bs + 1) bs in ih (omega arith)
    go false t ih = tt

pub divides : (bs : List ℕ) → Divided bs
divides bs = record { whole = join_whole start bs; clear = cut_clear (suc (length bs)) bs (omega arith) }

module _ (bs part after : List ℕ) (n : ℕ) (at : n ≡ first_comma bs) (front : part ≡ take n bs) (back : after ≡ drop n bs) where
  -- no comma is left: there is one part
  pub last_part : length after < 1 → divided bs ≡ part ∷ []
  last_part h =
      let l = length-drop n bs in
      let e : length after ≡ length (drop n bs) = ap length back in
      let f : ltb (first_comma bs) (length bs) ≡ false = le-ltb (first_comma bs) (length bs) (omega (arith, l, e, at)) in
      first_part start bs ∙ ap₂ (λ t z. t ∷ parts_after z (first_comma bs) bs) (ap (λ k. take k bs) (sym at) ∙ sym front) f

  -- a comma is left: the other parts follow it
  pub next_part : 1 ≤ length after → divided bs ≡ part ∷ divided (take (length after - 1) (drop 1 after))
  next_part h =
      let l = length-drop n bs in
      let e : length after ≡ length (drop n bs) = ap length back in
      let t : ltb (first_comma bs) (length bs) ≡ true = lt-ltb (first_comma bs) (length bs) (omega (arith, l, e, at)) in
      let rest : drop (first_comma bs + 1) bs ≡ take (length after - 1) (drop 1 after) =
      ap (λ k. drop (k + 1) bs) (sym at) ∙ sym (drop-drop 1 n bs) ∙ ap (drop 1) (sym back) ∙ sym (take_rest after 1) in
      first_part start bs ∙ ap₂ (λ u z. u ∷ parts_after z (first_comma bs) bs) (ap (λ k. take k bs) (sym at) ∙ sym front) t ∙ ap (λ r. part ∷ divided r) rest
