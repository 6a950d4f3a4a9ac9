-- The first line of a text and the rest.
use Rattle.std.proofs.Common.{◌≡◌, ℕ, suc, ◌+◌, ◌<◌, Bool, true, false, cond, eqb, List, [], ◌∷◌, length, take, drop, sym, refl, ap, ap₂, ◌∙◌, ◌≢◌, suc-add, arith}
use Rattle.lines.specs.Texts.{onto, lines_of, first_end, first_line as first_line_of, past_line}

pub first_line : (bs : List ℕ) → 0 < length bs → lines_of bs ≡ take (first_end bs) bs ∷ lines_of (drop (first_end bs + 1) bs)
first_line [] h = absurd (omega arith)
first_line (b ∷ bs) h = go (eqb b 10) bs (first_line bs)
  where
    go : (z : Bool) (cs : List ℕ) → (0 < length cs → lines_of cs ≡ take (first_end cs) cs ∷ lines_of (drop (first_end cs + 1) cs))
        → cond z ([] ∷ lines_of cs) (onto b (lines_of cs)) ≡ take (cond z 0 (suc (first_end cs))) (b ∷ cs) ∷ lines_of (drop (cond z 0 (suc (first_end cs)) + 1) (b ∷ cs))
    go true cs ih = refl
    go false [] ih = refl
    go false (d ∷ ds) ih = rw suc-add (ap (onto b) (ih (omega arith)))

-- the same where the line and the rest are cut from what is left of a text
pub lines_cut : (t left line rest : List ℕ) → t ≡ left → t ≢ [] → line ≡ first_line_of t → rest ≡ past_line t → lines_of left ≡ line ∷ lines_of rest
lines_cut [] left line rest same some l r = absurd (some refl)
lines_cut (b ∷ bs) left line rest same some l r =
    ap lines_of (sym same) ∙ first_line (b ∷ bs) (omega arith) ∙ ap₂ (λ x xs. x ∷ lines_of xs) (sym l) (sym r)
