-- Walking over the lines of a text.
use Rattle.std.proofs.Common.{◌≡◌, ℕ, zero, suc, ◌+◌, ◌-◌, ◌<◌, ◌≤◌, ◌≢◌, Bool, true, false, cond, ltb, List, [], ◌∷◌, length, get_or, take, drop, sym, refl, ap, ◌∙◌, arith, drop-drop, length-drop}
use Rattle.std.proofs.lemmas.Bool.{ltb-true, ltb-false}
use Rattle.std.proofs.lemmas.List.{drop_all}
use Rattle.lines.specs.Texts.{first_end, first_line, lines_of, past_line}
use Rattle.lines.proofs.Splitting.{first_line as lines_first, lines_cut}
use Rattle.libraries.specs.Checks.{body_kind, ends}
use Rattle.libraries.specs.Definitions.{before, closes, grouped}
use Rattle.catalog.specs.Entries.{after, runs}

-- the lines after the first n
pub lines_after : (n : ℕ) (t : List ℕ) → lines_of (after n t) ≡ drop n (lines_of t)
lines_after zero t = refl
lines_after (suc n) [] = lines_after n (past_line []) ∙ nothing n
  where
    nothing : (k : ℕ) → drop k (lines_of []) ≡ []
    nothing zero = refl
    nothing (suc k) = refl
lines_after (suc n) (b ∷ bs) = lines_after n (past_line (b ∷ bs)) ∙ ap (drop (suc n)) (sym (lines_first (b ∷ bs) (omega arith)))

-- what follows some lines is an end of the text
pub after_length : (n : ℕ) (t : List ℕ) → length (after n t) ≤ length t
after_length zero t = omega arith
after_length (suc n) t =
    let l = length-drop (first_end t + 1) t in
    let ih = after_length n (past_line t) in
    omega (arith, l, ih)

-- r is an end of t
pub record EndOf (t r : List ℕ) : Type 0 where
  pub is : r ≡ drop (length t - length r) t
  pub short : length r ≤ length t

pub end_whole : (t : List ℕ) → EndOf t t
end_whole t = record { is = ap (λ n. drop n t) none; short = omega arith }
  where
    none : 0 ≡ length t - length t
    none = omega arith

pub end_drop : (t r : List ℕ) (k : ℕ) → EndOf t r → EndOf t (drop k r)
end_drop t r k e = record { is = go (ltb k (length r)) refl; short = omega (arith, l, s) }
  where
    l : length (drop k r) ≡ length r - k
    l = length-drop k r

    s : length r ≤ length t
    s = e.short

    go : (z : Bool) → ltb k (length r) ≡ z → drop k r ≡ drop (length t - length (drop k r)) t
    go true h =
        let less = ltb-true k (length r) h in
        let n : (length t - length r) + k ≡ length t - length (drop k r) = omega (arith, l, s, less) in
        ap (drop k) e.is ∙ drop-drop k (length t - length r) t ∙ ap (λ x. drop x t) n
    go false h =
        let more = ltb-false k (length r) h in
        let n : length t ≤ length t - length (drop k r) = omega (arith, l, s, more) in
        drop_all k r more ∙ sym (drop_all (length t - length (drop k r)) t n)

pub end_after : (n : ℕ) (t r : List ℕ) → EndOf t r → EndOf t (after n r)
end_after zero t r e = e
end_after (suc n) t r e = end_after n t (past_line r) (end_drop t r (first_end r + 1) e)

-- the first line of a text, nothing where there is none
pub line_there : (t : List ℕ) → first_line t ≡ get_or (lines_of t) 0 []
line_there [] = refl
line_there (b ∷ bs) = sym (ap (λ ls. get_or ls 0 []) (lines_first (b ∷ bs) (omega arith)))

-- a definition goes to the first MEND
pub grouped_first : (ls : List (List ℕ)) → grouped ls true ≡ take (runs ls) ls ∷ grouped (drop (runs ls) ls) false
grouped_first [] = refl
grouped_first (t ∷ ts) = go (ends (body_kind t)) (grouped_first ts)
  where
    go : (z : Bool) → grouped ts true ≡ take (runs ts) ts ∷ grouped (drop (runs ts) ts) false
        → closes z t (grouped ts) ≡ take (cond z 1 (suc (runs ts))) (t ∷ ts) ∷ grouped (drop (cond z 1 (suc (runs ts))) (t ∷ ts)) false
    go true ih = refl
    go false ih = ap (before t) ih

pub runs_within : (ls : List (List ℕ)) → runs ls ≤ length ls
runs_within [] = omega arith
runs_within (t ∷ ts) = go (ends (body_kind t)) (runs_within ts)
  where
    go : (z : Bool) → runs ts ≤ length ts → cond z 1 (suc (runs ts)) ≤ suc (length ts)
    go true ih = omega arith
    go false ih = omega (arith, ih)

-- a text with a line, cut after its first
module _ (t line rest : List ℕ) (some : t ≢ []) (l : line ≡ first_line t) (r : rest ≡ past_line t) where
  pub cut_lines : lines_of t ≡ line ∷ lines_of rest
  cut_lines = lines_cut t t line rest refl some l r

  pub cut_shorter : length rest < length t
  cut_shorter = go t some r
    where
      go : (bs : List ℕ) → bs ≢ [] → rest ≡ past_line bs → length rest < length bs
      go [] e q = absurd (e refl)
      go (b ∷ bs) e q =
          let n = ap length q ∙ length-drop (first_end (b ∷ bs) + 1) (b ∷ bs) in
          omega (arith, n)

  -- one line more of a definition
  pub runs_last : ends (body_kind line) ≡ true → runs (lines_of t) ≡ 1
  runs_last e = ap runs cut_lines ∙ ap (λ z. cond z 1 (suc (runs (lines_of rest)))) e

  pub runs_more : ends (body_kind line) ≡ false → runs (lines_of t) ≡ suc (runs (lines_of rest))
  runs_more e = ap runs cut_lines ∙ ap (λ z. cond z 1 (suc (runs (lines_of rest)))) e

-- one line more to go past
pub after_more : (n : ℕ) (t r rest : List ℕ) → r ≡ after n t → rest ≡ past_line r → rest ≡ after (n + 1) t
after_more n t r rest at cut = cut ∙ ap past_line at ∙ go n t
  where
    go : (k : ℕ) (bs : List ℕ) → past_line (after k bs) ≡ after (k + 1) bs
    go zero bs = refl
    go (suc k) bs =
        let on : suc (k + 1) ≡ suc k + 1 = omega arith in
        go k (past_line bs) ∙ ap (λ j. after j bs) on
