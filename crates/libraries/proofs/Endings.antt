-- The lines of a library text, one after the other.
use Rattle.std.proofs.Common.{◌≡◌, ℕ, suc, ◌-◌, length, eqb, Bool, true, false, cond, ◌&&◌, List, [], ◌∷◌, Some, None, Ok, Err, Option, MatchOption, sym, refl, ap, ◌∙◌, subst, arith}
use Rattle.std.specs.Borrow.{Bor}
use Rattle.std.specs.List.{slice_get}
use Rattle.std.specs.Option.{option_copied}
use Rattle.sources.specs.Faults.{counted}
use Rattle.lines.specs.Texts.{lines_of, first_line as first_line_of, past_line}
use Rattle.lines.proofs.Splitting.{first_line}
use Rattle.libraries.specs.declared.flaws.LibraryFault.{LibraryFault}
use Rattle.libraries.specs.Checks.{line_fits, ended, bad_from, Reading, read_in, read_on, read_from}

-- the same as bad_from, the lines asked first and then the end
abbrev pub bad_then : ℕ → Bool → List (List ℕ) → Option ℕ
bad_then n e [] = cond e None (Some n)
bad_then n e (t ∷ ts) = cond (line_fits t) (bad_then (counted n) e ts) (Some (counted n))

bad_is : (n : ℕ) (e : Bool) (t : List ℕ) (ts : List (List ℕ)) → bad_from n e (t ∷ ts) ≡ bad_then n e (t ∷ ts)
bad_is n e t [] = go (line_fits t) e
  where
    go : (z y : Bool) → cond (z && y) None (Some (counted n)) ≡ cond z (cond y None (Some (counted n))) (Some (counted n))
    go true y = refl
    go false y = refl
bad_is n e t (u ∷ us) = ap (λ x. cond (line_fits t) x (Some (counted n))) (bad_is (counted n) e u us)

pub bad_text : (text : List ℕ) → bad_then 0 (ended text) (lines_of text) ≡ bad_from 0 (ended text) (lines_of text)
bad_text [] = refl
bad_text (b ∷ bs) =
    let e = ended (b ∷ bs) in
    let P : List (List ℕ) → Type 0 = λ ls. bad_then 0 e ls ≡ bad_from 0 e ls in
    subst P (sym (first_line (b ∷ bs) (omega arith))) (sym (bad_is 0 e (first_line_of (b ∷ bs)) (lines_of (past_line (b ∷ bs)))))

-- whether a text is ended, by its last byte, if there is one
pub ended_by : (bs : List ℕ) (last : Option (Bor ℕ)) (r : Bool) → option_copied last ≡ slice_get bs (length bs - 1)
    → MatchOption last (r ≡ true) (λ b. r ≡ eqb b.now 10) → r ≡ ended bs
ended_by [] None r is m = m
ended_by [] (Some x) r is m = cc
ended_by (b ∷ []) None r is m = cc
ended_by (b ∷ []) (Some x) r is m = let e : x.now ≡ b = cc in m ∙ ap (λ y. eqb y 10) e
ended_by (b ∷ (c ∷ bs)) last r is m =
    let first : length (b ∷ (c ∷ bs)) - 1 ≡ suc (length bs) = omega arith in
    let second : length bs ≡ length (c ∷ bs) - 1 = omega arith in
    ended_by (c ∷ bs) last r (is ∙ ap (slice_get (b ∷ (c ∷ bs))) first ∙ ap (slice_get (c ∷ bs)) second) m

-- nothing is left: the end is asked
pub bad_end : (left : List (List ℕ)) (n : ℕ) (e e' : Bool) (all : Option ℕ) → left ≡ [] → e ≡ e' → bad_then n e left ≡ all → all ≡ cond e' None (Some n)
bad_end left n e e' all none is holds = sym holds ∙ ap (bad_then n e) none ∙ ap (λ z. cond z None (Some n)) is

-- the lines left are a line and others
module _ (left others : List (List ℕ)) (line : List ℕ) (n : ℕ) (cut : left ≡ line ∷ others) where
  pub bad_more : (e : Bool) (all : Option ℕ) → line_fits line ≡ true → bad_then n e left ≡ all → bad_then (counted n) e others ≡ all
  bad_more e all fine holds =
      ap (λ z. cond z (bad_then (counted n) e others) (Some (counted n))) (sym fine) ∙ sym (ap (bad_then n e) cut) ∙ holds

  pub bad_found : (e : Bool) (all : Option ℕ) → line_fits line ≡ false → bad_then n e left ≡ all → all ≡ Some (counted n)
  bad_found e all poor holds =
      sym holds ∙ ap (bad_then n e) cut ∙ ap (λ z. cond z (bad_then (counted n) e others) (Some (counted n))) poor

  pub read_more : (r r' : Reading) (all : Option LibraryFault) → read_in r.phase r (counted n) line ≡ Ok r' → read_from n left r ≡ all
      → read_from (counted n) others r' ≡ all
  read_more r r' all fine holds =
      ap (λ x. read_on x (read_from (counted n) others)) (sym fine) ∙ sym (ap (λ ls. read_from n ls r) cut) ∙ holds

  pub read_found : (r : Reading) (f : LibraryFault) (all : Option LibraryFault) → read_in r.phase r (counted n) line ≡ Err f → read_from n left r ≡ all → all ≡ Some f
  read_found r f all poor holds =
      sym holds ∙ ap (λ ls. read_from n ls r) cut ∙ ap (λ x. read_on x (read_from (counted n) others)) poor
