-- Definitions and statements by their numbers.
use Rattle.std.proofs.Common.{◌≡◌, ℕ, zero, suc, ◌+◌, ◌-◌, ◌<◌, ◌≤◌, true, ◌&&◌, eqb, ◌⊎◌, List, [], ◌∷◌, length, get_or, drop, Some, None, Option, Ok, Err, MatchOption, sym, refl, ap, ◌∙◌, inl, inr, arith, get_or-drop, get_or-take, length-drop, length-take}
use Rattle.std.specs.Borrow.{Bor}
use Rattle.std.specs.List.{HoldsAt, slice_get}
use Rattle.std.specs.Option.{option_map}
use Rattle.std.proofs.lemmas.Option.{slice_get_past, slice_get-get_or}
use Rattle.libraries.specs.declared.refusals.LibraryRefusal.TheVariants.{Missing}
use Rattle.std.proofs.lemmas.Bool.{and_parts, eqb-true}
use Rattle.lines.specs.Texts.{lines_of}
use Rattle.libraries.specs.Checks.{check_of}
use Rattle.libraries.specs.Definitions.{Definition, text_definitions}
use Rattle.libraries.specs.Lookups.{length_in, length_or, numbered, statement_in, statement_or}
use Rattle.libraries.specs.Reads.{passed_some, text_lawful}
use Rattle.libraries.proofs.Lawfully.{definition_lawful, definition_short}
use Rattle.catalog.specs.declared.text.TextLibrary.{TextLibrary}
use Rattle.catalog.specs.declared.entry.Entry.{Entry}
use Rattle.catalog.specs.Entries.{Located, definition_at, ends_in, initial_of, nowhere, same, stands}
use Rattle.catalog.proofs.Walks.{EndOf}
use Rattle.catalog.proofs.Indexes.{all, end_told, same_decides}

module _ {A : Type 0} where
  -- the one of a number is the one after so many others
  pub numbered_at : (xs : List A) (n k : ℕ) → n ≡ k + 1 → numbered xs n ≡ slice_get xs k
  numbered_at xs n k e = ap (numbered xs) (e ∙ one k) ∙ go xs k
    where
      one : (j : ℕ) → j + 1 ≡ suc j
      one j = omega arith

      go : (ys : List A) (j : ℕ) → numbered ys (suc j) ≡ slice_get ys j
      go [] j = refl
      go (y ∷ ys) zero = refl
      go (y ∷ ys) (suc j) = go ys j

  pub numbered_past : (xs : List A) (n : ℕ) → length xs < n → numbered xs n ≡ None
  numbered_past xs n h = numbered_at xs n (n - 1) (omega (arith, h)) ∙ slice_get_past xs (n - 1) (omega (arith, h))

-- what the test tells: where the definition stands
pub record Standing (d : Definition) (e : Entry) : Type 0 where
  pub is : d ≡ definition_at e
  pub long : length d ≡ e.statements
  pub initial : initial_of d ≡ e.initial

module _ (text : List ℕ) (d : Definition) (e : Entry) (h : stands text d e ≡ true) where
  halves : ((ends_in text e.lines.now && same d (definition_at e)) ≡ true) × ((eqb (length d) e.statements && eqb (initial_of d) e.initial) ≡ true)
  halves = and_parts (ends_in text e.lines.now && same d (definition_at e)) (eqb (length d) e.statements && eqb (initial_of d) e.initial) h

  left : (ends_in text e.lines.now ≡ true) × (same d (definition_at e) ≡ true)
  left = and_parts (ends_in text e.lines.now) (same d (definition_at e)) halves.0

  pub standing : Standing d e
  standing =
      let right = and_parts (eqb (length d) e.statements) (eqb (initial_of d) e.initial) halves.1 in
      record {
        is = (same_decides d (definition_at e)).0 left.1;
        long = eqb-true (length d) e.statements right.0;
        initial = eqb-true (initial_of d) e.initial right.1;
      }

  -- and that the entry holds an end of the text
  pub standing_end : EndOf text e.lines.now
  standing_end = end_told text e.lines.now left.0

-- what the row of a number tells
pub located : (s : TextLibrary) (n at : ℕ) (r : Option (Bor Entry)) → n ≡ at + 1 → MatchOption r (length s.entries.items ≤ at) (λ e. (at < length s.entries.items) × HoldsAt (λ y. e.now ≡ y) s.entries.items at)
    → Located s.text.now n (option_map (λ e. e.now) r)
located s n at None one past = numbered_past (text_definitions s.text.now) n (omega (arith, past, s.counted, one))
located s n at (Some e) one row =
    let D = text_definitions s.text.now in
    let within = row.0 in
    (get_or D at [], numbered_at D n at one ∙ slice_get-get_or D at [] (omega (arith, within, s.counted)), ap (stands s.text.now (get_or D at [])) (row.1 nowhere) ∙ s.placed at within)

-- what a borrowed line shows
pub shown : (r : Option (Bor (List ℕ))) (o : Option (List ℕ)) → o ≡ option_map (λ t. t.now) r → MatchOption r (o ≡ None) (λ t. o ≡ Some t.now)
shown None o e = e
shown (Some t) o e = e

-- the statements of a definition that is found
module _ (text : List ℕ) (n s : ℕ) where
  statement_of : (o : Option Definition) → numbered (text_definitions text) n ≡ o → statement_in (text_definitions text) n s ≡ statement_or o s
  unfolding statement_in
  statement_of o e = ap (λ x. statement_or x s) e

  pub statement_missing : Located text n None → statement_in (text_definitions text) n s ≡ None
  statement_missing none = statement_of None none

  module _ (e : Entry) (found : Located text n (Some e)) (at : ℕ) (is : at ≡ s) where
    pub statement_past : (at < 1) ⊎ (e.statements < at) → statement_in (text_definitions text) n s ≡ None
    statement_past h = statement_of (Some found.0) found.1 ∙ go s is h
      where
        go : (k : ℕ) → at ≡ k → (at < 1) ⊎ (e.statements < at) → numbered found.0 k ≡ None
        go zero q h = refl
        go (suc k) q (inl l) = absurd (omega (arith, q, l))
        go (suc k) q (inr l) =
            let long = (standing text found.0 e found.2).long in
            numbered_past found.0 (suc k) (omega (arith, q, l, long))

    -- it stands so many lines after the MACRO line
    pub statement_there : 1 ≤ at → at ≤ e.statements → statement_in (text_definitions text) n s ≡ slice_get (lines_of e.lines.now) at
    statement_there some h =
        let d = found.0 in
        let L = lines_of e.lines.now in
        let st = standing text d e found.2 in
        let one : 1 + (at - 1) ≡ at = omega (arith, some) in
        let long = st.long in
        let cut = ap length st.is ∙ length-take e.statements (drop 1 L) in
        let dropped = length-drop 1 L in
        statement_of (Some d) found.1 ∙ numbered_at d s (at - 1) (omega (arith, some, is)) ∙ slice_get-get_or d (at - 1) [] (omega (arith, some, h, long))
        ∙ ap (λ x. Some (get_or x (at - 1) [])) st.is ∙ ap Some (get_or-take e.statements (drop 1 L) (at - 1) [] (omega (arith, some, h)) ∙ get_or-drop 1 L (at - 1) [] ∙ ap (λ k. get_or L k []) one)
        ∙ sym (slice_get-get_or L at [] (omega (arith, some, h, long, cut, dropped)))

-- the length of a definition that is found
module _ (text : List ℕ) (n : ℕ) where
  length_of : (o : Option Definition) → numbered (text_definitions text) n ≡ o → length_in (text_definitions text) n ≡ length_or o
  unfolding length_in
  length_of o e = ap length_or e

  pub length_missing : Located text n None → length_in (text_definitions text) n ≡ Err Missing
  length_missing none = length_of None none

  module _ (e : Entry) (found : Located text n (Some e)) where
    pub length_there : length_in (text_definitions text) n ≡ Ok e.statements
    length_there = length_of (Some found.0) found.1 ∙ ap Ok (standing text found.0 e found.2).long

    pub length_short : e.statements ≤ 255
    length_short =
        let long = (standing text found.0 e found.2).long in
        let short = definition_short found.0 (definition_lawful (text_definitions text) n found.0 (text_lawful text) found.1) in
        omega (arith, long, short)

-- the definition of this place is no longer than a lawful one
pub place_short : (text : List ℕ) (at n : ℕ) → check_of text ≡ None → at < length (all text) → length (get_or (all text) at []) ≡ n → n ≤ 255
place_short text at n passed h long =
    let D = text_definitions text in
    let same = ap length (passed_some text passed) in
    let d = get_or D at [] in
    let there = numbered_at D (at + 1) at refl ∙ slice_get-get_or D at [] (omega (arith, h, same)) in
    let short = definition_short d (definition_lawful D (at + 1) d (text_lawful text) there) in
    let long' = ap (λ ds. length (get_or ds at [])) (passed_some text passed) ∙ long in
    omega (arith, short, long')
