-- The table of a text's definitions, an entry at a time.
use Rattle.std.proofs.Common.{Decides, ◌≡◌, ℕ, suc, ◌+◌, ◌-◌, ◌<◌, ◌≤◌, ◌≢◌, Bool, true, false, cond, ◌&&◌, eqb, ltb, leb, leb-true, List, [], ◌∷◌, ◌++◌, length, get_or, take, drop, None, sym, refl, ap, ◌∙◌, subst, ap₂, arith, length-append, length-drop, length-take-le}
use Rattle.std.specs.Str.{bytes_eq}
use Rattle.std.proofs.Math.Seq.{get_or-append_seam}
use Rattle.std.proofs.lemmas.List.{drop_more, get_or_append_left}
use Rattle.std.proofs.lemmas.Slice.Eq.{bytes_eq-Decides, slice_eq-Decides}
use Rattle.std.proofs.lemmas.Bool.{and_from, and_parts, eq-eqb, le-leb, ltb-true, ltb-false}
use Rattle.lines.specs.Fields.{operation_of}
use Rattle.lines.specs.Names.{padded}
use Rattle.lines.specs.Texts.{first_line, lines_of, past_line}
use Rattle.libraries.specs.Checks.{body_kind, check_of, ends}
use Rattle.libraries.specs.Definitions.{Definition, grouped, text_definitions}
use Rattle.libraries.specs.Reads.{passed_some, text_lawful}
use Rattle.catalog.specs.declared.entry.Entry.{Entry}
use Rattle.catalog.specs.Entries.{after, definition_at, ends_in, initial_of, nowhere, runs, same, stands}
use Rattle.catalog.proofs.Walks.{EndOf, after_length, cut_lines, cut_shorter, end_after, end_whole, grouped_first, line_there, lines_after, runs_within}

-- the test of two definitions tells whether they are the same
pub same_decides : (xs ys : Definition) → Decides (same xs ys) (xs ≡ ys)
same_decides xs ys = slice_eq-Decides bytes_eq-Decides xs ys (same xs ys) refl

-- the test of an end of a text holds of an end of it
end_tests : (text r : List ℕ) → EndOf text r → ends_in text r ≡ true
end_tests text r end =
    let at : List ℕ = drop (length text - length r) text in
    and_from (leb (length r) (length text)) (bytes_eq r at) (le-leb (length r) (length text) end.short) ((bytes_eq-Decides r at).1 end.is)

-- and tells that it is one
pub end_told : (text r : List ℕ) → ends_in text r ≡ true → EndOf text r
end_told text r h =
    let at : List ℕ = drop (length text - length r) text in
    let both = and_parts (leb (length r) (length text)) (bytes_eq r at) h in
    record { is = (bytes_eq-Decides r at).0 both.1; short = leb-true (length r) (length text) both.0 }

-- the definitions of a lawful text, all of them
abbrev pub all : List ℕ → List Definition
all text = grouped (lines_of text) false

-- the table has the first definitions, and the rest of the text has the others
pub record Indexed (text : List ℕ) (entries : List Entry) (rest : List ℕ) : Type 0 where
  pub end : EndOf text rest
  pub within : length entries ≤ length (all text)
  pub left : drop (length entries) (all text) ≡ all rest
  pub placed : (i : ℕ) → i < length entries → stands text (get_or (all text) i []) (get_or entries i nowhere) ≡ true

pub indexed_none : (text : List ℕ) → Indexed text [] text
indexed_none text = record {
  end = end_whole text;
  within = omega arith;
  left = refl;
  placed = λ i h. absurd (omega (arith, h));
}

head_run : (ls : List (List ℕ)) → get_or (take (runs ls) ls) 0 [] ≡ get_or ls 0 []
head_run [] = refl
head_run (t ∷ ts) = go (ends (body_kind t))
  where
    go : (z : Bool) → get_or (take (cond z 1 (suc (runs ts))) (t ∷ ts)) 0 [] ≡ t
    go true = refl
    go false = refl

cons_head : {A : Type 0} (x y d : A) (xs ys : List A) → ◌≡◌ {A = List A} (x ∷ xs) (y ∷ ys) → x ≡ y
cons_head x y d xs ys e = ap (λ l. get_or l 0 d) e

cons_tail : {A : Type 0} (x y : A) (xs ys : List A) → ◌≡◌ {A = List A} (x ∷ xs) (y ∷ ys) → xs ≡ ys
cons_tail x y xs ys e = ap (drop 1) e

module _ (text rest opening body : List ℕ) (some : rest ≢ []) (first : opening ≡ first_line rest) (is : body ≡ past_line rest) where
  begins : lines_of rest ≡ opening ∷ lines_of body
  begins = cut_lines rest opening body some first is

  -- the definition that begins the rest, and the others
  next : grouped (lines_of rest) false ≡ take (runs (lines_of body)) (lines_of body) ∷ grouped (drop (runs (lines_of body)) (lines_of body)) false
  next = ap (λ ls. grouped ls false) begins ∙ grouped_first (lines_of body)

  -- it stands where its entry says
  it_stands : (e : Entry) → EndOf text rest → e.lines.now ≡ rest → e.statements ≡ runs (lines_of body)
      → e.initial ≡ get_or (padded (operation_of (first_line body))) 0 0 → stands text (take (runs (lines_of body)) (lines_of body)) e ≡ true
  it_stands e end s n i =
      let d = take (runs (lines_of body)) (lines_of body) in
      let there : definition_at e ≡ d =
      ap₂ (λ k t. take k (drop 1 (lines_of t))) n s
      ∙ ap (λ ls. take (runs (lines_of body)) (drop 1 ls)) begins in
      let named : initial_of d ≡ e.initial =
      ap (λ p. get_or (padded (operation_of p)) 0 0) (head_run (lines_of body) ∙ sym (line_there body)) ∙ sym i in
      let long : length d ≡ e.statements = length-take-le (runs (lines_of body)) (lines_of body) (runs_within (lines_of body)) ∙ sym n in
      let inside : ends_in text e.lines.now ≡ true = ap (ends_in text) s ∙ end_tests text rest end in
      and_from (ends_in text e.lines.now && same d (definition_at e)) _ (and_from (ends_in text e.lines.now) _ inside ((same_decides d (definition_at e)).1 (sym there))) (and_from (eqb (length d) e.statements) _ (eq-eqb (length d) e.statements long) (eq-eqb (initial_of d) e.initial named))

  -- what follows the definition is shorter
  pub indexed_shorter : (n : ℕ) (rest' : List ℕ) → rest' ≡ after n body → length rest' < length rest
  indexed_shorter n rest' r =
      let cut = cut_shorter rest opening body some first is in
      let on = after_length n body in
      let l = ap length r in
      omega (arith, cut, on, l)

  module _ (entries : List Entry) (x : Indexed text entries rest) where
    long : length (drop (length entries) (all text)) ≡ length (all text) - length entries
    long = length-drop (length entries) (all text)

    long' : length (drop (length entries) (all text)) ≡ suc (length (grouped (drop (runs (lines_of body)) (lines_of body)) false))
    long' = ap length (x.left ∙ next)

    more : length entries < length (all text)
    more = omega (arith, long, long')

    split : get_or (all text) (length entries) [] ∷ drop (length entries + 1) (all text) ≡ take (runs (lines_of body)) (lines_of body) ∷ grouped (drop (runs (lines_of body)) (lines_of body)) false
    split = sym (drop_more (all text) (length entries) [] more) ∙ x.left ∙ next

    -- there is a definition more, and it is so long
    pub next_there : (length entries < length (all text)) × (length (get_or (all text) (length entries) []) ≡ runs (lines_of body))
    next_there = (more, ap length (cons_head _ _ [] _ _ split) ∙ length-take-le (runs (lines_of body)) (lines_of body) (runs_within (lines_of body)))

    -- there is room for one definition more of a text in which the check finds no fault
    pub indexed_room : check_of text ≡ None → length entries < 255
    indexed_room passed =
        let few = (text_lawful text).few in
        let same_many = ap length (passed_some text passed) in
        omega (arith, more, few, same_many)

    pub indexed_more : (e : Entry) (rest' : List ℕ) → e.lines.now ≡ rest → e.statements ≡ runs (lines_of body)
        → e.initial ≡ get_or (padded (operation_of (first_line body))) 0 0 → rest' ≡ after e.statements body
        → Indexed text (entries ++ e ∷ []) rest'
    indexed_more e rest' s n i r = record { end = end; within = omega (arith, more, one_more); left = left; placed = placed }
      where
        D : List Definition
        D = all text

        count : ℕ
        count = length entries

        one_more : length (entries ++ e ∷ []) ≡ length entries + 1
        one_more = length-append entries (e ∷ [])

        end : EndOf text rest'
        end = subst (EndOf text) (sym (r ∙ ap (after e.statements) is)) (end_after e.statements text (past_line rest) (end_after 1 text rest x.end))

        lines : lines_of rest' ≡ drop (runs (lines_of body)) (lines_of body)
        lines = ap lines_of (r ∙ ap (λ k. after k body) n) ∙ lines_after (runs (lines_of body)) body

        left : drop (length (entries ++ e ∷ [])) D ≡ all rest'
        left = ap (λ k. drop k D) one_more ∙ cons_tail _ _ _ _ split ∙ ap (λ ls. grouped ls false) (sym lines)

        here : stands text (get_or D (length entries) []) e ≡ true
        here = ap (λ d. stands text d e) (cons_head _ _ [] _ _ split) ∙ it_stands e x.end s n i

        placed : (k : ℕ) → k < length (entries ++ e ∷ []) → stands text (get_or D k []) (get_or (entries ++ e ∷ []) k nowhere) ≡ true
        placed k h = pick (ltb k (length entries)) refl
          where
            pick : (z : Bool) → ltb k (length entries) ≡ z → stands text (get_or D k []) (get_or (entries ++ e ∷ []) k nowhere) ≡ true
            pick true t =
                let less = ltb-true k (length entries) t in
                ap (stands text (get_or D k [])) (get_or_append_left entries (e ∷ []) nowhere k less) ∙ x.placed k less
            pick false t =
                let at : k ≡ length entries = omega (arith, h, one_more, ltb-false k (length entries) t) in
                ap (λ j. stands text (get_or D j []) (get_or (entries ++ e ∷ []) j nowhere)) at
                ∙ ap (stands text (get_or D (length entries) [])) (get_or-append_seam entries e [] nowhere) ∙ here

-- when the text is used up, the table has all definitions of a lawful text
pub record Complete (text : List ℕ) (entries : List Entry) : Type 0 where
  pub counted : length entries ≡ length (text_definitions text)
  pub placed : (i : ℕ) → i < length entries → stands text (get_or (text_definitions text) i []) (get_or entries i nowhere) ≡ true

pub indexed_done : (text : List ℕ) (entries : List Entry) (rest : List ℕ) → check_of text ≡ None → rest ≡ [] → Indexed text entries rest → Complete text entries
indexed_done text entries rest passed used x = record {
  counted = omega (arith, none, long, within, same_many);
  placed = λ i h. ap (λ ds. stands text (get_or ds i []) (get_or entries i nowhere)) is ∙ x.placed i h;
}
  where
    is : text_definitions text ≡ all text
    is = passed_some text passed

    same_many : length (text_definitions text) ≡ length (all text)
    same_many = ap length is

    within : length entries ≤ length (all text)
    within = x.within

    long : length (drop (length entries) (all text)) ≡ length (all text) - length entries
    long = length-drop (length entries) (all text)

    none : length (drop (length entries) (all text)) ≡ 0
    none = ap length (x.left ∙ ap all used)
