-- The first definition of a name, one definition after another.
use Rattle.std.proofs.Common.{◌≡◌, ℕ, zero, suc, ◌+◌, ◌<◌, Bool, true, false, cond, List, [], ◌∷◌, length, get_or, drop, Some, Option, sym, refl, ap, ◌∙◌, arith, get_or-drop, get_or-take, length-drop, length-take}
use Rattle.std.specs.Str.{bytes_eq}
use Rattle.std.proofs.lemmas.List.{drop_more, drop-drop}
use Rattle.std.proofs.lemmas.Slice.Eq.{bytes_eq-Decides}
use Rattle.std.proofs.lemmas.Option.{slice_get-get_or}
use Rattle.lines.specs.Fields.{operation_of}
use Rattle.lines.specs.Names.{padded}
use Rattle.lines.specs.Texts.{lines_of}
use Rattle.sources.specs.declared.faults.DefinitionNumber.{DefinitionNumber}
use Rattle.libraries.specs.Definitions.{Definition, lawful_definition, name_of, text_definitions}
use Rattle.libraries.specs.Lookups.{found_from, found_in}
use Rattle.libraries.specs.Reads.{text_lawful}
use Rattle.libraries.proofs.Lawfully.{definition_lawful}
use Rattle.catalog.specs.declared.text.TextLibrary.{TextLibrary}
use Rattle.catalog.specs.declared.entry.Entry.{Entry}
use Rattle.catalog.specs.Entries.{nowhere, stands}
use Rattle.catalog.proofs.Numbering.{numbered_at, standing, Standing}

module _ (ds : List Definition) (name : List ℕ) where
  next : (at : ℕ) → at < length ds
      → found_from at (drop at ds) name ≡ cond (bytes_eq (name_of (get_or ds at [])) name) (Some (record { 0 = suc at })) (found_from (suc at) (drop (at + 1) ds) name)
  next at h = ap (λ xs. found_from at xs name) (drop_more ds at [] h)

  pub find_start : found_from 0 ds name ≡ found_in ds name
  unfolding found_in
  find_start = refl

  pub find_skip : (at : ℕ) (all : Option DefinitionNumber) → at < length ds → bytes_eq (name_of (get_or ds at [])) name ≡ false
      → found_from at (drop at ds) name ≡ all → found_from (at + 1) (drop (at + 1) ds) name ≡ all
  find_skip at all h other holds =
      let one : at + 1 ≡ suc at = omega arith in
      ap (λ k. found_from k (drop (at + 1) ds) name) one
      ∙ sym (next at h ∙ ap (λ z. cond z (Some (record { 0 = suc at })) (found_from (suc at) (drop (at + 1) ds) name)) other) ∙ holds

  pub find_hit : (at : ℕ) (all : Option DefinitionNumber) → at < length ds → bytes_eq (name_of (get_or ds at [])) name ≡ true
      → found_from at (drop at ds) name ≡ all → Some (record { 0 = at + 1 }) ≡ all
  find_hit at all h same holds =
      let one : at + 1 ≡ suc at = omega arith in
      ap (λ k. Some (record { 0 = k })) one
      ∙ sym (next at h ∙ ap (λ z. cond z (Some (record { 0 = suc at })) (found_from (suc at) (drop (at + 1) ds) name)) same) ∙ holds

-- a name with another first byte is another name
pub other_initial : (d : Definition) (e : Entry) (name : List ℕ) → Standing d e → (e.initial ≡ get_or name 0 0 → ⊥) → bytes_eq (name_of d) name ≡ false
other_initial d e name st differs = go (bytes_eq (name_of d) name) refl
  where
    go : (z : Bool) → bytes_eq (name_of d) name ≡ z → bytes_eq (name_of d) name ≡ false
    go false h = h
    go true h = absurd (differs (sym st.initial ∙ ap (λ n. get_or n 0 0) ((bytes_eq-Decides (name_of d) name).0 h)))

-- the name of a definition is in the second of these lines
pub record NamedIn (lines : List (List ℕ)) (d : Definition) : Type 0 where
  pub there : 1 < length lines
  pub name : name_of d ≡ padded (operation_of (get_or lines 1 []))

lawful_some : (d : Definition) → lawful_definition d ≡ true → 0 < length d
lawful_some [] l = cc
lawful_some (p ∷ body) l = omega arith

named_in : (text : List ℕ) (at : ℕ) (e : Entry) → at < length (text_definitions text) → Standing (get_or (text_definitions text) at []) e
    → NamedIn (lines_of e.lines.now) (get_or (text_definitions text) at [])
named_in text at e h st =
    let D = text_definitions text in
    let d = get_or D at [] in
    let L = lines_of e.lines.now in
    let is = numbered_at D (at + 1) at refl ∙ slice_get-get_or D at [] h in
    let some = lawful_some d (definition_lawful D (at + 1) d (text_lawful text) is) in
    let long = st.long in
    let cut = ap length st.is ∙ length-take e.statements (drop 1 L) in
    let dropped = length-drop 1 L in
    record {
      there = omega (arith, some, long, cut, dropped);
      name = ap (λ x. padded (operation_of (get_or x 0 []))) st.is ∙ ap (λ p. padded (operation_of p)) (get_or-take e.statements (drop 1 L) 0 [] (omega (arith, some, long)) ∙ get_or-drop 1 L 0 []);
    }

-- a row of the table is of the definition of its place, which has its name in the line after its MACRO line
pub record RowOf (text : List ℕ) (at : ℕ) (e : Entry) : Type 0 where
  pub within : at < length (text_definitions text)
  pub stands : Standing (get_or (text_definitions text) at []) e
  pub named : NamedIn (lines_of e.lines.now) (get_or (text_definitions text) at [])

pub row_of : (s : TextLibrary) (rows : List Entry) → rows ≡ s.entries.items → (at : ℕ) → at < length rows → RowOf s.text.now at (get_or rows at nowhere)
row_of s rows same at h =
    let text = s.text.now in
    let many = ap length same in
    let below : at < length s.entries.items = omega (arith, h, many) in
    let within : at < length (text_definitions text) = omega (arith, below, s.counted) in
    let st = standing text (get_or (text_definitions text) at []) (get_or rows at nowhere) (ap (λ es. stands text (get_or (text_definitions text) at []) (get_or es at nowhere)) same ∙ s.placed at below) in
    record { within = within; stands = st; named = named_in text at (get_or rows at nowhere) within st }

-- so many of the first two lines are read, so many are not, and the name was not in them
pub record Reading (lines : List (List ℕ)) (d : Definition) (name : List ℕ) (count more : ℕ) (left : List (List ℕ)) : Type 0 where
  pub all : count + more ≡ 2
  pub rest : left ≡ drop count lines
  pub missed : 1 < count → bytes_eq (name_of d) name ≡ false

pub reading_start : (lines : List (List ℕ)) (d : Definition) (name : List ℕ) (count more : ℕ) (left : List (List ℕ)) → count ≡ 0 → more ≡ 2 → left ≡ lines → Reading lines d name count more left
reading_start lines d name count more left none two all = record {
  all = omega (arith, none, two);
  rest = all ∙ ap (λ k. drop k lines) (sym none);
  missed = λ h. absurd (omega (arith, h, none));
}

module _ (lines : List (List ℕ)) (d : Definition) (name : List ℕ) (is : NamedIn lines d) (count more : ℕ) (left : List (List ℕ)) (r : Reading lines d name count more left) where
  pub reading_end : (0 < more → left ≡ []) → bytes_eq (name_of d) name ≡ false
  reading_end none = r.missed (go more none r.all)
    where
      go : (k : ℕ) → (0 < k → left ≡ []) → count + k ≡ 2 → 1 < count
      go zero e a = omega (arith, a)
      go (suc k) e a =
          let l = ap length (sym r.rest ∙ e (omega arith)) in
          let m = length-drop count lines in
          omega (arith, l, m, is.there)

  module _ (line : List ℕ) (left' : List (List ℕ)) (cut : left ≡ line ∷ left') where
    -- the test on the second line is the test on the name
    pub reading_name : count ≡ 1 → bytes_eq (name_of d) name ≡ bytes_eq (padded (operation_of line)) name
    reading_name one = ap (λ n. bytes_eq n name) (is.name ∙ ap (λ t. padded (operation_of t)) here)
      where
        here : get_or lines 1 [] ≡ line
        here = sym (ap (λ k. get_or (drop k lines) 0 []) one ∙ get_or-drop 1 lines 0 []) ∙ ap (λ ls. get_or ls 0 []) (sym r.rest ∙ cut)

    pub reading_more : (count' more' : ℕ) → count' ≡ count + 1 → more' + 1 ≡ more → (count ≡ 1 → bytes_eq (padded (operation_of line)) name ≡ false) → Reading lines d name count' more' left'
    reading_more count' more' on one other = record {
      all = omega (arith, on, one, r.all);
      rest = ap (drop 1) (sym cut ∙ r.rest) ∙ drop-drop 1 count lines ∙ ap (λ k. drop k lines) (sym on);
      missed = λ past. let at : count ≡ 1 = omega (arith, past, on, one, r.all) in reading_name at ∙ other at;
    }

-- the test on what is read of a line is the test on its name
pub read_is : (line word read name : List ℕ) (result : Bool) → word ≡ operation_of line → read ≡ padded word → result ≡ bytes_eq read name
    → bytes_eq (padded (operation_of line)) name ≡ result
read_is line word read name result w r t = sym (t ∙ ap (λ n. bytes_eq n name) (r ∙ ap padded w))
