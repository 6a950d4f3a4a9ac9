-- One list of definitions behind another: by number, and by name.
use Rattle.std.proofs.Common.{◌≡◌, ℕ, zero, suc, ◌+◌, ◌-◌, ◌<◌, ◌≤◌, Bool, true, false, cond, ◌&&◌, ltb, leb, List, [], ◌∷◌, ◌++◌, length, Some, None, Option, MatchOption, sym, refl, ap, ◌∙◌, arith}
use Rattle.std.specs.Str.{bytes_eq}
use Rattle.std.proofs.lemmas.Bool.{and_parts, ltb-true, ltb-false}
use Rattle.sources.specs.declared.faults.DefinitionNumber.{DefinitionNumber}
use Rattle.libraries.specs.Definitions.{Definition, name_of}
use Rattle.libraries.specs.Lookups.{found_from, found_in, item, length_in, length_or, numbered, statement_in, statement_or}
use Rattle.catalog.specs.Chained.{chained}

module _ {A : Type 0} where
  item_before : (xs ys : List A) (k : ℕ) → k < length xs → item (xs ++ ys) k ≡ item xs k
  item_before [] ys k h = absurd (omega (arith, h))
  item_before (x ∷ xs) ys zero h = refl
  item_before (x ∷ xs) ys (suc k) h = item_before xs ys k (omega (arith, h))

  item_behind : (xs ys : List A) (k : ℕ) → item (xs ++ ys) (length xs + k) ≡ item ys k
  item_behind [] ys k = ap (item ys) (omega arith)
  item_behind (x ∷ xs) ys k =
      let e : length (x ∷ xs) + k ≡ suc (length xs + k) = omega arith in
      ap (item (x ∷ (xs ++ ys))) e ∙ item_behind xs ys k

  pub numbered_before : (xs ys : List A) (n : ℕ) → n ≤ length xs → numbered (xs ++ ys) n ≡ numbered xs n
  numbered_before xs ys zero h = refl
  numbered_before xs ys (suc k) h = item_before xs ys k (omega (arith, h))

  pub numbered_behind : (xs ys : List A) (n : ℕ) → length xs < n → numbered (xs ++ ys) n ≡ numbered ys (n - length xs)
  numbered_behind xs ys n h = go (n - length xs) refl
    where
      go : (k : ℕ) → n - length xs ≡ k → numbered (xs ++ ys) n ≡ numbered ys k
      go zero e = absurd (omega (arith, e, h))
      go (suc k) e =
          let m : n ≡ suc (length xs + k) = omega (arith, e) in
          ap (numbered (xs ++ ys)) m ∙ item_behind xs ys k

module _ (xs ys : List Definition) (n before : ℕ) (fits : Bool) (many : before ≡ length xs) (is : fits ≡ leb (length xs + length ys) 255) where
  -- the numbers past those of the first list are of the second, where both fit
  pub chained_behind : (ltb before n && fits) ≡ true → numbered (chained xs ys) n ≡ numbered ys (n - before)
  chained_behind e =
      let both = and_parts (ltb before n) fits e in
      let less = ltb-true before n both.0 in
      ap (λ z. numbered (cond z (xs ++ ys) xs) n) (sym is ∙ both.1) ∙ numbered_behind xs ys n (omega (arith, less, many)) ∙ ap (λ k. numbered ys (n - k)) (sym many)

  pub chained_before : (ltb before n && fits) ≡ false → numbered (chained xs ys) n ≡ numbered xs n
  chained_before e = ap (λ z. numbered (cond z (xs ++ ys) xs) n) (sym is) ∙ go fits (ltb before n) refl e
    where
      go : (z y : Bool) → ltb before n ≡ y → (y && z) ≡ false → numbered (cond z (xs ++ ys) xs) n ≡ numbered xs n
      go false y w h = refl
      go true true w h = cc
      go true false w h = numbered_before xs ys n (omega (arith, ltb-false before n w, many))

-- the same definition has the same length and statements
pub same_length : (xs ys : List Definition) (n k : ℕ) → numbered xs n ≡ numbered ys k → length_in ys k ≡ length_in xs n
unfolding length_in
same_length xs ys n k e = ap length_or (sym e)

pub same_statement : (xs ys : List Definition) (n k s : ℕ) → numbered xs n ≡ numbered ys k → statement_in ys k s ≡ statement_in xs n s
unfolding statement_in
same_statement xs ys n k s e = ap (λ o. statement_or o s) (sym e)

-- what is found in the first list is found in both
found_first : (xs ys : List Definition) (k : ℕ) (name : List ℕ) (d : DefinitionNumber) → found_from k xs name ≡ Some d → found_from k (xs ++ ys) name ≡ Some d
found_first [] ys k name d e = cc
found_first (x ∷ xs) ys k name d e = go (bytes_eq (name_of x) name) e (found_first xs ys (suc k) name d)
  where
    go : (z : Bool) → cond z (Some (record { 0 = suc k })) (found_from (suc k) xs name) ≡ Some d
        → (found_from (suc k) xs name ≡ Some d → found_from (suc k) (xs ++ ys) name ≡ Some d)
        → cond z (Some (record { 0 = suc k })) (found_from (suc k) (xs ++ ys) name) ≡ Some d
    go true h ih = h
    go false h ih = ih h

-- what is not in the first list is looked for in the second
found_behind : (xs ys : List Definition) (k : ℕ) (name : List ℕ) → found_from k xs name ≡ None → found_from k (xs ++ ys) name ≡ found_from (length xs + k) ys name
found_behind [] ys k name e = ap (λ j. found_from j ys name) (omega arith)
found_behind (x ∷ xs) ys k name e = go (bytes_eq (name_of x) name) e (found_behind xs ys (suc k) name)
  where
    go : (z : Bool) → cond z (Some (record { 0 = suc k })) (found_from (suc k) xs name) ≡ None
        → (found_from (suc k) xs name ≡ None → found_from (suc k) (xs ++ ys) name ≡ found_from (length xs + suc k) ys name)
        → cond z (Some (record { 0 = suc k })) (found_from (suc k) (xs ++ ys) name) ≡ found_from (length (x ∷ xs) + k) ys name
    go true h ih = cc
    go false h ih = ih h ∙ ap (λ j. found_from j ys name) (omega arith)

-- so many more definitions before a list move each number by as many
found_moved : (ys : List Definition) (b k : ℕ) (name : List ℕ) (d : DefinitionNumber) → found_from k ys name ≡ Some d
    → (found_from (b + k) ys name ≡ Some (record { 0 = b + d.0 })) × (d.0 ≤ k + length ys)
found_moved [] b k name d e = cc
found_moved (y ∷ ys) b k name d e = go (bytes_eq (name_of y) name) e (found_moved ys b (suc k) name d)
  where
    go : (z : Bool) → cond z (Some (record { 0 = suc k })) (found_from (suc k) ys name) ≡ Some d
        → (found_from (suc k) ys name ≡ Some d → (found_from (b + suc k) ys name ≡ Some (record { 0 = b + d.0 })) × (d.0 ≤ suc k + length ys))
        → (cond z (Some (record { 0 = suc (b + k) })) (found_from (suc (b + k)) ys name) ≡ Some (record { 0 = b + d.0 })) × (d.0 ≤ k + length (y ∷ ys))
    go true h ih =
        let m : suc k ≡ d.0 = cc in
        let o : suc (b + k) ≡ b + d.0 = omega (arith, m) in
        (ap (λ j. Some (record { 0 = j })) o, omega (arith, m))
    go false h ih =
        let r = ih h in
        (ap (λ j. found_from j ys name) (omega arith) ∙ r.0, omega (arith, r.1))

found_none_moved : (ys : List Definition) (j k : ℕ) (name : List ℕ) → found_from k ys name ≡ None → found_from j ys name ≡ None
found_none_moved [] j k name e = refl
found_none_moved (y ∷ ys) j k name e = go (bytes_eq (name_of y) name) e (found_none_moved ys (suc j) (suc k) name)
  where
    go : (z : Bool) → cond z (Some (record { 0 = suc k })) (found_from (suc k) ys name) ≡ None → (found_from (suc k) ys name ≡ None → found_from (suc j) ys name ≡ None)
        → cond z (Some (record { 0 = suc j })) (found_from (suc j) ys name) ≡ None
    go true h ih = cc
    go false h ih = ih h

module _ (xs ys : List Definition) (name : List ℕ) where
  pub chained_first : (d : DefinitionNumber) → Some d ≡ found_in xs name → Some d ≡ found_in (chained xs ys) name
  unfolding found_in
  chained_first d e = sym (go (leb (length xs + length ys) 255))
    where
      go : (z : Bool) → found_from 0 (cond z (xs ++ ys) xs) name ≡ Some d
      go true = found_first xs ys 0 name d (sym e)
      go false = sym e

  pub chained_alone : false ≡ leb (length xs + length ys) 255 → None ≡ found_in xs name → None ≡ found_in (chained xs ys) name
  unfolding found_in
  chained_alone w e = e ∙ ap (λ z. found_from 0 (cond z (xs ++ ys) xs) name) w

  pub chained_second : (d : DefinitionNumber) (b : ℕ) → b ≡ length xs → true ≡ leb (length xs + length ys) 255 → None ≡ found_in xs name → Some d ≡ found_in ys name
      → Some (record { 0 = b + d.0 }) ≡ found_in (chained xs ys) name
  unfolding found_in
  chained_second d b m w e f =
      let o : length xs + 0 ≡ length xs = omega arith in
      ap (λ j. Some (record { 0 = j + d.0 })) m ∙ sym (found_moved ys (length xs) 0 name d (sym f)).0 ∙ sym (found_behind xs ys 0 name (sym e)) ∙ ap (λ z. found_from 0 (cond z (xs ++ ys) xs) name) w

  pub chained_neither : true ≡ leb (length xs + length ys) 255 → None ≡ found_in xs name → None ≡ found_in ys name → None ≡ found_in (chained xs ys) name
  unfolding found_in
  chained_neither w e f =
      sym (found_none_moved ys (length xs + 0) 0 name (sym f)) ∙ sym (found_behind xs ys 0 name (sym e)) ∙ ap (λ z. found_from 0 (cond z (xs ++ ys) xs) name) w

  pub second_within : (d : DefinitionNumber) → Some d ≡ found_in ys name → d.0 ≤ length ys
  unfolding found_in
  second_within d f = omega (arith, (found_moved ys 0 0 name d (sym f)).1)

  -- what is found in the first list, or else in the second
  pub found_either : (r z : Option DefinitionNumber) (P : Type 0) → r ≡ found_in xs name → MatchOption r P (λ d. z ≡ Some d)
      → (P → None ≡ found_in xs name → z ≡ found_in (chained xs ys) name) → z ≡ found_in (chained xs ys) name
  found_either None z P e h behind = behind h e
  found_either (Some d) z P e h behind = h ∙ chained_first d e
