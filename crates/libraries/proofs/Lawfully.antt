-- What lawful definitions and their statements are, by number.
use Rattle.std.proofs.Common.{◌≡◌, ℕ, zero, suc, ◌≤◌, Bool, true, ◌&&◌, leb, List, [], ◌∷◌, length, Some, None, Option, refl, arith}
use Rattle.std.specs.List.{list_all}
use Rattle.std.proofs.lemmas.Bool.{and_parts, leb-true}
use Rattle.libraries.specs.Checks.{line_fits}
use Rattle.libraries.specs.Reads.{statements_fit}
use Rattle.libraries.specs.Definitions.{Definition, Lawful, lawful_definition, mended}
use Rattle.libraries.specs.Lookups.{item, numbered, statement_in, statement_or}
use Rattle.libraries.specs.Prototypes.{lawful_prototype}

module _ {A : Type 0} (p : A → Bool) where
  every_item : (xs : List A) (k : ℕ) (x : A) → list_all p xs ≡ true → item xs k ≡ Some x → p x ≡ true
  every_item [] k x h e = cc
  every_item (y ∷ ys) zero x h e = let first = (and_parts (p y) (list_all p ys) h).0 in cc
  every_item (y ∷ ys) (suc k) x h e = every_item ys k x (and_parts (p y) (list_all p ys) h).1 e

  every_numbered : (xs : List A) (n : ℕ) (x : A) → list_all p xs ≡ true → numbered xs n ≡ Some x → p x ≡ true
  every_numbered xs zero x h e = cc
  every_numbered xs (suc k) x h e = every_item xs k x h e

pub definition_lawful : (ds : List Definition) (n : ℕ) (d : Definition) → Lawful ds → numbered ds n ≡ Some d → lawful_definition d ≡ true
definition_lawful ds n d l e = every_numbered lawful_definition ds n d l.each e

-- a lawful definition has at most 255 statements, each of which fits
pub definition_short : (d : Definition) → lawful_definition d ≡ true → length d ≤ 255
definition_short [] l = omega arith
definition_short (p ∷ body) l =
    let a = and_parts (lawful_prototype p) (mended body && (leb (length body) 254 && list_all line_fits (p ∷ body))) l in
    let b = and_parts (mended body) (leb (length body) 254 && list_all line_fits (p ∷ body)) a.1 in
    let c = and_parts (leb (length body) 254) (list_all line_fits (p ∷ body)) b.1 in
    let short = leb-true (length body) 254 c.0 in
    omega (arith, short)

pub statement_fits : (ds : List Definition) (n s : ℕ) (t : List ℕ) → Lawful ds → statement_in ds n s ≡ Some t → line_fits t ≡ true
unfolding statement_in
statement_fits ds n s t l e = go (numbered ds n) refl e
  where
    go : (x : Option Definition) → numbered ds n ≡ x → statement_or x s ≡ Some t → line_fits t ≡ true
    go None w h = cc
    go (Some d) w h = every_numbered line_fits d s t (statements_fit d (definition_lawful ds n d l w)) h
