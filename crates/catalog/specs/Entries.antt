-- Where the definitions of a text stand.
use Rattle.std.specs.Prelude.{◌≡◌, ℕ, zero, suc, ◌-◌, Bool, true, cond, ◌&&◌, List, [], ◌∷◌, length, take, drop, Some, None, Option, ◌==◌, nat_le, slice_index}
use lib.Pointwise.{pointwise}
use Rattle.std.specs.Str.{bytes_eq}
use Rattle.lines.specs.Texts.{lines_of, past_line}
use Rattle.libraries.specs.Checks.{body_kind, ends}
use Rattle.libraries.specs.Definitions.{Definition, name_of, text_definitions}
use Rattle.libraries.specs.Lookups.{numbered}
use Rattle.catalog.specs.declared.entry.Entry.{Entry}

-- what follows the first n lines of a text
abbrev pub after : ℕ → List ℕ → List ℕ
after zero t = t
after (suc n) t = after n (past_line t)

-- how many lines there are up to and with the first MEND
abbrev pub runs : List (List ℕ) → ℕ
runs [] = 0
runs (t ∷ ts) = cond (ends (body_kind t)) 1 (suc (runs ts))

-- the definition of an entry: so many lines after its MACRO line
abbrev pub definition_at : Entry → Definition
definition_at e = take e.statements (drop 1 (lines_of e.lines.now))

-- the two definitions are the same, as a test
abbrev pub same : Definition → Definition → Bool
same = pointwise bytes_eq

-- the first byte of a definition's name
abbrev pub initial_of : Definition → ℕ
initial_of d = slice_index (name_of d) 0

-- the text ends in these bytes, as a test
abbrev pub ends_in : List ℕ → List ℕ → Bool
ends_in text r = nat_le (length r) (length text) && bytes_eq r (drop (length text - length r) text)

-- the definition stands where the entry says, at an end of the text, as a test
abbrev pub stands : List ℕ → Definition → Entry → Bool
stands text d e = (ends_in text e.lines.now && same d (definition_at e)) && (length d == e.statements && initial_of d == e.initial)

-- the row that is read where the table has none
abbrev pub nowhere : Entry
nowhere = record { lines = record { ref_ptr = (0, 0); now = [] }; statements = 0; initial = 0 }

-- what is found of the definition of this number: where it stands, or that there is none
abbrev pub Located : List ℕ → ℕ → Option Entry → Type 0
Located text n None = numbered (text_definitions text) n ≡ None
Located text n (Some e) = (d : Definition) × (numbered (text_definitions text) n ≡ Some d) × (stands text d e ≡ true)
