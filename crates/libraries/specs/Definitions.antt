-- Definitions, and the library that a text is.
use Rattle.std.specs.Prelude.{◌≡◌, ℕ, ◌≤◌, Bool, true, false, cond, not, ◌&&◌, List, [], ◌∷◌, ◌++◌, length, Some, None, Option, nat_le, slice_index_or}
use Rattle.std.specs.List.{list_all}
use Rattle.lines.specs.Fields.{operation_of}
use Rattle.lines.specs.Names.{padded}
use Rattle.lines.specs.Texts.{lines_of}
use Rattle.libraries.specs.declared.flaws.LibraryFault.{LibraryFault}
use Rattle.libraries.specs.Checks.{body_kind, check_of, ends, is_opening, line_fits, stops}
use Rattle.libraries.specs.Prototypes.{lawful_prototype}
use Rattle.libraries.specs.Tables.{among}

-- a definition is its statements, from the prototype to the first MEND
abbrev pub Definition : Type 0
Definition = List (List ℕ)

abbrev pub is_nil : {A : Type 0} → List A → Bool
is_nil [] = true
is_nil (x ∷ xs) = false

-- the first MEND is the last statement, and no MACRO, END or BEND stands before it
abbrev pub mended : List (List ℕ) → Bool
mended [] = false
mended (t ∷ ts) = cond (ends (body_kind t)) (is_nil ts) (not (stops (body_kind t)) && mended ts)

-- a lawful definition has a lawful prototype and at most 255 statements, each of at most 71 characters
abbrev pub lawful_definition : Definition → Bool
lawful_definition [] = false
lawful_definition (p ∷ body) = lawful_prototype p && (mended body && (nat_le (length body) 254 && list_all line_fits (p ∷ body)))

-- the macro name of a definition
abbrev pub name_of : Definition → List ℕ
name_of d = padded (operation_of (slice_index_or d 0 []))

-- no macro name is one of those seen, or stands twice
abbrev pub new_names : List (List ℕ) → List Definition → Bool
new_names seen [] = true
new_names seen (d ∷ ds) = not (among (name_of d) seen) && new_names (seen ++ name_of d ∷ []) ds

-- the definitions of a library: at most 255, each lawful
pub record Lawful (ds : List Definition) : Type 0 where
  pub few : length ds ≤ 255
  pub each : list_all lawful_definition ds ≡ true

-- a definition in a text, with the MACRO line before it
pub record Block : Type 0 where
  pub opening : List ℕ
  pub statements : Definition

abbrev pub lawful_block : Block → Bool
lawful_block b = is_opening b.opening && (line_fits b.opening && lawful_definition b.statements)

-- the definitions of blocks
abbrev pub statements_of : List Block → List Definition
statements_of [] = []
statements_of (b ∷ bs) = b.statements ∷ statements_of bs

-- the lines of blocks, one after the other
abbrev pub lines_in : List Block → List (List ℕ)
lines_in [] = []
lines_in (b ∷ bs) = b.opening ∷ (b.statements ++ lines_in bs)

-- lines as a text, each ended by byte 10
abbrev pub unlines : List (List ℕ) → List ℕ
unlines [] = []
unlines (t ∷ ts) = t ++ 10 ∷ unlines ts

-- blocks as a text
abbrev pub written : List Block → List ℕ
written bs = unlines (lines_in bs)

-- the blocks of a lawful library text: each is lawful, they are at most 255, and no macro name stands twice
pub record LawfulBlocks (bs : List Block) : Type 0 where
  pub each : list_all lawful_block bs ≡ true
  pub few : length bs ≤ 255
  pub new : new_names [] (statements_of bs) ≡ true

-- a lawful library text
abbrev pub LibraryText : List ℕ → Type 0
LibraryText text = (bs : List Block) × (text ≡ written bs) × LawfulBlocks bs

-- a statement before the first definition
abbrev pub before : List ℕ → List Definition → List Definition
before t [] = (t ∷ []) ∷ []
before t (d ∷ ds) = (t ∷ d) ∷ ds

-- the statement of a definition, by whether it is MEND; `more` gives the definitions of the lines after it, outside and inside of a definition
abbrev pub closes : Bool → List ℕ → (Bool → List Definition) → List Definition
closes true t more = (t ∷ []) ∷ more false
closes false t more = before t (more true)

-- the definitions that lines hold, when they begin outside or inside of one: a line outside is passed over, a definition goes to its first MEND
abbrev pub grouped : List (List ℕ) → Bool → List Definition
grouped [] false = []
grouped [] true = [] ∷ []
grouped (t ∷ ts) false = grouped ts true
grouped (t ∷ ts) true = closes (ends (body_kind t)) t (grouped ts)

-- the definitions of a text: none where the check finds a fault
abbrev pub or_none : Option LibraryFault → List Definition → List Definition
or_none (Some f) ds = []
or_none None ds = ds

unfoldable pub text_definitions : List ℕ → List Definition
text_definitions text = or_none (check_of text) (grouped (lines_of text) false)
