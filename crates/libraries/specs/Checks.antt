-- The check of a library text: the first no, with its number and its line.
use Rattle.std.specs.Prelude.{ℕ, ◌+◌, Bool, true, false, cond, ◌&&◌, List, [], ◌∷◌, ◌++◌, length, Some, None, Ok, Err, Option, Result, ◌==◌, nat_le, nat_lt}
use Rattle.lines.specs.Characters.{characters}
use Rattle.lines.specs.Fields.{word, operation_of, operand_of}
use Rattle.lines.specs.Kinds.{kind_of}
use Rattle.lines.specs.Names.{padded}
use Rattle.lines.specs.Statements.{remark}
use Rattle.lines.specs.declared.kinds.Kind.{Kind}
use Rattle.lines.specs.declared.kinds.Kind.TheVariants.{Declaration, Assignment, Branch, Jump, Label, Exit, Mend, Note, Opening, Closing, Model}
use Rattle.sources.specs.Faults.{counted}
use Rattle.lines.specs.Texts.{lines_of}
use Rattle.libraries.specs.declared.flaws.LibraryCause.{LibraryCause}
use Rattle.libraries.specs.declared.flaws.LibraryCause.TheVariants.{BadLine, NoMacro, BadPrototype, SameName, Nested, NoMend, TooMany}
use Rattle.libraries.specs.declared.flaws.LibraryFault.{LibraryFault}
use Rattle.libraries.specs.declared.flaws.Phase.{Phase}
use Rattle.libraries.specs.declared.flaws.Phase.TheVariants.{Between, Opened, Inside}
use Rattle.libraries.specs.Prototypes.{lawful_prototype}
use Rattle.libraries.specs.Tables.{among}

-- the number that is told of a bad library
abbrev pub library_number : LibraryCause → ℕ
library_number BadLine = 10
library_number NoMacro = 11
library_number BadPrototype = 12
library_number SameName = 13
library_number Nested = 14
library_number NoMend = 15
library_number TooMany = 16

abbrev pub flaw : LibraryCause → ℕ → LibraryFault
flaw c n = record { cause = c; line = n }

-- a line of a library has at most 71 bytes, all characters
abbrev pub line_fits : List ℕ → Bool
line_fits t = nat_le (length t) 71 && characters t

-- the text's last byte is 10; an empty text needs none
abbrev pub ended : List ℕ → Bool
ended [] = true
ended (b ∷ []) = b == 10
ended (b ∷ (c ∷ bs)) = ended (c ∷ bs)

-- the number of the first line that does not fit, or of the last one if the text is not ended
abbrev pub bad_from : ℕ → Bool → List (List ℕ) → Option ℕ
bad_from n e [] = None
bad_from n e (t ∷ []) = cond (line_fits t && e) None (Some (counted n))
bad_from n e (t ∷ (u ∷ us)) = cond (line_fits t) (bad_from (counted n) e (u ∷ us)) (Some (counted n))

-- how far a text is read: the phase, and the macro names so far, at most 255
pub record Reading : Type 0 where
  pub phase : Phase
  pub names : List (List ℕ)

-- the phase and the names, as one
abbrev pub reading : Phase → List (List ℕ) → Reading
reading p ns = record { phase = p; names = ns }

-- what a statement of a body does: opens or ends something else, ends the definition, or neither
abbrev pub stops : Kind → Bool
stops Declaration = false
stops Assignment = false
stops Branch = false
stops Jump = false
stops Label = false
stops Exit = false
stops Mend = false
stops Note = false
stops Opening = true
stops Closing = true
stops Model = false

abbrev pub ends : Kind → Bool
ends Declaration = false
ends Assignment = false
ends Branch = false
ends Jump = false
ends Label = false
ends Exit = false
ends Mend = true
ends Note = false
ends Opening = false
ends Closing = false
ends Model = false

abbrev pub opens : Kind → Bool
opens Declaration = false
opens Assignment = false
opens Branch = false
opens Jump = false
opens Label = false
opens Exit = false
opens Mend = false
opens Note = false
opens Opening = true
opens Closing = false
opens Model = false

-- the kind of a statement of a body; a remark is as little as a comment
abbrev pub body_kind : List ℕ → Kind
body_kind t = cond (remark t) Model (kind_of (operation_of t))

-- a MACRO line, without name or operand
abbrev pub is_opening : List ℕ → Bool
is_opening t = opens (kind_of (operation_of t)) && (length (word t) == 0 && length (operand_of t) == 0)

-- one more macro name, if there is room
abbrev pub noted : List (List ℕ) → List ℕ → List (List ℕ)
noted names t = cond (nat_lt (length names) 255) (names ++ padded (operation_of t) ∷ []) names

-- the line of a definition's MACRO, if it is past the 255th: no name had room
abbrev pub past_last : List (List ℕ) → ℕ → Option ℕ
past_last names m = cond (nat_lt (length names) 255) None (Some m)

-- the line with this number, in each phase
abbrev pub read_opening : Reading → ℕ → List ℕ → Result Reading LibraryFault
read_opening r n t = cond (is_opening t) (Ok (reading (Opened n) r.names)) (Err (flaw NoMacro n))

-- the line after MACRO, which stood in line m
abbrev pub read_prototype : Reading → ℕ → ℕ → List ℕ → Result Reading LibraryFault
read_prototype r m n t =
    cond (lawful_prototype t)
    (cond (among (padded (operation_of t)) r.names) (Err (flaw SameName n))
    (Ok (reading (Inside 1 (past_last r.names m)) (noted r.names t))))
    (Err (flaw BadPrototype n))

-- MEND: told of a definition that is past the 255th is the line of its MACRO
abbrev pub closing : Reading → Option ℕ → Result Reading LibraryFault
closing r None = Ok (reading Between r.names)
closing r (Some m) = Err (flaw TooMany m)

-- a line of a body of which k statements are read
abbrev pub read_body : Reading → ℕ → Option ℕ → ℕ → List ℕ → Result Reading LibraryFault
read_body r k past n t =
    cond (stops (body_kind t)) (Err (flaw Nested n))
    (cond (ends (body_kind t)) (closing r past)
    (cond (nat_lt k 254) (Ok (reading (Inside (k + 1) past) r.names)) (Err (flaw NoMend n))))

abbrev pub read_in : Phase → Reading → ℕ → List ℕ → Result Reading LibraryFault
read_in Between r n t = read_opening r n t
read_in (Opened m) r n t = read_prototype r m n t
read_in (Inside k past) r n t = read_body r k past n t

-- the text ends here, with this line the last
abbrev pub finish : Phase → ℕ → Option LibraryFault
finish Between n = None
finish (Opened m) n = Some (flaw BadPrototype n)
finish (Inside k past) n = Some (flaw NoMend n)

abbrev pub read_on : Result Reading LibraryFault → (Reading → Option LibraryFault) → Option LibraryFault
read_on (Ok r) go = go r
read_on (Err f) go = Some f

-- what is wrong with the lines that follow, when so many are read
abbrev pub read_from : ℕ → List (List ℕ) → Reading → Option LibraryFault
read_from n [] r = finish r.phase n
read_from n (t ∷ ts) r = read_on (read_in r.phase r (counted n) t) (read_from (counted n) ts)

-- what is wrong with a library text, if anything
abbrev pub or_read : Option ℕ → List ℕ → Option LibraryFault
or_read (Some n) text = Some (flaw BadLine n)
or_read None text = read_from 0 (lines_of text) (reading Between [])

abbrev pub check_of : List ℕ → Option LibraryFault
check_of text = or_read (bad_from 0 (ended text) (lines_of text)) text
