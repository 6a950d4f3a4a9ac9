-- What the calls of a library answer, by its definitions.
use Rattle.std.specs.Prelude.{ℕ, zero, suc, cond, List, [], ◌∷◌, length, Some, None, Ok, Err, Option, Result, nat_lt}
use Rattle.std.specs.Str.{bytes_eq}
use Rattle.sources.specs.declared.faults.DefinitionNumber.{DefinitionNumber}
use Rattle.sources.specs.Lines.{written}
use Rattle.libraries.specs.declared.refusals.LibraryRefusal.{LibraryRefusal}
use Rattle.libraries.specs.declared.refusals.LibraryRefusal.TheVariants.{ShortBuffer, Missing, NoRoom}
use Rattle.libraries.specs.Definitions.{Definition, name_of}

-- the number that a refused call gets
abbrev pub library_refusal_number : LibraryRefusal → ℕ
library_refusal_number ShortBuffer = 1
library_refusal_number Missing = 6
library_refusal_number NoRoom = 17

-- the one after k others
abbrev pub item : {A : Type 0} → List A → ℕ → Option A
item [] k = None
item (x ∷ xs) zero = Some x
item (x ∷ xs) (suc k) = item xs k

-- the one with this number, from 1
abbrev pub numbered : {A : Type 0} → List A → ℕ → Option A
numbered xs zero = None
numbered xs (suc k) = item xs k

-- the number of the first definition of a name, when k others stand before these
abbrev pub found_from : ℕ → List Definition → List ℕ → Option DefinitionNumber
found_from k [] n = None
found_from k (d ∷ ds) n = cond (bytes_eq (name_of d) n) (Some (record { 0 = suc k })) (found_from (suc k) ds n)

unfoldable pub found_in : List Definition → List ℕ → Option DefinitionNumber
found_in ds n = found_from 0 ds n

-- how many statements a definition has; refused where there is none of this number
abbrev pub length_or : Option Definition → Result ℕ LibraryRefusal
length_or None = Err Missing
length_or (Some d) = Ok (length d)

unfoldable pub length_in : List Definition → ℕ → Result ℕ LibraryRefusal
length_in ds n = length_or (numbered ds n)

-- the statement of this number in the definition of that number
abbrev pub statement_or : Option Definition → ℕ → Option (List ℕ)
statement_or None s = None
statement_or (Some d) s = numbered d s

unfoldable pub statement_in : List Definition → ℕ → ℕ → Option (List ℕ)
statement_in ds n s = statement_or (numbered ds n) s

-- the length of a statement, and the buffer with it as with a line
abbrev pub told : Option (List ℕ) → Result ℕ LibraryRefusal
told None = Err Missing
told (Some t) = Ok (length t)

abbrev pub handed : Option (List ℕ) → List ℕ → List ℕ
handed None buffer = buffer
handed (Some t) buffer = written t buffer

-- a buffer under 80 bytes is refused first; a refused call changes nothing
abbrev pub tells : Option (List ℕ) → List ℕ → Result ℕ LibraryRefusal
tells t buffer = cond (nat_lt (length buffer) 80) (Err ShortBuffer) (told t)

abbrev pub hands : Option (List ℕ) → List ℕ → List ℕ
hands t buffer = cond (nat_lt (length buffer) 80) buffer (handed t buffer)
