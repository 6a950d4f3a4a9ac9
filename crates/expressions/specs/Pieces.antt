-- A field as pieces: how each is written, what may follow it, and the text that it becomes.
use Rattle.std.specs.Prelude.{◌≡◌, ℕ, ◌<◌, ◌≤◌, Bool, true, false, not, ◌&&◌, List, [], ◌∷◌, ◌++◌, length, drop, replicate, Some, None, Ok, Err, Option, Result, ◌==◌, nat_le, is_some}
use Rattle.std.specs.List.{list_all}
use Rattle.expressions.specs.declared.flaws.Flaw.{Flaw}
use Rattle.expressions.specs.declared.flaws.Flaw.TheVariants.{NoForm, UnknownSymbol, NotDigits, OutOfRange, ZeroDivisor}
use Rattle.expressions.specs.declared.piece.Gives.{Gives}
use Rattle.expressions.specs.declared.piece.Gives.TheVariants.{Byte, Named}
use Rattle.expressions.specs.declared.symbol.Symbol.{Symbol}
use Rattle.expressions.specs.Classes.{letter, letter_or_digit, starts}
use Rattle.expressions.specs.Joins.{join_of, PartsOf}
use Rattle.expressions.specs.Numbers.{shown}

-- a piece of a field: a byte that stays, %%, ::, a symbol by what follows its %, and a symbol whose colon vanishes
pub data Piece : Type 0 where
  plain : ℕ → Piece
  percent : Piece
  colons : Piece
  symbol : List ℕ → Piece
  joined : List ℕ → Piece

-- how a piece is written
abbrev pub piece_written : Piece → List ℕ
piece_written (plain b) = b ∷ []
piece_written percent = 37 ∷ 37 ∷ []
piece_written colons = 58 ∷ 58 ∷ []
piece_written (symbol cs) = 37 ∷ cs
piece_written (joined cs) = 37 ∷ (cs ++ (58 ∷ []))

-- the bytes begin with this one
abbrev pub begins : ℕ → List ℕ → Bool
begins c bs = starts (λ b. b == c) bs

-- the bytes begin with a colon that no colon follows
abbrev pub single : List ℕ → Bool
single [] = false
single (b ∷ bs) = b == 58 && not (begins 58 bs)

-- the bytes begin with a letter; by cases: with it as `starts letter` the check does not find the bounds in work_out
abbrev pub letter_first : List ℕ → Bool
letter_first [] = false
letter_first (b ∷ bs) = letter b

-- the bytes begin with a letter or a digit
abbrev pub goes_on : List ℕ → Bool
goes_on bs = starts letter_or_digit bs

-- what follows the % of a symbol: a letter, then letters and digits, at most seven in all
abbrev pub named : List ℕ → Bool
named cs = letter_first cs && (list_all letter_or_digit cs && nat_le (length cs) 7)

-- what may follow a piece: pieces are read from the left, a symbol as far as it goes, and only a single colon right after it vanishes
abbrev pub fits : Piece → List ℕ → Bool
fits (plain b) rest = not (b == 37) && not (b == 58 && begins 58 rest)
fits percent rest = true
fits colons rest = true
fits (symbol cs) rest = named cs && (not (goes_on rest) && not (single rest))
fits (joined cs) rest = named cs && not (begins 58 rest)

-- how pieces are written: the join of theirs
abbrev pub written : List Piece → List ℕ
written ps = join_of piece_written ps

-- the pieces of a field: it is their join, and each may stand before what follows it
abbrev pub Reads : List Piece → List ℕ → Type 0
Reads ps field = PartsOf piece_written fits ps field

-- a field has at most one list of pieces
abbrev pub OneReading : Type 0
OneReading = (ps qs : List Piece) (field : List ℕ) → Reads ps field → Reads qs field → ps ≡ qs

-- the name of a symbol: its bytes with the %, filled with blanks to eight
abbrev pub name_of : List ℕ → List ℕ
name_of cs = 37 ∷ (cs ++ drop (length cs) (replicate 7 32))

-- what a piece gives: a byte, or what a symbol stands for
abbrev pub gives_of : Piece → Gives
gives_of (plain b) = Byte b
gives_of percent = Byte 37
gives_of colons = Byte 58
gives_of (symbol cs) = Named (name_of cs)
gives_of (joined cs) = Named (name_of cs)

-- what a name means
abbrev pub Table : Type 0
Table = List ℕ → Option Symbol

abbrev pub shown_if : Option Symbol → List ℕ
shown_if None = []
shown_if (Some s) = shown s

abbrev pub is_known : Option Symbol → Bool
is_known o = is_some o

-- the text of what a piece gives; that of an unknown symbol is empty
abbrev pub given_text : Table → Gives → List ℕ
given_text t (Byte b) = b ∷ []
given_text t (Named n) = shown_if (t n)

abbrev pub given_known : Table → Gives → Bool
given_known t (Byte b) = true
given_known t (Named n) = is_known (t n)

-- the text of pieces: the join of theirs
abbrev pub text_of_all : Table → List Piece → List ℕ
text_of_all t [] = []
text_of_all t (p ∷ ps) = given_text t (gives_of p) ++ text_of_all t ps

-- every symbol among the pieces is known
abbrev pub all_known : Table → List Piece → Bool
all_known t ps = list_all (λ p. given_known t (gives_of p)) ps

-- why a field has no text: it is no join of pieces, or it is and one of its symbols is unknown
abbrev pub Refused : Table → List ℕ → Flaw → Type 0
Refused t field NoForm = (ps : List Piece) → Reads ps field → ⊥
Refused t field UnknownSymbol = (ps : List Piece) × Reads ps field × (all_known t ps ≡ false)
Refused t field NotDigits = ⊥
Refused t field OutOfRange = ⊥
Refused t field ZeroDivisor = ⊥

-- what substitution answers, and what the buffer holds after it
abbrev pub Substituted : Table → List ℕ → List ℕ → List ℕ → Result (Option ℕ) Flaw → Type 0
Substituted t field before after (Ok (Some n)) =
    (ps : List Piece) × Reads ps field × (all_known t ps ≡ true) × (n ≡ length (text_of_all t ps)) × (n ≤ 255) × (after ≡ text_of_all t ps ++ drop n before)
Substituted t field before after (Ok None) =
    (ps : List Piece) × Reads ps field × (all_known t ps ≡ true) × (255 < length (text_of_all t ps)) × (after ≡ before)
Substituted t field before after (Err f) = Refused t field f × (after ≡ before)
