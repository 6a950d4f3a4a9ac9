-- The first piece of a field, read from the left.
use Rattle.std.specs.Prelude.{◌≡◌, ℕ, ◌<◌, ◌≤◌, cond, not, ◌&&◌, List, [], ◌∷◌, length, take, drop, Some, None, Ok, Err, Option, Result, ◌==◌, nat_le}
use Rattle.arrayvec.specs.ArrayVec.{ArrayVec}
use Rattle.lines.specs.Fields.{first_by}
use Rattle.expressions.specs.declared.flaws.Flaw.{Flaw}
use Rattle.expressions.specs.declared.flaws.Flaw.TheVariants.{NoForm}
use Rattle.expressions.specs.declared.piece.Reading.{Reading}
use Rattle.expressions.specs.Classes.{letter_or_digit}
use Rattle.expressions.specs.Pieces.{Piece, plain, percent, colons, symbol, joined, piece_written, begins, single, letter_first, name_of, gives_of}

-- how many letters and digits stand first
abbrev pub name_length : List ℕ → ℕ
name_length bs = first_by (λ b. not (letter_or_digit b)) bs

-- the name of the symbol that stands after a %, and how many letters and digits it has there
abbrev pub name_at : List ℕ → Result (List ℕ × ℕ) Flaw
name_at bs = cond (letter_first bs && nat_le (name_length bs) 7) (Ok (name_of (take (name_length bs) bs), name_length bs)) (Err NoForm)

-- a symbol of so many letters and digits, with the colon that vanishes
abbrev pub symbol_of : ℕ → List ℕ → Piece
symbol_of n bs = cond (single (drop n bs)) (joined (take n bs)) (symbol (take n bs))

-- the piece that a % begins, by what follows it
abbrev pub after_percent : List ℕ → Option Piece
after_percent bs = cond (begins 37 bs) (Some percent) (cond (letter_first bs && nat_le (name_length bs) 7) (Some (symbol_of (name_length bs) bs)) None)

-- the first piece
abbrev pub first : List ℕ → Option Piece
first [] = None
first (b ∷ bs) = cond (b == 37) (after_percent bs) (Some (cond (b == 58 && begins 58 bs) colons (plain b)))

-- what is read of a piece: what it gives, and how many bytes it takes
abbrev pub reading_of : Option Piece → Result Reading Flaw
reading_of None = Err NoForm
reading_of (Some p) = Ok (record { gives = gives_of p; width = length (piece_written p) })

-- the text is held, or it is longer than 255
abbrev pub Held : Option (ArrayVec ℕ) → List ℕ → Type 0
Held None t = 255 < length t
Held (Some v) t = (v.items ≡ t) × (length t ≤ 255)
