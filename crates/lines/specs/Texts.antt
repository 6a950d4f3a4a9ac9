-- Texts: lines ended by byte 10, which the last may lack.
use Rattle.std.specs.Prelude.{ℕ, ◌+◌, cond, List, [], ◌∷◌, take, drop, ◌==◌}
use Rattle.lines.specs.Fields.{first_at}

-- a byte before the first of some pieces: lines of a text, parts of an operand
abbrev pub onto : ℕ → List (List ℕ) → List (List ℕ)
onto b [] = (b ∷ []) ∷ []
onto b (l ∷ ls) = (b ∷ l) ∷ ls

-- the lines of a text: each is ended by byte 10, which the last may lack
abbrev pub lines_of : List ℕ → List (List ℕ)
lines_of [] = []
lines_of (b ∷ bs) = cond (b == 10) ([] ∷ lines_of bs) (onto b (lines_of bs))

-- how many bytes stand before the first byte 10
abbrev pub first_end : List ℕ → ℕ
first_end bs = first_at 10 bs

-- the first line of a text, and what follows it
abbrev pub first_line : List ℕ → List ℕ
first_line bs = take (first_end bs) bs

abbrev pub past_line : List ℕ → List ℕ
past_line bs = drop (first_end bs + 1) bs
