-- Names: eight bytes, filled with blanks on the right.
use Rattle.std.specs.Prelude.{ℕ, cond, List, ◌++◌, length, take, replicate, Some, None, Option, nat_le}

-- a text in n bytes, as far as there is room, and blanks behind it
abbrev pub padded_to : ℕ → List ℕ → List ℕ
padded_to n t = take n (t ++ replicate n 32)

-- a text filled with blanks to eight bytes
abbrev pub padded : List ℕ → List ℕ
padded t = padded_to 8 t

-- the name that a text of at most eight bytes is
abbrev pub named : List ℕ → Option (List ℕ)
named t = cond (nat_le (length t) 8) (Some (padded t)) None
