-- Words, variable symbols and macro names.
use Rattle.std.specs.Prelude.{ℕ, Bool, false, ◌&&◌, List, [], ◌∷◌, length, take, codes, ◌==◌, nat_le}
use Rattle.std.specs.Str.{bytes_eq}
use Rattle.std.specs.List.{list_all}
use Rattle.expressions.specs.Classes.{letter, letter_or_digit}

-- a letter, and then letters and digits
abbrev pub is_word : List ℕ → Bool
is_word [] = false
is_word (b ∷ bs) = letter b && list_all letter_or_digit bs

-- a variable symbol: %, a letter and then letters and digits, at most seven after %
abbrev pub is_variable : List ℕ → Bool
is_variable [] = false
is_variable (b ∷ bs) = b == 37 && (is_word bs && nat_le (length bs) 7)

-- symbols that begin %SYS belong to the processor
abbrev pub is_system : List ℕ → Bool
is_system t = bytes_eq (take 4 t) (codes "%SYS")
