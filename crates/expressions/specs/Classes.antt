-- Characters: what one begins, letters and digits.
use Rattle.std.specs.Prelude.{ℕ, Bool, false, cond, ◌&&◌, ◌||◌, List, [], ◌∷◌, ◌==◌, nat_le}
use Rattle.std.specs.List.{list_all}
use Rattle.expressions.specs.declared.classes.Class.{Class}
use Rattle.expressions.specs.declared.classes.Class.TheVariants.{Variable, Sequence, Colon, Apostrophe, Plain}

-- % begins a variable symbol, & a sequence symbol; the colon and the apostrophe stand for themselves
abbrev pub class_of : ℕ → Class
class_of c = cond (c == 37) Variable (cond (c == 38) Sequence (cond (c == 58) Colon (cond (c == 39) Apostrophe Plain)))

-- a digit is 0 to 9
abbrev pub digit : ℕ → Bool
digit b = nat_le 48 b && nat_le b 57

-- a letter is A to Z
abbrev pub letter : ℕ → Bool
letter b = nat_le 65 b && nat_le b 90

-- what a symbol's name goes on with
abbrev pub letter_or_digit : ℕ → Bool
letter_or_digit b = letter b || digit b

-- every byte is a digit
abbrev pub digits : List ℕ → Bool
digits bs = list_all digit bs

-- the bytes begin with one that passes the test
abbrev pub starts : (ℕ → Bool) → List ℕ → Bool
starts test [] = false
starts test (b ∷ bs) = test b
