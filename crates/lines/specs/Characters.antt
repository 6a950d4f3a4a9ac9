-- Characters: the bytes from 32 to 126.
use Rattle.std.specs.Prelude.{ℕ, Bool, cond, ◌&&◌, List, ◌++◌, length, drop, nat_le}
use Rattle.std.specs.List.{list_all}

-- a character is a byte from 32 to 126
abbrev pub character : ℕ → Bool
character b = nat_le 32 b && nat_le b 126

-- every byte is a character
abbrev pub characters : List ℕ → Bool
characters bs = list_all character bs

-- bytes with a text over their first ones; a text that is longer leaves them
abbrev pub overwritten : List ℕ → List ℕ → List ℕ
overwritten bs t = cond (nat_le (length t) (length bs)) (t ++ drop (length t) bs) bs
