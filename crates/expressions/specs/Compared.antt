-- Which of two texts is lower.
use Rattle.std.specs.Prelude.{ℕ, cond, List, [], ◌∷◌, length, nat_lt}
use Rattle.std.specs.declared.cmp.Ordering.{Ordering}
use Rattle.std.specs.declared.cmp.Ordering.TheVariants.{Less, Equal, Greater}

-- the first bytes that differ decide
abbrev pub by_bytes : List ℕ → List ℕ → Ordering
by_bytes [] bs = Equal
by_bytes (a ∷ as') [] = Equal
by_bytes (a ∷ as') (b ∷ bs) = cond (nat_lt a b) Less (cond (nat_lt b a) Greater (by_bytes as' bs))

-- the shorter text is lower; of equal lengths the bytes decide
abbrev pub compared : List ℕ → List ℕ → Ordering
compared xs ys = cond (nat_lt (length xs) (length ys)) Less (cond (nat_lt (length ys) (length xs)) Greater (by_bytes xs ys))
