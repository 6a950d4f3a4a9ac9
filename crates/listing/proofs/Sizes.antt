-- A text's prices are few.
use Rattle.std.proofs.Common.{ℕ, ◌+◌, ◌≤◌, List, [], ◌∷◌, length, arith}
use Rattle.sources.specs.Faults.{counted}
use Rattle.lines.specs.Texts.{lines_of}
use Rattle.sources.specs.Texts.{reading, text_remains}
use Rattle.piles.specs.Prices.{total}

lines_few : (bs : List ℕ) → length (lines_of bs) ≤ length bs
lines_few [] = omega arith
lines_few (b ∷ bs) = grind (arith, lines_few bs)

reading_few : (n : ℕ) (ts : List (List ℕ)) → total (reading n ts) ≤ length ts + 1
reading_few n [] = omega arith
reading_few n (t ∷ ts) = let ih = reading_few (counted n) ts in grind arith

pub text_few : (bs : List ℕ) → total (text_remains bs) ≤ length bs + 1
text_few bs = let a = reading_few 0 (lines_of bs) in let b = lines_few bs in omega arith
