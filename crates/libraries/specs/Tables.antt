-- Names in a list, and in a table of fixed memory.
use Rattle.std.specs.Prelude.{◌≡◌, ℕ, ◌-◌, ◌≤◌, Bool, List, ◌++◌, length, take, drop, replicate}
use Rattle.std.specs.List.{list_any}
use Rattle.std.specs.Str.{bytes_eq}
use Rattle.std.proofs.Common.{sym, ap, ◌∙◌, arith, length-take-le, take-append-drop}

-- the name is one of these
abbrev pub among : List ℕ → List (List ℕ) → Bool
among n xs = list_any (λ x. bytes_eq x n) xs

-- so many rows of blanks
abbrev pub blank_rows : ℕ → List (List ℕ)
blank_rows n = replicate n (replicate 8 32)

-- names in n rows, and rows of blanks behind them
abbrev pub rows_with : ℕ → List (List ℕ) → List (List ℕ)
rows_with n names = names ++ blank_rows (n - length names)

-- so many names stand at the front of n rows, and rows of blanks behind them
pub record Table (n count : ℕ) (rows : List (List ℕ)) : Type 0 where
  pub fits : count ≤ n
  pub sized : length rows ≡ n
  pub blank : drop count rows ≡ blank_rows (n - count)

-- the names give back how many they are
pub taken_count : (n count : ℕ) (rows : List (List ℕ)) → Table n count rows → length (take count rows) ≡ count
taken_count n count rows h = length-take-le count rows (omega (arith, h.fits, h.sized))

-- and the rows in which they stand
pub given_back : (n count : ℕ) (rows : List (List ℕ)) → Table n count rows → rows_with n (take count rows) ≡ rows
given_back n count rows h =
    ap (λ k. take count rows ++ blank_rows (n - k)) (taken_count n count rows h)
    ∙ ap (λ rest. take count rows ++ rest) (sym h.blank)
    ∙ take-append-drop count rows
