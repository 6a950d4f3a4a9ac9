-- The parts of an operand, divided at the commas outside apostrophes and parentheses.
use Rattle.std.specs.Prelude.{◌≡◌, ℕ, ◌+◌, Bool, true, false, cond, ◌&&◌, List, [], ◌∷◌, ◌++◌, length, drop, Some, None, Option, ◌==◌}
use Rattle.std.specs.Borrow.{Bor}
use Rattle.lines.specs.declared.nest.Nest.{Nest}
use Rattle.lines.specs.Texts.{onto}
use Rattle.lines.specs.Nesting.{past, outside, start, first_comma}

-- the parts of bytes that begin so deep
abbrev pub divided_from : Nest → List ℕ → List (List ℕ)
divided_from s [] = [] ∷ []
divided_from s (b ∷ bs) = cond (b == 44 && outside s) ([] ∷ divided_from start bs) (onto b (divided_from (past s b) bs))

abbrev pub divided : List ℕ → List (List ℕ)
divided bs = divided_from start bs

-- the parts of an operand; an empty one has none
abbrev pub parts_of : List ℕ → List (List ℕ)
parts_of [] = []
parts_of (b ∷ bs) = divided (b ∷ bs)

-- the parts after a comma, if there is one
abbrev pub rest_of : Option (Bor (List ℕ)) → List (List ℕ)
rest_of None = []
rest_of (Some r) = divided r.now

-- the parts that are left
abbrev pub left : List (List ℕ) → List (List ℕ)
left ts = ts

-- the parts after the byte at n, where there is such a byte
abbrev pub parts_after : Bool → ℕ → List ℕ → List (List ℕ)
parts_after true n bs = divided (drop (n + 1) bs)
parts_after false n bs = []

-- parts joined by commas
abbrev pub with_commas : List (List ℕ) → List ℕ
with_commas [] = []
with_commas (t ∷ []) = t
with_commas (t ∷ (u ∷ us)) = t ++ (44 ∷ with_commas (u ∷ us))

-- no comma of a part is outside
abbrev pub Clear : List (List ℕ) → Type 0
Clear [] = Unit {0}
Clear (t ∷ ts) = (first_comma t ≡ length t) × Clear ts

-- joined by commas the parts are the operand, and no part has a comma outside
pub record Divided (operand : List ℕ) : Type 0 where
  pub whole : with_commas (divided operand) ≡ operand
  pub clear : Clear (divided operand)
