-- The fields of a line, parted by blanks: the name from column 1, then the operation.
use Rattle.std.specs.Prelude.{◌≡◌, ℕ, suc, ◌+◌, ◌-◌, Bool, false, cond, not, List, [], ◌∷◌, length, take, drop, ◌==◌, nat_eq}
use Rattle.lines.specs.declared.field.Fields.{Fields}
use Rattle.lines.specs.declared.field.Part.{Part}
use Rattle.lines.specs.Nesting.{operand_end}

-- how many bytes stand before the first that passes the test
abbrev pub first_by : (ℕ → Bool) → List ℕ → ℕ
first_by p [] = 0
first_by p (b ∷ bs) = cond (p b) 0 (suc (first_by p bs))

-- how many bytes stand before the first that is this one
abbrev pub first_at : ℕ → List ℕ → ℕ
first_at w bs = first_by (λ b. nat_eq b w) bs

-- how many bytes stand before the first blank
abbrev pub first_blank : List ℕ → ℕ
first_blank bs = first_at 32 bs

-- how many blanks stand before the first byte that is none
abbrev pub blanks_length : List ℕ → ℕ
blanks_length bs = first_by (λ b. not (b == 32)) bs

-- the bytes before the first blank
abbrev pub word : List ℕ → List ℕ
word bs = take (first_blank bs) bs

-- what follows the blanks that stand first
abbrev pub past_blanks : List ℕ → List ℕ
past_blanks bs = drop (blanks_length bs) bs

-- what follows the first word and the blanks after it
abbrev pub past_word : List ℕ → List ℕ
past_word bs = past_blanks (drop (first_blank bs) bs)

-- a line with * in column 1 is a comment
abbrev pub comment : List ℕ → Bool
comment [] = false
comment (b ∷ bs) = b == 42

-- the operation: the word after the name and its blanks; a comment has none
abbrev pub operation_of : List ℕ → List ℕ
operation_of bs = cond (comment bs) [] (word (past_word bs))

-- what follows the operation and the blanks after it; a comment has nothing
abbrev pub from_operand : List ℕ → List ℕ
from_operand bs = past_word (past_word bs)

-- the operand ends before the first blank outside apostrophes and parentheses
abbrev pub operand_of : List ℕ → List ℕ
operand_of bs = take (operand_end (from_operand bs)) (from_operand bs)

-- what follows the operand and the blanks after it
abbrev pub remark_of : List ℕ → List ℕ
remark_of bs = past_blanks (drop (operand_end (from_operand bs)) (from_operand bs))

-- the first column of what is left of a line
abbrev pub column_of : List ℕ → List ℕ → ℕ
column_of bs rest = length bs - length rest + 1

-- a part of a line: its bytes and its first column
pub record At (line rest text : List ℕ) (p : Part) : Type 0 where
  pub column : p.column ≡ column_of line rest
  pub bytes : p.bytes.now ≡ text

-- the fields of a line that is no comment
pub record FieldsOf (line : List ℕ) (f : Fields) : Type 0 where
  pub name : At line line (word line) f.name
  pub operation : At line (past_word line) (word (past_word line)) f.operation
  pub operand : At line (from_operand line) (operand_of line) f.operand
  pub remark : At line (remark_of line) (remark_of line) f.remark
