-- What the fields of a line and the parts of an operand are, by what they join to.
use Rattle.std.specs.Prelude.{◌≡◌, ℕ, List, [], ◌++◌, length, replicate}
use Rattle.lines.specs.Fields.{first_blank, word, past_word, operand_of, remark_of}
use Rattle.lines.specs.Nesting.{operand_end}

-- some blanks
abbrev pub blanks : ℕ → List ℕ
blanks n = replicate n 32

-- a gap of blanks parts what stands before it from what follows; none stands only where nothing follows
abbrev pub Parts : ℕ → List ℕ → Type 0
Parts gap rest = gap ≡ 0 → rest ≡ []

-- joined with blanks the fields are the line; no blank stands in the name or the operation, and none of the operand's is
-- outside apostrophes and parentheses
pub record Joined (line : List ℕ) : Type 0 where
  pub first : ℕ
  pub second : ℕ
  pub third : ℕ
  pub whole : line ≡ word line ++ (blanks first ++ (word (past_word line) ++ (blanks second ++ (operand_of line ++ (blanks third ++ remark_of line)))))
  pub name : first_blank (word line) ≡ length (word line)
  pub operation : first_blank (word (past_word line)) ≡ length (word (past_word line))
  pub operand : operand_end (operand_of line) ≡ length (operand_of line)
  pub name_ends : Parts first (past_word line)
  pub operation_ends : Parts second (past_word (past_word line))
  pub operand_ends : Parts third (remark_of line)
