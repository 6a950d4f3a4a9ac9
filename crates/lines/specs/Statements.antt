-- The statements of a definition: comments of two kinds, and those with fields, by their operation.
use Rattle.std.specs.Prelude.{◌≡◌, ℕ, Bool, true, false, ◌&&◌, List, [], ◌∷◌, ◌==◌}
use Rattle.lines.specs.declared.field.Fields.{Fields}
use Rattle.lines.specs.declared.kinds.Kind.{Kind}
use Rattle.lines.specs.declared.kinds.Kind.TheVariants as kind
use Rattle.lines.specs.declared.statement.Statement.{Statement}
use Rattle.lines.specs.declared.statement.Statement.TheVariants.{Comment, Remark, Declaration, Assignment, Branch, Jump, Label, Exit, Mend, Note, Opening, Closing, Model}
use Rattle.lines.specs.Fields.{FieldsOf, comment, operation_of}
use Rattle.lines.specs.Kinds.{kind_of}

-- a statement that begins with :* is a remark
abbrev pub remark : List ℕ → Bool
remark [] = false
remark (a ∷ []) = false
remark (a ∷ (b ∷ bs)) = a == 58 && b == 42

-- a statement with fields, of this kind
pub record Fielded (t : List ℕ) (k : Kind) (f : Fields) : Type 0 where
  pub plain : comment t ≡ false
  pub shown : remark t ≡ false
  pub is : kind_of (operation_of t) ≡ k
  pub fields : FieldsOf t f

-- the statement that a text is
abbrev pub StatementOf : List ℕ → Statement → Type 0
StatementOf t Comment = comment t ≡ true
StatementOf t Remark = (comment t ≡ false) × (remark t ≡ true)
StatementOf t (Declaration f) = Fielded t kind.Declaration f
StatementOf t (Assignment f) = Fielded t kind.Assignment f
StatementOf t (Branch f) = Fielded t kind.Branch f
StatementOf t (Jump f) = Fielded t kind.Jump f
StatementOf t (Label f) = Fielded t kind.Label f
StatementOf t (Exit f) = Fielded t kind.Exit f
StatementOf t (Mend f) = Fielded t kind.Mend f
StatementOf t (Note f) = Fielded t kind.Note f
StatementOf t (Opening f) = Fielded t kind.Opening f
StatementOf t (Closing f) = Fielded t kind.Closing f
StatementOf t (Model f) = Fielded t kind.Model f
