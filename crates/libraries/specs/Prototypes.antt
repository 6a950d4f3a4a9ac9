-- Lawful prototypes.
use Rattle.std.specs.Prelude.{ℕ, ◌+◌, Bool, true, false, not, ◌&&◌, ◌||◌, List, [], ◌∷◌, ◌++◌, length, take, drop, nat_le, nat_lt}
use Rattle.lines.specs.Fields.{first_at, comment, word, operand_of, operation_of}
use Rattle.lines.specs.Division.{parts_of}
use Rattle.lines.specs.Kinds.{kind_of}
use Rattle.lines.specs.Names.{padded}
use Rattle.lines.specs.Nesting.{closed}
use Rattle.lines.specs.declared.kinds.Kind.{Kind}
use Rattle.lines.specs.declared.kinds.Kind.TheVariants.{Declaration, Assignment, Branch, Jump, Label, Exit, Mend, Note, Opening, Closing, Model}
use Rattle.libraries.specs.Tables.{among}
use Rattle.libraries.specs.Words.{is_word, is_variable, is_system}

-- how many bytes stand before the first =
abbrev pub first_equals : List ℕ → ℕ
first_equals t = first_at 61 t

-- a parameter's symbol, whether it has a default, and that default: all after the first =
abbrev pub symbol_of : List ℕ → List ℕ
symbol_of t = take (first_equals t) t

abbrev pub keyed : List ℕ → Bool
keyed t = nat_lt (first_equals t) (length t)

abbrev pub default_of : List ℕ → List ℕ
default_of t = drop (first_equals t + 1) t

-- a parameter's symbol is a variable symbol that does not begin %SYS
abbrev pub is_parameter : List ℕ → Bool
is_parameter t = is_variable t && not (is_system t)

-- a default has at most 48 characters, its apostrophes and parentheses closed
abbrev pub is_default : List ℕ → Bool
is_default t = nat_le (length t) 48 && closed t

-- one parameter after those seen: its symbol is new, there are at most 12, and no positional one follows a keyword one
abbrev pub fine : Bool → List (List ℕ) → List ℕ → Bool
fine late seen t = (is_parameter (symbol_of t) && is_default (default_of t)) && ((keyed t || not late) && not (among (padded (symbol_of t)) seen))

abbrev pub fits : Bool → List (List ℕ) → List ℕ → Bool
fits late seen t = fine late seen t && nat_lt (length seen) 12

abbrev pub all_fit : Bool → List (List ℕ) → List (List ℕ) → Bool
all_fit late seen [] = true
all_fit late seen (t ∷ ts) = fits late seen t && all_fit (late || keyed t) (seen ++ padded (symbol_of t) ∷ []) ts

-- the parameters seen so far: whether a keyword one is among them, and their names
pub record Parameters : Type 0 where
  pub late : Bool
  pub names : List (List ℕ)

-- the two as one
abbrev pub parameters : Bool → List (List ℕ) → Parameters
parameters late names = record { late = late; names = names }

-- one parameter more
abbrev pub and_one : Parameters → List ℕ → Parameters
and_one s t = parameters (s.late || keyed t) (s.names ++ padded (symbol_of t) ∷ [])

-- the name parameter, if there is one
abbrev pub name_fits : List ℕ → Bool
name_fits [] = true
name_fits (b ∷ bs) = is_parameter (b ∷ bs)

abbrev pub name_seen : List ℕ → List (List ℕ)
name_seen [] = []
name_seen (b ∷ bs) = padded (b ∷ bs) ∷ []

-- not an operation with a meaning of its own
abbrev pub is_model : Kind → Bool
is_model Declaration = false
is_model Assignment = false
is_model Branch = false
is_model Jump = false
is_model Label = false
is_model Exit = false
is_model Mend = false
is_model Note = false
is_model Opening = false
is_model Closing = false
is_model Model = true

-- a macro name: one to eight letters or digits, first a letter, and not reserved
abbrev pub is_macro_name : List ℕ → Bool
is_macro_name t = is_word t && (nat_le (length t) 8 && is_model (kind_of t))

-- a lawful prototype
abbrev pub lawful_prototype : List ℕ → Bool
lawful_prototype t =
    not (comment t) && (name_fits (word t) && (is_macro_name (operation_of t) && all_fit false (name_seen (word t)) (parts_of (operand_of t))))
