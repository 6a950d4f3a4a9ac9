-- The numbers of expressions: what each operation gives, and what an expression answers.
use Rattle.std.specs.Prelude.{◌≡◌, ℕ, Bool, true, false, cond, List, ℤ, pos, negsuc, ◌+ℤ◌, ◌-ℤ◌, ◌*ℤ◌, neg_ℤ, Some, None, Ok, Err, Option, Result, int_div, nat_le}
use Rattle.expressions.specs.declared.flaws.Flaw.{Flaw}
use Rattle.expressions.specs.declared.flaws.Flaw.TheVariants.{NoForm, UnknownSymbol, NotDigits, OutOfRange, ZeroDivisor}
use Rattle.expressions.specs.declared.level.Op.{Op}
use Rattle.expressions.specs.declared.level.Op.TheVariants.{Plus, Minus, Times, Over}
use Rattle.expressions.specs.declared.symbol.Symbol.{Symbol}
use Rattle.expressions.specs.declared.symbol.Symbol.TheVariants.{Parameter, Arithmetic, Bit, Characters, Call}
use Rattle.expressions.specs.Kinds.{Operations}
use Rattle.expressions.specs.Numbers.{number_of, ranged, value_of}
use Rattle.expressions.specs.Pieces.{Table}
use Rattle.expressions.specs.Texts.{text_of}
use Rattle.expressions.specs.Trees.{Tree, Writes, words_of, words_known, value_in}

-- a number from -2147483648 to 2147483647
abbrev pub in_range : ℤ → Bool
in_range (pos n) = nat_le n 2147483647
in_range (negsuc n) = nat_le n 2147483647

-- a number in range, or the flaw
abbrev pub fitted : ℤ → Result ℤ Flaw
fitted z = cond (in_range z) (Ok z) (Err OutOfRange)

-- a bit as a number
abbrev pub bit_value : Bool → ℤ
bit_value true = pos 1
bit_value false = pos 0

-- the number that a symbol stands for
abbrev pub symbol_value : Symbol → Result ℤ Flaw
symbol_value (Parameter t) = number_of (text_of t)
symbol_value (Arithmetic z) = Ok z
symbol_value (Bit b) = Ok (bit_value b)
symbol_value (Characters t) = number_of (text_of t)
symbol_value (Call n) = Ok (pos n.0)

-- the number of a symbol that is known, or the flaw
abbrev pub known_value : Option Symbol → Result ℤ Flaw
known_value None = Err UnknownSymbol
known_value (Some s) = symbol_value s

-- the number is 0
abbrev pub is_zero : ℤ → Bool
is_zero (pos n) = nat_le n 0
is_zero (negsuc n) = false

-- a quotient drops the fraction; there is none by 0
abbrev pub divided : ℤ → ℤ → Result ℤ Flaw
divided a b = cond (is_zero b) (Err ZeroDivisor) (fitted (int_div a b))

-- a number with a sign before it
abbrev pub whole_signed : Op → ℤ → Result ℤ Flaw
whole_signed Plus z = Ok z
whole_signed Minus z = fitted (neg_ℤ z)
whole_signed Times z = Ok z
whole_signed Over z = Ok z

-- two numbers with an operator between them
abbrev pub whole_applied : Op → ℤ → ℤ → Result ℤ Flaw
whole_applied Plus a b = fitted (a +ℤ b)
whole_applied Minus a b = fitted (a -ℤ b)
whole_applied Times a b = fitted (a *ℤ b)
whole_applied Over a b = divided a b

-- a value with a sign before it: a flaw stays
abbrev pub value_signed : Op → Result ℤ Flaw → Result ℤ Flaw
value_signed o (Ok z) = whole_signed o z
value_signed o (Err f) = Err f

-- a number, an operator and a value: a flaw stays
abbrev pub applied_to : Op → ℤ → Result ℤ Flaw → Result ℤ Flaw
applied_to o a (Ok b) = whole_applied o a b
applied_to o a (Err f) = Err f

-- the left side's flaw comes before the right side's, and both before that of the operation
abbrev pub value_applied : Op → Result ℤ Flaw → Result ℤ Flaw → Result ℤ Flaw
value_applied o (Ok a) b = applied_to o a b
value_applied o (Err f) b = Err f

-- the operations of expressions
abbrev pub arithmetic : Operations (Result ℤ Flaw)
arithmetic = record { digits = λ ds. ranged (value_of ds); symbol = known_value; signed = value_signed; applied = value_applied }

-- the tree of a text whose symbols are all known
abbrev pub Known : Table → List ℕ → Tree → Type 0
Known σ text t = Writes 15 t text × (words_known σ (words_of t) ≡ true)

-- what an expression answers: the value of its one tree, or the first flaw, of form, of symbols, of values
abbrev pub Answers : Table → List ℕ → Result ℤ Flaw → Type 0
Answers σ text (Ok z) = (t : Tree) × Known σ text t × (value_in arithmetic σ t ≡ Ok z)
Answers σ text (Err NoForm) = (t : Tree) → Writes 15 t text → ⊥
Answers σ text (Err UnknownSymbol) = (t : Tree) × Writes 15 t text × (words_known σ (words_of t) ≡ false)
Answers σ text (Err NotDigits) = (t : Tree) × Known σ text t × (value_in arithmetic σ t ≡ Err NotDigits)
Answers σ text (Err OutOfRange) = (t : Tree) × Known σ text t × (value_in arithmetic σ t ≡ Err OutOfRange)
Answers σ text (Err ZeroDivisor) = (t : Tree) × Known σ text t × (value_in arithmetic σ t ≡ Err ZeroDivisor)
