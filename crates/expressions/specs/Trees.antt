-- Expressions as trees: how a tree is written, when it stands, and its value.
use Rattle.std.specs.Prelude.{◌≡◌, ℕ, suc, Bool, true, false, cond, not, ◌&&◌, List, [], ◌∷◌, ◌++◌, Ok, Err, Result, nat_lt}
use Rattle.std.specs.List.{list_all}
use Rattle.expressions.specs.declared.flaws.Flaw.{Flaw}
use Rattle.expressions.specs.declared.flaws.Flaw.TheVariants.{NoForm, UnknownSymbol, NotDigits, OutOfRange, ZeroDivisor}
use Rattle.expressions.specs.declared.level.Op.{Op}
use Rattle.expressions.specs.declared.level.Op.TheVariants.{Plus, Minus, Times, Over}
use Rattle.expressions.specs.Classes.{digit, digits, starts}
use Rattle.expressions.specs.Joins.{join_of}
use Rattle.expressions.specs.Kinds.{Operations}
use Rattle.expressions.specs.Pieces.{goes_on, named, name_of, Table, is_known}

-- an expression: digits, a symbol by what follows its %, a signed factor, an operation, a parenthesis
pub data Tree : Type 0 where
  number : List ℕ → Tree
  name : List ℕ → Tree
  signed : Op → Tree → Tree
  applied : Op → Tree → Tree → Tree
  group : Tree → Tree

-- a word of an expression
pub data Word : Type 0 where
  numeral : List ℕ → Word
  variable : List ℕ → Word
  operator : Op → Word
  open' : Word
  close : Word

-- the words of a tree, in order
abbrev pub words_of : Tree → List Word
words_of (number ds) = numeral ds ∷ []
words_of (name cs) = variable cs ∷ []
words_of (signed o t) = operator o ∷ words_of t
words_of (applied o a b) = words_of a ++ (operator o ∷ words_of b)
words_of (group t) = open' ∷ (words_of t ++ (close ∷ []))

-- how an operator is written
abbrev pub op_byte : Op → ℕ
op_byte Plus = 43
op_byte Minus = 45
op_byte Times = 42
op_byte Over = 47

-- how a word is written
abbrev pub word_written : Word → List ℕ
word_written (numeral ds) = ds
word_written (variable cs) = 37 ∷ cs
word_written (operator o) = op_byte o ∷ []
word_written open' = 40 ∷ []
word_written close = 41 ∷ []

-- the bytes begin with a digit
abbrev pub digit_first : List ℕ → Bool
digit_first bs = starts digit bs

-- what may follow a word: digits and names are read as far as they go
abbrev pub word_fits : Word → List ℕ → Bool
word_fits (numeral ds) rest = (digit_first ds && digits ds) && not (digit_first rest)
word_fits (variable cs) rest = named cs && not (goes_on rest)
word_fits (operator o) rest = true
word_fits open' rest = true
word_fits close rest = true

-- + and - are the signs, and the operators of sums
abbrev pub additive : Op → Bool
additive Plus = true
additive Minus = true
additive Times = false
additive Over = false

-- the places of a tree: a whole expression, a product that may open with a sign, a product, a factor
pub data Shape : Type 0 where
  as_sum : Shape
  as_lead : Shape
  as_product : Shape
  as_factor : Shape

-- a tree in this place may open with a sign, be a sum, be a product
abbrev pub takes_sign : Shape → Bool
takes_sign as_sum = true
takes_sign as_lead = true
takes_sign as_product = false
takes_sign as_factor = false

abbrev pub takes_sum : Shape → Bool
takes_sum as_sum = true
takes_sum as_lead = false
takes_sum as_product = false
takes_sum as_factor = false

abbrev pub takes_product : Shape → Bool
takes_product as_sum = true
takes_product as_lead = true
takes_product as_product = true
takes_product as_factor = false

-- the place of the left side of * and /
abbrev pub left_place : Shape → Shape
left_place as_sum = as_lead
left_place as_lead = as_lead
left_place as_product = as_product
left_place as_factor = as_factor

-- a tree stands in a place, inside so many parentheses of at most `most`: * and / come before + and -, both from left to right, and a sign opens an expression or a parenthesis and binds first
abbrev pub stands : ℕ → ℕ → Shape → Tree → Bool
stands most n s (number ds) = digit_first ds && digits ds
stands most n s (name cs) = named cs
stands most n s (signed o t) = takes_sign s && (additive o && stands most n as_factor t)
stands most n s (applied o a b) =
    cond (additive o) (takes_sum s && (stands most n as_sum a && stands most n as_product b)) (takes_product s && (stands most n (left_place s) a && stands most n as_factor b))
stands most n s (group t) = nat_lt n most && stands most (suc n) as_sum t

-- how a tree is written: the join of its words
abbrev pub tree_written : Tree → List ℕ
tree_written t = join_of word_written (words_of t)

-- a text is written as this tree, which stands as a whole expression
pub record Writes (most : ℕ) (t : Tree) (text : List ℕ) : Type 0 where
  pub whole : stands most 0 as_sum t ≡ true
  pub words : tree_written t ≡ text

-- a text has at most one tree
abbrev pub OneTree : Type 0
OneTree = (most : ℕ) (t u : Tree) (text : List ℕ) → Writes most t text → Writes most u text → t ≡ u

-- the value of a tree in a kind of number
abbrev pub value_in : {V : Type 0} → Operations V → Table → Tree → V
value_in k σ (number ds) = k.digits ds
value_in k σ (name cs) = k.symbol (σ (name_of cs))
value_in k σ (signed o t) = k.signed o (value_in k σ t)
value_in k σ (applied o a b) = k.applied o (value_in k σ a) (value_in k σ b)
value_in k σ (group t) = value_in k σ t

-- every symbol of a word, of words, is known
abbrev pub word_known : Table → Word → Bool
word_known σ (numeral ds) = true
word_known σ (variable cs) = is_known (σ (name_of cs))
word_known σ (operator o) = true
word_known σ open' = true
word_known σ close = true

abbrev pub words_known : Table → List Word → Bool
words_known σ ws = list_all (word_known σ) ws

-- why an expression has no value: it is no tree, or a symbol of its tree is unknown
abbrev pub NoValue : Table → ℕ → List ℕ → Flaw → Type 0
NoValue σ most text NoForm = (t : Tree) → Writes most t text → ⊥
NoValue σ most text UnknownSymbol = (t : Tree) × Writes most t text × (words_known σ (words_of t) ≡ false)
NoValue σ most text NotDigits = ⊥
NoValue σ most text OutOfRange = ⊥
NoValue σ most text ZeroDivisor = ⊥

-- what working out an expression answers: the value of its tree, or why there is none
abbrev pub Worked : {V : Type 0} → Operations V → Table → ℕ → List ℕ → Result V Flaw → Type 0
Worked k σ most text (Ok v) = (t : Tree) × Writes most t text × (words_known σ (words_of t) ≡ true) × (v ≡ value_in k σ t)
Worked k σ most text (Err f) = NoValue σ most text f
