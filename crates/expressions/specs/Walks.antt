-- How an expression is walked, word by word: the levels that wait, and what each word does to them.
use Rattle.std.specs.Prelude.{◌≡◌, ℕ, Bool, cond, not, ◌&&◌, List, [], ◌∷◌, reverse, length, take, Some, None, Ok, Err, Option, Result, ◌==◌, ◌≢◌, nat_le, nat_lt, is_none}
use Rattle.lines.specs.Fields.{first_by}
use Rattle.expressions.specs.declared.flaws.Flaw.{Flaw}
use Rattle.expressions.specs.declared.flaws.Flaw.TheVariants.{NoForm}
use Rattle.expressions.specs.declared.level.Op.{Op}
use Rattle.expressions.specs.declared.level.Op.TheVariants.{Plus, Minus, Times, Over}
use Rattle.expressions.specs.declared.level.Left.{Left}
use Rattle.expressions.specs.declared.level.Level.{Level}
use Rattle.expressions.specs.declared.level.Token.{Token}
use Rattle.expressions.specs.declared.level.Token.TheVariants.{Factor, Operator, Open, Close}
use Rattle.expressions.specs.declared.level.Walk.{Walk}
use Rattle.expressions.specs.Classes.{digit}
use Rattle.expressions.specs.Firsts.{name_length}
use Rattle.expressions.specs.Kinds.{Operations}
use Rattle.expressions.specs.Pieces.{letter_first, name_of, Table}
use Rattle.expressions.specs.Trees.{Word, numeral, variable, operator, open', close, additive}

-- what a walk does with signs, operators and parentheses
pub record Walker (K : Type 0) : Type 0 where
  pub signed : Op → K → K
  pub applied : Op → K → K → K
  pub group : K → K

-- the walk at a kind of number, where a parenthesis changes nothing
abbrev pub walker_of : {V : Type 0} → Operations V → Walker V
walker_of k = record { signed = k.signed; applied = k.applied; group = λ v. v }

-- a left side and its operator
abbrev pub left_of : {K : Type 0} → K → Op → Left K
left_of a o = record { value = a; op = o }

-- what waits, joined with its right side
abbrev pub join_with : {K : Type 0} → Walker K → Option (Left K) → K → K
join_with w None k = k
join_with w (Some l) k = w.applied l.op l.value k

-- a value with the sign that waits for it
abbrev pub sign_with : {K : Type 0} → Walker K → Option Op → K → K
sign_with w None k = k
sign_with w (Some o) k = w.signed o k

-- a level of these sums, these products and this sign
abbrev pub level_of : {K : Type 0} → Option (Left K) → Option (Left K) → Option Op → Level K
level_of s p o = record { sums = s; products = p; sign = o }

-- a level on which nothing is read
abbrev pub fresh_level : {K : Type 0} → Level K
fresh_level = level_of None None None

-- a walk: its level, the product so far where an operator may follow, and the levels that wait, innermost first
pub record Stage (K : Type 0) : Type 0 where
  pub level : Level K
  pub after : Option K
  pub waits : List (Level K)

-- a stage of these parts
abbrev pub stage_of : {K : Type 0} → Level K → Option K → List (Level K) → Stage K
stage_of l a ws = record { level = l; after = a; waits = ws }

-- a factor joins the product of its level, its sign first
abbrev pub factored : {K : Type 0} → Walker K → Level K → K → List (Level K) → Stage K
factored w l k ws = stage_of (level_of l.sums None None) (Some (join_with w l.products (sign_with w l.sign k))) ws

-- a level on which nothing was read
abbrev pub is_fresh : {K : Type 0} → Level K → Bool
is_fresh l = is_none l.sums && (is_none l.products && is_none l.sign)

-- a word where a factor is wanted
abbrev pub wanting : {K : Type 0} → Walker K → ℕ → Level K → List (Level K) → Token K → Option (Stage K)
wanting w most l ws (Factor k) = Some (factored w l k ws)
wanting w most l ws (Operator o) = cond (is_fresh l && additive o) (Some (stage_of (level_of None None (Some o)) None ws)) None
wanting w most l ws Open = cond (nat_lt (length ws) most) (Some (stage_of fresh_level None (l ∷ ws))) None
wanting w most l ws Close = None

-- the level after an operator: + and - close the product, * and / go on with it
abbrev pub operated_level : {K : Type 0} → Walker K → Level K → K → Op → Level K
operated_level w l p o = cond (additive o) (level_of (Some (left_of (join_with w l.sums p) o)) None None) (level_of l.sums (Some (left_of p o)) None)

-- a parenthesis that closes: its value is a factor of the level that waited
abbrev pub closing : {K : Type 0} → Walker K → K → List (Level K) → Option (Stage K)
closing w k [] = None
closing w k (l ∷ ws) = Some (factored w l (w.group k) ws)

-- a word after a product
abbrev pub following : {K : Type 0} → Walker K → Level K → K → List (Level K) → Token K → Option (Stage K)
following w l p ws (Factor k) = None
following w l p ws (Operator o) = Some (stage_of (operated_level w l p o) None ws)
following w l p ws Open = None
following w l p ws Close = closing w (join_with w l.sums p) ws

-- what a word does on a level
abbrev pub step_at : {K : Type 0} → Walker K → ℕ → Level K → Option K → List (Level K) → Token K → Option (Stage K)
step_at w most l None ws t = wanting w most l ws t
step_at w most l (Some p) ws t = following w l p ws t

-- what a word does to a walk
abbrev pub step_of : {K : Type 0} → Walker K → ℕ → Stage K → Token K → Option (Stage K)
step_of w most s t = step_at w most s.level s.after s.waits t

-- the levels that wait in a table, innermost first
abbrev pub piled : {K : Type 0} → ℕ → List (Level K) → List (Level K)
piled n rows = reverse (take n rows)

-- the levels of a walk that wait, innermost first
abbrev pub waits_in : {K : Type 0} → Walk K → List (Level K)
waits_in p = piled p.depth p.levels.now

-- what a walk in a table stands at
abbrev pub stage_in : {K : Type 0} → Walk K → Stage K
stage_in p = stage_of p.level p.after (waits_in p)

-- a walk stands at a stage, in a table of so many rows
abbrev pub Stands : {K : Type 0} → Walk K → Stage K → ℕ → Type 0
Stands p s n = (stage_in p ≡ s) × (length p.levels.now ≡ n)

-- what one word does to a walk in a table: a word that is refused leaves the walk, its table too, as it was
abbrev pub Stepped : {K : Type 0} → Walker K → Walk K → Walk K → Token K → Result (Unit {0}) Flaw → Type 0
Stepped w p q t (Ok u) = (step_of w (length p.levels.now) (stage_in p) t ≡ Some (stage_in q)) × (length q.levels.now ≡ length p.levels.now)
Stepped w p q t (Err f) = (step_of w (length p.levels.now) (stage_in p) t ≡ None) × (f ≡ NoForm) × (q ≡ p)

-- a walk may end after a product on the outermost level
abbrev pub Ended : {V : Type 0} → Operations V → Walk V → Result V Flaw → Type 0
Ended {V = V} k p (Ok v) = (x : V) × (p.after ≡ Some x) × (p.depth ≡ 0) × (v ≡ join_with (walker_of k) p.level.sums x)
Ended {V = V} k p (Err f) = (f ≡ NoForm) × ((x : V) → p.after ≡ Some x → p.depth ≢ 0)

-- what a word is in a kind of number
abbrev pub token_in : {V : Type 0} → Operations V → Table → Word → Token V
token_in k σ (numeral ds) = Factor (k.digits ds)
token_in k σ (variable cs) = Factor (k.symbol (σ (name_of cs)))
token_in k σ (operator o) = Operator o
token_in k σ open' = Open
token_in k σ close = Close

-- how many digits stand first
abbrev pub digits_length : List ℕ → ℕ
digits_length bs = first_by (λ b. not (digit b)) bs

-- the symbol that a % begins, by what follows it
abbrev pub variable_at : List ℕ → Option Word
variable_at bs = cond (letter_first bs && nat_le (name_length bs) 7) (Some (variable (take (name_length bs) bs))) None

-- the operator or parenthesis that a byte is
abbrev pub mark_at : ℕ → Option Word
mark_at b = cond (b == 43) (Some (operator Plus)) (cond (b == 45) (Some (operator Minus)) (cond (b == 42) (Some (operator Times)) (cond (b == 47) (Some (operator Over)) (cond (b == 40) (Some open') (cond (b == 41) (Some close) None)))))

-- the first word
abbrev pub first_word_of : List ℕ → Option Word
first_word_of [] = None
first_word_of (b ∷ bs) = cond (digit b) (Some (numeral (take (digits_length (b ∷ bs)) (b ∷ bs)))) (cond (b == 37) (variable_at bs) (mark_at b))
