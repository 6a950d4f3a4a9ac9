-- What remains in a source: priced lines and one priced ending; and what steps do to it.
use Rattle.std.specs.Prelude.{◌≡◌, ℕ, zero, suc, pred, ◌<◌, List, [], ◌∷◌}
use Rattle.sources.specs.Faults.{Ending}

-- a line and its price, which is one more than `beyond`: a price is at least one step
pub record Priced : Type 0 where
  pub text : List ℕ
  pub beyond : ℕ

abbrev pub price : Priced → ℕ
price p = suc p.beyond

-- what remains in a source: its lines, its ending, and the ending's price, 0 once it is told
pub record Remains : Type 0 where
  pub lines : List Priced
  pub ending : Ending
  pub due : ℕ

abbrev pub remaining : List Priced → Ending → ℕ → Remains
remaining ps e d = record { lines = ps; ending = e; due = d }

-- the ending has not been told
abbrev pub Untold : Remains → Type 0
Untold m = 0 < m.due

-- one step is spent on the first line: it is handed out with the last step of its price
abbrev pub pay_line : ℕ → List ℕ → List Priced → List Priced
pay_line zero t ps = ps
pay_line (suc b) t ps = record { text = t; beyond = b } ∷ ps

abbrev pub pay_of : List Priced → Ending → ℕ → Remains
pay_of [] e d = remaining [] e (pred d)
pay_of (p ∷ ps) e d = remaining (pay_line p.beyond p.text ps) e d

-- one step is spent
unfoldable pub pay : Remains → Remains
pay m = pay_of m.lines m.ending m.due

-- n times over
abbrev pub iterate : {A : Type 0} → (A → A) → ℕ → A → A
iterate f zero x = x
iterate f (suc n) x = iterate f n (f x)

-- n steps are spent
abbrev pub spend : Remains → ℕ → Remains
spend m n = iterate pay n m

-- the price of the first line, or of the ending where there is no line
abbrev pub first_price : List Priced → ℕ → ℕ
first_price [] d = d
first_price (p ∷ ps) d = price p

abbrev pub next_price : Remains → ℕ
next_price m = first_price m.lines m.due

-- what a source keeps moves step by step as its meaning does
abbrev pub Paced : {K : Type 0} → (K → Remains) → (K → K) → Type 0
Paced {K} meaning tick = (k : K) → meaning (tick k) ≡ pay (meaning k)
