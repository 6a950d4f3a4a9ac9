-- Prices added up: what so many steps pay for.
use Rattle.std.specs.Prelude.{◌≡◌, ℕ, suc, ◌+◌, ◌-◌, ◌<◌, ◌≤◌, cond, List, [], ◌∷◌, ◌++◌, map, length, take, nat_le}
use Rattle.sources.specs.Meaning.{Priced, Remains, price}

-- the prices of some lines together
abbrev pub cost : List Priced → ℕ
cost [] = 0
cost (p ∷ ps) = price p + cost ps

-- all prices together, the ending's too
abbrev pub total : Remains → ℕ
total m = cost m.lines + m.due

-- the prices of the lines that n steps pay for, and of the line or ending next
abbrev pub through_of : List Priced → ℕ → ℕ → ℕ
through_of [] d n = d
through_of (p ∷ ps) d n = cond (nat_le (price p) n) (price p + through_of ps d (n - price p)) (price p)

-- what is left of the price after n steps
unfoldable pub left : Remains → ℕ → ℕ
left m n = through_of m.lines m.due n - n

-- these texts are the longest beginning of the lines whose prices sum to at most n
pub record Longest (m : Remains) (n : ℕ) (ts : List (List ℕ)) : Type 0 where
  pub count : ℕ
  pub within : count ≤ length m.lines
  pub texts : ts ≡ map (λ p. p.text) (take count m.lines)
  pub paid : cost (take count m.lines) ≤ n
  pub most : count < length m.lines → n < cost (take (suc count) m.lines)

-- one list begins another
abbrev pub Begins : List (List ℕ) → List (List ℕ) → Type 0
Begins ts us = (vs : List (List ℕ)) × (us ≡ ts ++ vs)
