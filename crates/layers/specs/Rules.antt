-- The rule of one kind of layer.
use Rattle.std.specs.Prelude.{◌≡◌, ℕ, ◌<◌, Bool, true, List}
use Rattle.sources.specs.Faults.{Ending}

-- what comes of a line that is taken or of a step of work: nothing to show, a line, or an ending; and the state after it
pub data Deed (S : Type 0) : Type 0 where
  onward : S → Deed S
  hands : List ℕ → S → Deed S
  stops : Ending → S → Deed S

-- a busy layer works, a step at a time; an idle one takes lines from below, at no cost of its own
pub record Rule (S : Type 0) : Type 0 where
  pub busy : S → Bool
  pub takes : S → List ℕ → Deed S
  pub works : S → Deed S
  -- what it makes of the ending from below
  pub closes : S → Ending → Ending
  -- at most how many steps of work until it is idle
  pub bound : S → ℕ

-- a deed of work leaves fewer steps of work to come
abbrev pub Fewer : {S : Type 0} → (S → ℕ) → Deed S → ℕ → Type 0
Fewer bound (onward s) n = bound s < n
Fewer bound (hands t s) n = bound s < n
Fewer bound (stops e s) n = 0 < n

-- every step of work of a busy layer lowers the bound, so that it becomes idle
abbrev pub Falls : {S : Type 0} → Rule S → Type 0
Falls {S} r = (s : S) → r.busy s ≡ true → Fewer r.bound (r.works s) (r.bound s)
