-- What a layer over a source means, from its rule and from the meaning below alone, and what it keeps step by step.
use Rattle.std.specs.Prelude.{◌≡◌, ℕ, zero, suc, ◌+◌, ◌<◌, ◌≤◌, Bool, true, false, List, [], ◌∷◌, Some, None, Option}
use Rattle.sources.specs.declared.answers.Told.{Told}
use Rattle.sources.specs.declared.answers.Told.TheVariants as told
use Rattle.sources.specs.declared.line.Line.{Line}
use Rattle.sources.specs.declared.answers.Answer.{Answer}
use Rattle.sources.specs.Faults.{Ending}
use Rattle.sources.specs.Hearings.{Hears, HearsOf, text_of}
use Rattle.sources.specs.Meaning.{Priced, Remains, iterate, remaining}
use Rattle.layers.specs.declared.machine.Deed.{Deed as CodeDeed}
use Rattle.layers.specs.declared.machine.Deed.TheVariants as code
use Rattle.layers.specs.declared.layered.Layered.{Layered}
use Rattle.layers.specs.Rules.{Deed, onward, hands, stops, Rule}

-- so many steps pass before what remains goes on
abbrev pub delay_of : ℕ → List Priced → Ending → ℕ → Remains
delay_of n [] e d = remaining [] e (n + d)
delay_of n (p ∷ ps) e d = remaining (record { text = p.text; beyond = n + p.beyond } ∷ ps) e d

unfoldable pub delay : ℕ → Remains → Remains
delay n m = delay_of n m.lines m.ending m.due

-- a line at price b + 1, and then the rest
abbrev pub and_then : List ℕ → ℕ → Remains → Remains
and_then t b m = remaining (record { text = t; beyond = b } ∷ m.lines) m.ending m.due

-- no line, and an ending at this price
abbrev pub stopped : Ending → ℕ → Remains
stopped e d = remaining [] e d

-- what remains by a deed that costs b + 1 steps, where `go` says what remains from a state on
abbrev pub by : {S : Type 0} → Deed S → ℕ → (S → Remains) → Remains
by (onward s) b go = delay (suc b) (go s)
by (hands t s) b go = and_then t b (go s)
by (stops e s) b go = stopped e (suc b)

-- a busy layer works at one step each, at most n times, and goes on when it is idle
abbrev pub work_or : {S : Type 0} → Bool → Rule S → S → (S → Remains) → (S → Remains) → Remains
work_or true r s more idle = by (r.works s) 0 more
work_or false r s more idle = idle s

unfoldable pub working : {S : Type 0} → Rule S → ℕ → (S → Remains) → S → Remains
working r zero idle s = idle s
working r (suc n) idle s = work_or (r.busy s) r s (working r n idle) idle

-- an idle layer takes the lines below at what they cost there
unfoldable pub taking : {S : Type 0} → Rule S → List Priced → Ending → ℕ → S → Remains
taking r [] e d s = stopped (r.closes s e) d
taking r (p ∷ ps) e d s = by (r.takes s p.text) p.beyond (λ t. working r (r.bound t) (taking r ps e d) t)

-- what remains in a layer that is in this state, over a source in which this remains
unfoldable pub layered : {S : Type 0} → Rule S → S → Remains → Remains
layered r s m = working r (r.bound s) (taking r m.lines m.ending m.due) s

-- what a layer keeps: an ending of its own that was told, its state, and what the source below keeps
pub record Laid (S K : Type 0) : Type 0 where
  pub own : Option Ending
  pub state : S
  pub below : K

abbrev pub laid : {S K : Type 0} → Option Ending → S → K → Laid S K
laid o s k = record { own = o; state = s; below = k }

-- a layer that was told its own ending has nothing more; else its rule says what remains
abbrev pub meaning_of : {S : Type 0} → Rule S → Option Ending → S → Remains → Remains
meaning_of r (Some e) s m = stopped e 0
meaning_of r None s m = layered r s m

unfoldable pub laid_meaning : {S K : Type 0} → Rule S → (K → Remains) → Laid S K → Remains
laid_meaning r meaning l = meaning_of r l.own l.state (meaning l.below)

-- after a deed
abbrev pub done : {S K : Type 0} → Deed S → K → Laid S K
done (onward s) k = laid None s k
done (hands t s) k = laid None s k
done (stops e s) k = laid (Some e) s k

-- the source below has charged a step of the first line's price: the line is taken with the last one
abbrev pub charged : {S K : Type 0} → Rule S → ℕ → List ℕ → S → K → Laid S K
charged r zero t s k = done (r.takes s t) k
charged r (suc b) t s k = laid None s k

abbrev pub listening : {S K : Type 0} → Rule S → List Priced → S → K → Laid S K
listening r [] s k = laid None s k
listening r (p ∷ ps) s k = charged r p.beyond p.text s k

-- a busy layer works; an idle one lets the source below charge the step
abbrev pub stepping : {S K : Type 0} → Rule S → (K → Remains) → (K → K) → Bool → S → K → Laid S K
stepping r meaning tick true s k = done (r.works s) k
stepping r meaning tick false s k = listening r (meaning k).lines s (tick k)

abbrev pub tick_of : {S K : Type 0} → Rule S → (K → Remains) → (K → K) → Option Ending → S → K → Laid S K
tick_of r meaning tick (Some e) s k = laid (Some e) s k
tick_of r meaning tick None s k = stepping r meaning tick (r.busy s) s k

-- what a layer keeps after one step more
unfoldable pub laid_tick : {S K : Type 0} → Rule S → (K → Remains) → (K → K) → Laid S K → Laid S K
laid_tick r meaning tick l = tick_of r meaning tick l.own l.state l.below

-- what the code did, in the rule's words
abbrev pub did : {S : Type 0} → CodeDeed → S → Deed S
did code.Onward s = onward s
did (code.Hands l) s = hands (text_of l) s
did (code.Stops e) s = stops e s

-- part of a request: some steps pass and nothing is told yet, or something is heard
abbrev pub Advances : Remains → Remains → ℕ → ℕ → Option (Told Line) → Type 0
Advances before after grant n None = (before ≡ delay n after) × (0 < n) × (n ≤ grant)
Advances before after grant n (Some h) = HearsOf before grant n h

-- the steps of part of a request: what remained becomes what remains, and what is kept is what the rules reach by them
pub record Advanced {S K : Type 0} (r : Rule S) (meaning : K → Remains) (tick : K → K) (from to : Laid S K) (grant n : ℕ) (h : Option (Told Line)) : Type 0 where
  pub meant : Advances (laid_meaning r meaning from) (laid_meaning r meaning to) grant n h
  pub reached : to ≡ iterate (laid_tick r meaning tick) n from

-- a whole request: what is heard of what remained, and what is kept
pub record Turned {S K : Type 0} (r : Rule S) (meaning : K → Remains) (tick : K → K) (from to : Laid S K) (grant : ℕ) (h : Answer (Told Line)) : Type 0 where
  pub hears : Hears (laid_meaning r meaning from) grant h
  pub reached : to ≡ iterate (laid_tick r meaning tick) h.spent from

-- what is heard of a deed
abbrev pub heard_of : CodeDeed → Option (Told Line)
heard_of code.Onward = None
heard_of (code.Hands l) = Some (told.Line l)
heard_of (code.Stops e) = Some (told.Ended e)

-- the ending that a deed tells
abbrev pub ending_of : CodeDeed → Option Ending
ending_of code.Onward = None
ending_of (code.Hands l) = None
ending_of (code.Stops e) = Some e

-- what the code of a layer keeps
abbrev pub keeping : {A B S K : Type 0} → (B → S) → (A → K) → Layered A B → Laid S K
keeping state kept x = laid x.own (state x.machine) (kept x.below)

-- an advance of the code of a layer, by the members of its machine and of the source below
abbrev pub Moves : {A B S K : Type 0} → Rule S → (B → S) → (K → Remains) → (K → K) → (A → K) → Layered A B → Layered A B → ℕ → Answer (Option (Told Line)) → Type 0
Moves r state meaning tick kept old new grant a = Advanced r meaning tick (keeping state kept old) (keeping state kept new) grant a.spent a.told
