-- A layer over a source whose ending is untold has its ending untold.
use Rattle.std.proofs.Common.{ℕ, zero, suc, ◌<◌, Bool, true, false, List, [], ◌∷◌, arith}
use Rattle.sources.specs.Faults.{Ending}
use Rattle.sources.specs.Meaning.{Priced, Remains, Untold}
use Rattle.layers.specs.Rules.{Deed, onward, hands, stops, Rule}
use Rattle.layers.specs.Engine.{delay, delay_of, by, work_or, working, taking, layered}

untold_delay : (n : ℕ) (m : Remains) → Untold m → Untold (delay n m)
unfolding delay
untold_delay n m h = go m.lines
  where
    go : (ps : List Priced) → Untold (delay_of n ps m.ending m.due)
    go [] = omega arith
    go (p ∷ ps) = h

module _ {S : Type 0} (r : Rule S) where
  untold_by : (d : Deed S) (b : ℕ) (go : S → Remains) → ((s : S) → Untold (go s)) → Untold (by d b go)
  untold_by (onward s) b go h = untold_delay (suc b) (go s) (h s)
  untold_by (hands t s) b go h = h s
  untold_by (stops e s) b go h = omega arith

  untold_working : (n : ℕ) (idle : S → Remains) → ((s : S) → Untold (idle s)) → (s : S) → Untold (working r n idle s)
  unfolding working
  untold_working zero idle h s = h s
  untold_working (suc n) idle h s = go (r.busy s) (untold_working n idle h)
    where
      go : (z : Bool) → ((t : S) → Untold (working r n idle t)) → Untold (work_or z r s (working r n idle) idle)
      go true ih = untold_by (r.works s) 0 (working r n idle) ih
      go false ih = h s

  untold_taking : (ps : List Priced) (e : Ending) (d : ℕ) → 0 < d → (s : S) → Untold (taking r ps e d s)
  unfolding taking
  untold_taking [] e d h s = h
  untold_taking (p ∷ ps) e d h s =
      untold_by (r.takes s p.text) p.beyond (λ t. working r (r.bound t) (taking r ps e d) t) (λ t. untold_working (r.bound t) (taking r ps e d) (untold_taking ps e d h) t)

  pub untold_layered : (s : S) (m : Remains) → Untold m → Untold (layered r s m)
  unfolding layered
  untold_layered s m h = untold_working (r.bound s) (taking r m.lines m.ending m.due) (untold_taking m.lines m.ending m.due h) s
