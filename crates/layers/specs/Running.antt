-- What a layer means, step by step: enough fuel is enough, and a step of what it keeps is a step of what remains.
use Rattle.std.specs.Prelude.{◌≡◌, ℕ, zero, suc, pred, ◌<◌, ◌≤◌, Bool, true, false, List, [], ◌∷◌, Some, None, Option}
use Rattle.std.proofs.Math.Path.{refl, sym, ap}
use Rattle.std.proofs.Common.{◌∙◌, arith}
use Rattle.sources.specs.Faults.{Ending}
use Rattle.sources.specs.Meaning.{Priced, Remains, remaining, pay, pay_of, Paced}
use Rattle.layers.specs.Rules.{Deed, onward, hands, stops, Rule, Fewer, Falls}
use Rattle.layers.specs.Engine.{delay, and_then, stopped, by, work_or, working, taking, layered, Laid, laid, meaning_of, laid_meaning, done, charged, listening, stepping, tick_of, laid_tick}
use Rattle.layers.specs.Delays.{pay_delay, delay_none}

module _ {S : Type 0} (r : Rule S) (falls : Falls r) where
  -- what follows a deed matters only where the bound has fallen
  by_same : (d : Deed S) (n : ℕ) (f g : S → Remains) → Fewer r.bound d n → ((s : S) → r.bound s < n → f s ≡ g s) → by d 0 f ≡ by d 0 g
  by_same (onward s) n f g h e = ap (delay 1) (e s h)
  by_same (hands t s) n f g h e = ap (and_then t 0) (e s h)
  by_same (stops x s) n f g h e = refl

  fewer_some : (d : Deed S) (n : ℕ) → Fewer r.bound d n → 0 < n
  fewer_some (onward s) n h = omega arith
  fewer_some (hands t s) n h = omega arith
  fewer_some (stops x s) n h = h

  -- fuel past the bound changes nothing
  pub enough : (n k : ℕ) (idle : S → Remains) (s : S) → r.bound s ≤ n → r.bound s ≤ k → working r n idle s ≡ working r k idle s
  unfolding working
  enough zero zero idle s h j = refl
  enough zero (suc k) idle s h j = go (r.busy s) refl
    where
      go : (z : Bool) → r.busy s ≡ z → idle s ≡ work_or z r s (working r k idle) idle
      go true e = let p = fewer_some (r.works s) (r.bound s) (falls s e) in absurd (omega arith)
      go false e = refl
  enough (suc n) zero idle s h j = go (r.busy s) refl
    where
      go : (z : Bool) → r.busy s ≡ z → work_or z r s (working r n idle) idle ≡ idle s
      go true e = let p = fewer_some (r.works s) (r.bound s) (falls s e) in absurd (omega arith)
      go false e = refl
  enough (suc n) (suc k) idle s h j = go (r.busy s) refl (λ t p q. enough n k idle t p q)
    where
      go : (z : Bool) → r.busy s ≡ z → ((t : S) → r.bound t ≤ n → r.bound t ≤ k → working r n idle t ≡ working r k idle t)
          → work_or z r s (working r n idle) idle ≡ work_or z r s (working r k idle) idle
      go true e ih = by_same (r.works s) (r.bound s) (working r n idle) (working r k idle) (falls s e) (λ t p. ih t (omega arith) (omega arith))
      go false e ih = refl

  -- a busy layer's meaning begins with its work
  pub layered_busy : (s : S) (m : Remains) → r.busy s ≡ true → layered r s m ≡ by (r.works s) 0 (λ t. layered r t m)
  unfolding layered working
  layered_busy s m e = go (r.bound s) refl
    where
      idle : S → Remains
      idle = taking r m.lines m.ending m.due

      go : (n : ℕ) → r.bound s ≡ n → working r n idle s ≡ by (r.works s) 0 (λ t. working r (r.bound t) idle t)
      go zero b = let p = fewer_some (r.works s) (r.bound s) (falls s e) in absurd (omega arith)
      go (suc n) b =
          ap (λ z. work_or z r s (working r n idle) idle) e
          ∙ by_same (r.works s) (r.bound s) (working r n idle) (λ t. working r (r.bound t) idle t) (falls s e) (λ t p. enough n (r.bound t) idle t (omega arith) (omega arith))

  -- an idle layer's meaning is that of the lines below
  pub layered_idle : (s : S) (m : Remains) → r.busy s ≡ false → layered r s m ≡ taking r m.lines m.ending m.due s
  unfolding layered working
  layered_idle s m e = go (r.bound s)
    where
      idle : S → Remains
      idle = taking r m.lines m.ending m.due

      go : (n : ℕ) → working r n idle s ≡ idle s
      go zero = refl
      go (suc n) = ap (λ z. work_or z r s (working r n idle) idle) e

  pub idle_over : (s : S) (m : Remains) → r.busy s ≡ false → m.lines ≡ [] → layered r s m ≡ stopped (r.closes s m.ending) m.due
  unfolding taking
  idle_over s m e none = layered_idle s m e ∙ ap (λ ps. taking r ps m.ending m.due s) none

  pub idle_line : (s : S) (m : Remains) (t : List ℕ) (b : ℕ) (ps : List Priced) → r.busy s ≡ false → m.lines ≡ record { text = t; beyond = b } ∷ ps
      → layered r s m ≡ by (r.takes s t) b (λ u. layered r u (remaining ps m.ending m.due))
  unfolding taking layered
  idle_line s m t b ps e line = layered_idle s m e ∙ ap (λ qs. taking r qs m.ending m.due s) line

  -- the last step of a deed
  pay_done : {K : Type 0} (meaning : K → Remains) (d : Deed S) (k : K) (m : Remains) → meaning k ≡ m
      → laid_meaning r meaning (done d k) ≡ pay (by d 0 (λ t. layered r t m))
  unfolding laid_meaning pay
  pay_done meaning (onward s) k m e = ap (layered r s) e ∙ sym (pay_delay 0 (layered r s m) ∙ delay_none (layered r s m))
  pay_done meaning (hands t s) k m e = ap (layered r s) e
  pay_done meaning (stops x s) k m e = refl

  -- any other step of a deed
  pay_by : (d : Deed S) (b : ℕ) (go : S → Remains) → by d b go ≡ pay (by d (suc b) go)
  unfolding pay
  pay_by (onward s) b go = sym (pay_delay (suc b) (go s))
  pay_by (hands t s) b go = refl
  pay_by (stops x s) b go = refl

  module _ {K : Type 0} (meaning : K → Remains) (tick : K → K) (paced : Paced meaning tick) where
    paced_line : (s : S) (k : K) (t : List ℕ) (b : ℕ) (ps : List Priced) → r.busy s ≡ false → (meaning k).lines ≡ record { text = t; beyond = b } ∷ ps
        → laid_meaning r meaning (charged r b t s (tick k)) ≡ pay (layered r s (meaning k))
    unfolding laid_meaning pay
    paced_line s k t zero ps e line =
        let m : meaning (tick k) ≡ remaining ps (meaning k).ending (meaning k).due = paced k ∙ ap (λ qs. pay_of qs (meaning k).ending (meaning k).due) line in
        pay_done meaning (r.takes s t) (tick k) _ m ∙ ap pay (sym (idle_line s (meaning k) t zero ps e line))
    paced_line s k t (suc b) ps e line =
        let m : meaning (tick k) ≡ remaining (record { text = t; beyond = b } ∷ ps) (meaning k).ending (meaning k).due = paced k ∙ ap (λ qs. pay_of qs (meaning k).ending (meaning k).due) line in
        idle_line s (meaning (tick k)) t b ps e (ap (λ x. x.lines) m)
        ∙ ap (λ x. by (r.takes s t) b (λ u. layered r u (remaining ps x.ending x.due))) m
        ∙ pay_by (r.takes s t) b (λ u. layered r u (remaining ps (meaning k).ending (meaning k).due))
        ∙ ap pay (sym (idle_line s (meaning k) t (suc b) ps e line))

    paced_over : (s : S) (k : K) → r.busy s ≡ false → (meaning k).lines ≡ [] → laid_meaning r meaning (laid None s (tick k)) ≡ pay (layered r s (meaning k))
    unfolding laid_meaning pay
    paced_over s k e none =
        let m : meaning (tick k) ≡ remaining [] (meaning k).ending (pred (meaning k).due) = paced k ∙ ap (λ qs. pay_of qs (meaning k).ending (meaning k).due) none in
        idle_over s (meaning (tick k)) e (ap (λ x. x.lines) m)
        ∙ ap (λ x. stopped (r.closes s x.ending) x.due) m
        ∙ ap pay (sym (idle_over s (meaning k) e none))

    paced_idle : (s : S) (k : K) → r.busy s ≡ false → laid_meaning r meaning (listening r (meaning k).lines s (tick k)) ≡ pay (layered r s (meaning k))
    paced_idle s k e = go (meaning k).lines refl
      where
        go : (ps : List Priced) → (meaning k).lines ≡ ps → laid_meaning r meaning (listening r ps s (tick k)) ≡ pay (layered r s (meaning k))
        go [] none = paced_over s k e none
        go (p ∷ ps) line = paced_line s k p.text p.beyond ps e line

    paced_step : (s : S) (k : K) (z : Bool) → r.busy s ≡ z → laid_meaning r meaning (stepping r meaning tick z s k) ≡ pay (layered r s (meaning k))
    paced_step s k true e = pay_done meaning (r.works s) k (meaning k) refl ∙ ap pay (sym (layered_busy s (meaning k) e))
    paced_step s k false e = paced_idle s k e

    paced_own : (o : Option Ending) (s : S) (k : K) → laid_meaning r meaning (tick_of r meaning tick o s k) ≡ pay (meaning_of r o s (meaning k))
    unfolding laid_meaning pay
    paced_own (Some e) s k = refl
    paced_own None s k = paced_step s k (r.busy s) refl

    -- a step of what a layer keeps is a step of what remains in it
    pub laid_paced : (l : Laid S K) → laid_meaning r meaning (laid_tick r meaning tick l) ≡ pay (laid_meaning r meaning l)
    unfolding laid_tick laid_meaning
    laid_paced l = paced_own l.own l.state l.below
