-- What one advance of a layer does: the steps it takes are steps of the rule, and what is heard is what remained.
use Rattle.std.proofs.Common.{◌≡◌, ℕ, zero, suc, ◌+◌, ◌-◌, ◌<◌, ◌≤◌, true, false, List, [], ◌∷◌, Some, None, Option, sym, refl, ap, ◌∙◌, subst, arith}
use Rattle.sources.specs.declared.line.Line.{Line}
use Rattle.sources.specs.declared.answers.Told.{Told}
use Rattle.sources.specs.declared.answers.Told.TheVariants as told
use Rattle.sources.specs.Faults.{Ending}
use Rattle.sources.specs.Hearings.{HearsOf, text_of}
use Rattle.sources.specs.Meaning.{Priced, Remains, remaining, pay, pay_of, next_price, first_price, Paced, iterate, spend}
use Rattle.sources.proofs.Paying.{iterate_joins, paced_spend}
use Rattle.layers.specs.declared.machine.Deed.{Deed as CodeDeed}
use Rattle.layers.specs.declared.machine.Deed.TheVariants as code
use Rattle.layers.specs.Rules.{Deed, onward, hands, stops, Rule, Falls}
use Rattle.layers.specs.Engine.{delay, delay_of, stopped, by, layered, Laid, laid, laid_meaning, done, listening, stepping, laid_tick, Advances, Advanced, Turned, did, heard_of, ending_of}
use Rattle.layers.specs.Delays.{delay_joins, hears_delayed}
use Rattle.layers.specs.Running.{layered_busy, idle_line, idle_over}

-- what a deed tells
abbrev pub TellsDeed : {S : Type 0} → Deed S → Option (Told Line) → Type 0
TellsDeed (onward s) o = o ≡ None
TellsDeed (hands t s) o = (l : Line) × (t ≡ text_of l) × (o ≡ Some (told.Line l))
TellsDeed (stops e s) o = o ≡ Some (told.Ended e)

-- paying a first line whole
pub spend_line : (m : Remains) (t : List ℕ) (b : ℕ) (ps : List Priced) → m.lines ≡ record { text = t; beyond = b } ∷ ps
    → spend m (suc b) ≡ remaining ps m.ending m.due
unfolding pay
spend_line m t zero ps e = ap (λ qs. pay_of qs m.ending m.due) e
spend_line m t (suc b) ps e =
    ap (λ qs. spend (pay_of qs m.ending m.due) (suc b)) e
    ∙ spend_line (remaining (record { text = t; beyond = b } ∷ ps) m.ending m.due) t b ps refl

-- what the code keeps and tells of a deed
pub ended_by : {S K : Type 0} (d : CodeDeed) (s : S) (k : K) → laid (ending_of d) s k ≡ done (did d s) k
ended_by code.Onward s k = refl
ended_by (code.Hands l) s k = refl
ended_by (code.Stops e) s k = refl

pub heard_by : {S : Type 0} (d : CodeDeed) (s : S) → TellsDeed (did d s) (heard_of d)
heard_by code.Onward s = refl
heard_by (code.Hands l) s = (l, refl, refl)
heard_by (code.Stops e) s = refl

module _ {S K : Type 0} (r : Rule S) (falls : Falls r) (meaning : K → Remains) (tick : K → K) (paced : Paced meaning tick) where
  -- a deed at its price
  deed_meant : (d : Deed S) (b g : ℕ) (s : S) (k : K) (m before : Remains) (o : Option (Told Line)) → suc b ≤ g → meaning k ≡ m
      → before ≡ by d b (λ u. layered r u m) → TellsDeed d o → Advances before (laid_meaning r meaning (done d k)) g (suc b) o
  unfolding laid_meaning
  deed_meant (onward u) b g s k m before o fits below is told =
      let P : Option (Told Line) → Type 0 = λ x. Advances before (layered r u (meaning k)) g (suc b) x in
      subst P (sym told) (is ∙ ap (λ x. delay (suc b) (layered r u x)) (sym below), omega arith, fits)
  deed_meant (hands t u) b g s k m before o fits below is (l, text, told) =
      let P : Option (Told Line) → Type 0 = λ x. Advances before (layered r u (meaning k)) g (suc b) x in
      subst P (sym told) (b, (layered r u m).lines, ap (λ x. x.lines) is ∙ ap (λ x. record { text = x; beyond = b } ∷ (layered r u m).lines) text, refl, fits)
  deed_meant (stops e u) b g s k m before o fits below is told =
      let P : Option (Told Line) → Type 0 = λ x. Advances before (stopped e 0) g (suc b) x in
      subst P (sym told) (ap (λ x. x.lines) is, ap (λ x. x.ending) is, ap (λ x. x.due) is, fits)

  -- a step of work
  pub worked : (s : S) (k : K) (g : ℕ) (o : Option (Told Line)) → r.busy s ≡ true → 1 ≤ g → TellsDeed (r.works s) o
      → Advanced r meaning tick (laid None s k) (done (r.works s) k) g 1 o
  unfolding laid_meaning laid_tick
  worked s k g o busy fits told = record {
    meant = deed_meant (r.works s) 0 g s k (meaning k) (layered r s (meaning k)) o fits refl (layered_busy r falls s (meaning k) busy) told;
    reached = ap (λ z. stepping r meaning tick z s k) (sym busy);
  }

  -- the steps that the source below charges for a line
  charging : (b : ℕ) (s : S) (k : K) (t : List ℕ) (ps : List Priced) → r.busy s ≡ false → (meaning k).lines ≡ record { text = t; beyond = b } ∷ ps
      → iterate (laid_tick r meaning tick) (suc b) (laid None s k) ≡ done (r.takes s t) (iterate tick (suc b) k)
  unfolding laid_tick pay
  charging zero s k t ps idle line =
      ap (λ z. stepping r meaning tick z s k) idle ∙ ap (λ qs. listening r qs s (tick k)) line
  charging (suc b) s k t ps idle line =
      ap (iterate (laid_tick r meaning tick) (suc b)) (ap (λ z. stepping r meaning tick z s k) idle ∙ ap (λ qs. listening r qs s (tick k)) line)
      ∙ charging b s (tick k) t ps idle (ap (λ x. x.lines) (paced k ∙ ap (λ qs. pay_of qs (meaning k).ending (meaning k).due) line))

  -- a line is taken
  pub took : (s : S) (k after : K) (g n b : ℕ) (l : Line) (ps : List Priced) (o : Option (Told Line)) → r.busy s ≡ false
      → (meaning k).lines ≡ record { text = text_of l; beyond = b } ∷ ps → n ≡ suc b → n ≤ g → after ≡ iterate tick n k → TellsDeed (r.takes s (text_of l)) o
      → Advanced r meaning tick (laid None s k) (done (r.takes s (text_of l)) after) g n o
  unfolding laid_meaning
  took s k after g n b l ps o idle line costs fits reached told =
      let m = remaining ps (meaning k).ending (meaning k).due in
      let a : after ≡ iterate tick (suc b) k = reached ∙ ap (λ x. iterate tick x k) costs in
      let below : meaning after ≡ m = ap meaning a ∙ paced_spend meaning tick paced (suc b) k ∙ spend_line (meaning k) (text_of l) b ps line in
      let meant = deed_meant (r.takes s (text_of l)) b g s after m (layered r s (meaning k)) o (omega arith) below (idle_line r falls s (meaning k) (text_of l) b ps idle line) told in
      let P : ℕ → Type 0 = λ x. Advances (layered r s (meaning k)) (laid_meaning r meaning (done (r.takes s (text_of l)) after)) g x o in
      record {
        meant = subst P (sym costs) meant;
        reached = ap (done (r.takes s (text_of l))) a ∙ sym (charging b s k (text_of l) ps idle line) ∙ ap (λ x. iterate (laid_tick r meaning tick) x (laid None s k)) (sym costs);
      }

  -- a deed costs at least its price
  costs_by : (d : Deed S) (b : ℕ) (go : S → Remains) → b < next_price (by d b go)
  unfolding delay
  costs_by (onward s) b go = later (go s).lines
    where
      later : (ps : List Priced) → b < next_price (delay_of (suc b) ps (go s).ending (go s).due)
      later [] = omega arith
      later (p ∷ ps) = omega arith
  costs_by (hands t s) b go = omega arith
  costs_by (stops e s) b go = omega arith

  -- while the price below is above the steps, nothing is taken
  still_line : (n b : ℕ) (s : S) (k : K) (t : List ℕ) (ps : List Priced) → r.busy s ≡ false → n ≤ b → (meaning k).lines ≡ record { text = t; beyond = b } ∷ ps
      → iterate (laid_tick r meaning tick) n (laid None s k) ≡ laid None s (iterate tick n k)
  unfolding laid_tick pay
  still_line zero b s k t ps idle few line = refl
  still_line (suc n) zero s k t ps idle few line = absurd (omega arith)
  still_line (suc n) (suc b) s k t ps idle few line =
      ap (iterate (laid_tick r meaning tick) n) (ap (λ z. stepping r meaning tick z s k) idle ∙ ap (λ qs. listening r qs s (tick k)) line)
      ∙ still_line n b s (tick k) t ps idle (omega arith) (ap (λ x. x.lines) (paced k ∙ ap (λ qs. pay_of qs (meaning k).ending (meaning k).due) line))

  still_over : (n : ℕ) (s : S) (k : K) → r.busy s ≡ false → (meaning k).lines ≡ []
      → iterate (laid_tick r meaning tick) n (laid None s k) ≡ laid None s (iterate tick n k)
  unfolding laid_tick pay
  still_over zero s k idle none = refl
  still_over (suc n) s k idle none =
      ap (iterate (laid_tick r meaning tick) n) (ap (λ z. stepping r meaning tick z s k) idle ∙ ap (λ qs. listening r qs s (tick k)) none)
      ∙ still_over n s (tick k) idle (ap (λ x. x.lines) (paced k ∙ ap (λ qs. pay_of qs (meaning k).ending (meaning k).due) none))

  -- the source below holds over
  pub waited : (s : S) (k after : K) (g n : ℕ) → r.busy s ≡ false → g < next_price (meaning k) → n ≡ g → after ≡ iterate tick n k
      → Advanced r meaning tick (laid None s k) (laid None s after) g n (Some told.Held)
  unfolding laid_meaning
  waited s k after g n idle above whole reached = go (meaning k).lines refl
    where
      go : (ps : List Priced) → (meaning k).lines ≡ ps → Advanced r meaning tick (laid None s k) (laid None s after) g n (Some told.Held)
      go [] e =
          let m = ap next_price (idle_over r falls s (meaning k) idle e) in
          let f = ap (λ qs. first_price qs (meaning k).due) e in
          record { meant = (omega arith, whole); reached = ap (laid None s) reached ∙ sym (still_over n s k idle e) }
      go (p ∷ ps) e =
          let m = ap next_price (idle_line r falls s (meaning k) p.text p.beyond ps idle e) in
          let f = ap (λ qs. first_price qs (meaning k).due) e in
          let l = costs_by (r.takes s p.text) p.beyond (λ u. layered r u (remaining ps (meaning k).ending (meaning k).due)) in
          record { meant = (omega arith, whole); reached = ap (laid None s) reached ∙ sym (still_line n p.beyond s k p.text ps idle (omega arith) e) }

  -- the source below tells its ending
  pub closed : (s : S) (k after : K) (g n : ℕ) (e f : Ending) → r.busy s ≡ false → (meaning k).lines ≡ [] → (meaning k).ending ≡ e → (meaning k).due ≡ n → n ≤ g
      → after ≡ iterate tick n k → f ≡ r.closes s e
      → Advanced r meaning tick (laid None s k) (laid None s after) g n (Some (told.Ended f))
  unfolding laid_meaning
  closed s k after g n e f idle none ends due fits reached is =
      let m = idle_over r falls s (meaning k) idle none in
      record {
        meant = (ap (λ x. x.lines) m, ap (λ x. x.ending) m ∙ ap (r.closes s) ends ∙ sym is, ap (λ x. x.due) m ∙ due, fits);
        reached = ap (laid None s) reached ∙ sym (still_over n s k idle none);
      }

  -- an ending that was told is told again for nothing
  pub over_again : (e : Ending) (s : S) (k : K) (g : ℕ) → Advanced r meaning tick (laid (Some e) s k) (laid (Some e) s k) g 0 (Some (told.Ended e))
  unfolding laid_meaning
  over_again e s k g = record { meant = (refl, refl, refl, omega arith); reached = refl }

  -- a busy layer without a step waits
  pub no_step : (s : S) (k : K) (g : ℕ) → r.busy s ≡ true → g ≡ 0 → Advanced r meaning tick (laid None s k) (laid None s k) g 0 (Some told.Held)
  unfolding laid_meaning
  no_step s k g busy none =
      let m = ap next_price (layered_busy r falls s (meaning k) busy) in
      let l = costs_by (r.works s) 0 (λ u. layered r u (meaning k)) in
      record { meant = (omega arith, sym none); reached = refl }

  -- the same, as the code has it: its own ending, its state and what it tells by their equations
  at : (from from' to to' : Laid S K) (g n : ℕ) (h : Option (Told Line)) → from' ≡ from → to' ≡ to → Advanced r meaning tick from to g n h → Advanced r meaning tick from' to' g n h
  at from from' to to' g n h p q a =
      let P : Laid S K → Type 0 = λ x. Advanced r meaning tick x to g n h in
      let Q : Laid S K → Type 0 = λ x. Advanced r meaning tick from' x g n h in
      subst Q (sym q) (subst P (sym p) a)

  told_by : (d : CodeDeed) (s : S) (x : Deed S) (h : Option (Told Line)) → x ≡ did d s → h ≡ heard_of d → TellsDeed x h
  told_by d s x h e i =
      let P : Deed S → Type 0 = λ y. TellsDeed y h in
      let Q : Option (Told Line) → Type 0 = λ y. TellsDeed (did d s) y in
      subst P (sym e) (subst Q (sym i) (heard_by d s))

  left_by : (d : CodeDeed) (own : Option Ending) (s : S) (k : K) (x : Deed S) → x ≡ did d s → own ≡ ending_of d → laid own s k ≡ done x k
  left_by d own s k x e i = ap (λ y. laid y s k) i ∙ ended_by d s k ∙ ap (λ y. done y k) (sym e)

  pub code_worked : (o own : Option Ending) (s s' : S) (k : K) (g : ℕ) (d : CodeDeed) (h : Option (Told Line)) → o ≡ None → r.busy s ≡ true → 1 ≤ g
      → r.works s ≡ did d s' → own ≡ ending_of d → h ≡ heard_of d → Advanced r meaning tick (laid o s k) (laid own s' k) g 1 h
  code_worked o own s s' k g d h none busy fits works ends tells =
      at (laid None s k) (laid o s k) (done (r.works s) k) (laid own s' k) g 1 h (ap (λ y. laid y s k) none) (left_by d own s' k (r.works s) works ends)
      (worked s k g h busy fits (told_by d s' (r.works s) h works tells))

  pub code_no_step : (o : Option Ending) (s : S) (k : K) (g : ℕ) → o ≡ None → r.busy s ≡ true → g ≡ 0 → Advanced r meaning tick (laid o s k) (laid o s k) g 0 (Some told.Held)
  code_no_step o s k g none busy nothing =
      let e = ap (λ y. laid y s k) none in at (laid None s k) (laid o s k) (laid None s k) (laid o s k) g 0 (Some told.Held) e e (no_step s k g busy nothing)

  pub code_took : (o own : Option Ending) (s s' : S) (k after : K) (g n : ℕ) (l : Line) (d : CodeDeed) (h : Option (Told Line)) → o ≡ None → r.busy s ≡ false
      → HearsOf (meaning k) g n (told.Line l) → after ≡ iterate tick n k
      → r.takes s (text_of l) ≡ did d s' → own ≡ ending_of d → h ≡ heard_of d → Advanced r meaning tick (laid o s k) (laid own s' after) g n h
  code_took o own s s' k after g n l d h none idle (b, ps, line, costs, fits) reached takes ends tells =
      at (laid None s k) (laid o s k) (done (r.takes s (text_of l)) after) (laid own s' after) g n h (ap (λ y. laid y s k) none) (left_by d own s' after (r.takes s (text_of l)) takes ends)
      (took s k after g n b l ps h idle line costs fits reached (told_by d s' (r.takes s (text_of l)) h takes tells))

  pub code_waited : (o : Option Ending) (s : S) (k after : K) (g n : ℕ) → o ≡ None → r.busy s ≡ false → HearsOf (meaning k) g n told.Held → after ≡ iterate tick n k
      → Advanced r meaning tick (laid o s k) (laid o s after) g n (Some told.Held)
  code_waited o s k after g n none idle (above, whole) reached =
      at (laid None s k) (laid o s k) (laid None s after) (laid o s after) g n (Some told.Held) (ap (λ y. laid y s k) none) (ap (λ y. laid y s after) none) (waited s k after g n idle above whole reached)

  pub code_closed : (o : Option Ending) (s : S) (k after : K) (g n : ℕ) (e f : Ending) → o ≡ None → r.busy s ≡ false → HearsOf (meaning k) g n (told.Ended e) → after ≡ iterate tick n k
      → f ≡ r.closes s e → Advanced r meaning tick (laid o s k) (laid o s after) g n (Some (told.Ended f))
  code_closed o s k after g n e f none idle (no_lines, ends, due, fits) reached is =
      at (laid None s k) (laid o s k) (laid None s after) (laid o s after) g n (Some (told.Ended f)) (ap (λ y. laid y s k) none) (ap (λ y. laid y s after) none)
      (closed s k after g n e f idle no_lines ends due fits reached is)

  pub code_over : (o : Option Ending) (e : Ending) (s : S) (k : K) (g : ℕ) → o ≡ Some e → Advanced r meaning tick (laid o s k) (laid o s k) g 0 (Some (told.Ended e))
  code_over o e s k g own =
      let x = ap (λ y. laid y s k) own in at (laid (Some e) s k) (laid o s k) (laid (Some e) s k) (laid o s k) g 0 (Some (told.Ended e)) x x (over_again e s k g)

  -- one part of a request after another
  pub goes_on : (from mid to : Laid S K) (g s n : ℕ) (h : Option (Told Line)) → s ≤ g → laid_meaning r meaning from ≡ delay s (laid_meaning r meaning mid)
      → mid ≡ iterate (laid_tick r meaning tick) s from → Advanced r meaning tick mid to (g - s) n h → h ≡ None
      → (s + n ≤ g) × (laid_meaning r meaning from ≡ delay (s + n) (laid_meaning r meaning to)) × (to ≡ iterate (laid_tick r meaning tick) (s + n) from) × (0 < n)
  goes_on from mid to g s n h fits meant reached a none =
      let P : Option (Told Line) → Type 0 = λ x. Advances (laid_meaning r meaning mid) (laid_meaning r meaning to) (g - s) n x in
      let b = subst P none a.meant in (
        omega arith,
        meant ∙ ap (delay s) b.0 ∙ delay_joins s n (laid_meaning r meaning to),
        a.reached ∙ ap (iterate (laid_tick r meaning tick) n) reached ∙ iterate_joins (laid_tick r meaning tick) s n from,
        b.1,
      )

  pub turns : (from mid to : Laid S K) (g s n : ℕ) (o : Option (Told Line)) (h : Told Line) → s ≤ g → laid_meaning r meaning from ≡ delay s (laid_meaning r meaning mid)
      → mid ≡ iterate (laid_tick r meaning tick) s from → Advanced r meaning tick mid to (g - s) n o → o ≡ Some h
      → Turned r meaning tick from to g (record { spent = s + n; told = h })
  turns from mid to g s n o h fits meant reached a some =
      let P : Option (Told Line) → Type 0 = λ x. Advances (laid_meaning r meaning mid) (laid_meaning r meaning to) (g - s) n x in
      let Q : Remains → Type 0 = λ x. HearsOf x g (s + n) h in
      record {
        hears = subst Q (sym meant) (hears_delayed s n g (laid_meaning r meaning mid) h fits (subst P some a.meant));
        reached = a.reached ∙ ap (iterate (laid_tick r meaning tick) n) reached ∙ iterate_joins (laid_tick r meaning tick) s n from;
      }
