-- Steps that pass before what remains goes on.
use Rattle.std.specs.Prelude.{◌≡◌, ℕ, suc, ◌+◌, ◌-◌, ◌<◌, ◌≤◌, List, [], ◌∷◌, refl}
use Rattle.std.proofs.Common.{sym, ap, ◌∙◌, arith, zero-add, suc-add, add_assoc}
use Rattle.sources.specs.declared.answers.Told.{Told}
use Rattle.sources.specs.declared.answers.Told.TheVariants as told
use Rattle.sources.specs.declared.line.Line.{Line}
use Rattle.sources.specs.Hearings.{HearsOf}
use Rattle.sources.specs.Meaning.{Priced, Remains, remaining, pay, next_price, first_price}
use Rattle.layers.specs.Engine.{delay, delay_of}

abbrev line_of : List ℕ → ℕ → Priced
line_of t b = record { text = t; beyond = b }

-- a step of a delay
pub pay_delay : (n : ℕ) (m : Remains) → pay (delay (suc n) m) ≡ delay n m
unfolding pay delay
pay_delay n m = go m.lines
  where
    go : (ps : List Priced) → pay (delay_of (suc n) ps m.ending m.due) ≡ delay_of n ps m.ending m.due
    go [] = rw suc-add refl
    go (p ∷ ps) = rw suc-add refl

pub delay_none : (m : Remains) → delay 0 m ≡ m
unfolding delay
delay_none m = go m.lines
  where
    go : (ps : List Priced) → delay_of 0 ps m.ending m.due ≡ remaining ps m.ending m.due
    go [] = ap (remaining [] m.ending) (zero-add m.due)
    go (p ∷ ps) = ap (λ b. remaining (line_of p.text b ∷ ps) m.ending m.due) (zero-add p.beyond)

pub delay_joins : (n k : ℕ) (m : Remains) → delay n (delay k m) ≡ delay (n + k) m
unfolding delay
delay_joins n k m = go m.lines
  where
    go : (ps : List Priced) → delay n (delay_of k ps m.ending m.due) ≡ delay_of (n + k) ps m.ending m.due
    go [] = ap (remaining [] m.ending) (sym (add_assoc n k m.due))
    go (p ∷ ps) = ap (λ b. remaining (line_of p.text b ∷ ps) m.ending m.due) (sym (add_assoc n k p.beyond))

-- what is heard after some steps is heard of the whole, at all of them
pub hears_delayed : (n k g : ℕ) (m : Remains) (h : Told Line) → n ≤ g → HearsOf m (g - n) k h → HearsOf (delay n m) g (n + k) h
unfolding delay
hears_delayed n k g m (told.Line l) fits (b, ps, e, s, w) =
    (n + b, ps, ap (λ qs. (delay_of n qs m.ending m.due).lines) e, omega arith, omega arith)
hears_delayed n k g m told.Held fits (w, s) = (go m.lines w, omega arith)
  where
    go : (ps : List Priced) → g - n < first_price ps m.due → g < next_price (delay_of n ps m.ending m.due)
    go [] x = omega arith
    go (p ∷ ps) x = omega arith
hears_delayed n k g m (told.Ended f) fits (e, s, d, w) =
    let is : delay_of n m.lines m.ending m.due ≡ remaining [] m.ending (n + m.due) = ap (λ qs. delay_of n qs m.ending m.due) e in
    (ap (λ x. x.lines) is, ap (λ x. x.ending) is ∙ s, ap (λ x. x.due) is ∙ ap (λ x. n + x) d, omega arith)
