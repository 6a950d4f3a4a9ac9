-- One step of the text source.
use Rattle.std.proofs.Common.{◌≡◌, ℕ, ◌≤◌, List, [], ◌∷◌, Some, None, Option, sym, refl, ap, ◌∙◌, arith}
use Rattle.sources.specs.declared.faults.Cause.{Cause}
use Rattle.sources.specs.declared.answers.Told.{Told}
use Rattle.sources.specs.declared.answers.Told.TheVariants as told
use Rattle.sources.specs.declared.line.Line.{Line}
use Rattle.sources.specs.Faults.{Ending, the_end, counted, found}
use Rattle.sources.specs.Hearings.{text_of, HearsOf}
use Rattle.sources.specs.Meaning.{Remains, remaining, next_price, pay}
use Rattle.lines.specs.Texts.{lines_of}
use Rattle.sources.specs.Texts.{flaw, or_fault, reading, resting}

-- what one step hears, and what it leaves
pub record Stepped (before after : Remains) (h : Told Line) : Type 0 where
  pub hears : (g : ℕ) → 1 ≤ g → HearsOf before g 1 h
  pub reached : after ≡ pay before

pub step_end : (o : Option Ending) (n : ℕ) (rest : List ℕ) → o ≡ None → lines_of rest ≡ []
    → Stepped (resting o n rest) (remaining [] the_end 0) (told.Ended the_end)
unfolding pay
step_end o n rest e none =
    let m : resting o n rest ≡ remaining [] the_end 1 = ap (λ x. resting x n rest) e ∙ ap (reading n) none in
    rw m (record { hears = λ g k. (refl, refl, refl, k); reached = refl })

-- the lines left are a piece and those of what follows it
pub step_line : (o : Option Ending) (n k : ℕ) (rest piece after : List ℕ) (l : Line) → o ≡ None → lines_of rest ≡ piece ∷ lines_of after
    → flaw piece ≡ None → text_of l ≡ piece → k ≡ counted n → Stepped (resting o n rest) (resting o k after) (told.Line l)
unfolding pay
step_line o n k rest piece after l none cut clean is counts =
    let later = reading (counted n) (lines_of after) in
    let m : resting o n rest ≡ remaining (record { text = text_of l; beyond = 0 } ∷ later.lines) later.ending later.due =
    ap (λ x. resting x n rest) none ∙ ap (reading n) cut ∙ simp (clean, is) in
    let a : resting o k after ≡ later = simp (none, counts) in
    rw (m, a) (record { hears = λ g k. (0, later.lines, refl, refl, k); reached = refl })

pub step_fault : (o : Option Ending) (n k : ℕ) (rest piece : List ℕ) (later : List (List ℕ)) (c : Cause) (f : Ending) → o ≡ None → lines_of rest ≡ piece ∷ later
    → flaw piece ≡ Some c → k ≡ counted n → f ≡ found c k → Stepped (resting o n rest) (remaining [] f 0) (told.Ended f)
unfolding pay
step_fault o n k rest piece later c f none cut flawed counts fault =
    let m : resting o n rest ≡ remaining [] f 1 = ap (λ x. resting x n rest) none ∙ ap (reading n) cut ∙ simp (flawed, fault, counts) in
    rw m (record { hears = λ g k. (refl, refl, refl, k); reached = refl })

-- before its ending is told, what a text source has next costs one step
pub first_costs : (n : ℕ) (ts : List (List ℕ)) → next_price (reading n ts) ≡ 1
first_costs n [] = refl
first_costs n (t ∷ ts) = go (flaw t)
  where
    go : (f : Option Cause) → next_price (or_fault f t (counted n) (reading (counted n) ts)) ≡ 1
    go None = refl
    go (Some c) = refl

-- a grant of no step holds a text source over
pub step_none : (o : Option Ending) (n g : ℕ) (rest : List ℕ) → o ≡ None → g ≡ 0 → HearsOf (resting o n rest) g 0 told.Held
step_none o n g rest none zero =
    let e : next_price (resting o n rest) ≡ 1 = ap (λ x. next_price (resting x n rest)) none ∙ first_costs n (lines_of rest) in
    (omega arith, sym zero)
