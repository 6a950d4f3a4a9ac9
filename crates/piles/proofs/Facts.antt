-- What one reply says of prices.
use Rattle.std.proofs.Common.{◌≡◌, ℕ, ◌+◌, ◌-◌, ◌<◌, ◌≤◌, Bool, true, false, cond, leb, ◌↔◌, List, [], ◌∷◌, length, take, drop, Some, None, Option, Result, sym, refl, ap, ◌∙◌, arith}
use Rattle.std.proofs.lemmas.Bool.{leb-true, leb-false, le-leb, lt-leb}
use Rattle.std.proofs.lemmas.List.{take-append-le}
use Rattle.sources.specs.declared.answers.Answer.{Answer}
use Rattle.sources.specs.declared.answers.Refusal.{Refusal}
use Rattle.sources.specs.declared.answers.Told.{Told}
use Rattle.sources.specs.declared.answers.Told.TheVariants.{Line, Held, Ended}
use Rattle.sources.specs.Faults.{Ending}
use Rattle.sources.specs.Lines.{filled, written}
use Rattle.sources.specs.Meaning.{Priced, Remains, price, first_price, next_price, Untold}
use Rattle.sources.specs.Replies.{Turn, turning, turn_of, refusal_of, replying, reply_of, StandsIn, Lawful, spent_by}
use Rattle.sources.proofs.Filling.{length_filled, take_filled}
use Rattle.piles.specs.Prices.{cost, total}
use Rattle.piles.specs.Requests.{told_lines, lines_in, EndsTold, EndsIn, HoldsTold, HoldsIn}
use Rattle.piles.proofs.Sums.{handed_by, handed_none}

pub written_front : (t old : List ℕ) → length t ≤ 80 → take (length t) (written t old) ≡ t
written_front t old small =
    let within : length t ≤ length (filled t) = omega (arith, length_filled t) in
    take-append-le (length t) (filled t) (drop 80 old) within ∙ take_filled t small

record TurnFacts (ps : List Priced) (d g : ℕ) (t : Turn) : Type 0 where
  within : t.spent ≤ cost ps + d
  lines : StandsIn t.told t.buffer → told_lines t.told t.buffer ≡ handed_by ps t.spent
  ends : EndsTold t.told → t.spent ≡ cost ps + d
  ended : 0 < d → t.spent ≡ cost ps + d → EndsTold t.told
  holds : HoldsTold t.told ↔ (g < first_price ps d)

turn_facts : (ps : List Priced) (e : Ending) (d : ℕ) (old : List ℕ) (g : ℕ) → TurnFacts ps d g (turn_of ps e d old g)
turn_facts [] e d old g = go (leb d g) refl
  where
    go : (z : Bool) → leb d g ≡ z → TurnFacts [] d g (cond z (turning (Ended e) d old) (turning Held g old))
    go true t =
        let w = leb-true d g t in
        record { within = omega arith; lines = λ h. refl; ends = λ h. omega arith; ended = λ h k. tt; holds = ((λ h. absurd h), (λ h. absurd (omega arith))) }
    go false t =
        let w = leb-false d g t in
        record { within = omega arith; lines = λ h. refl; ends = λ h. absurd h; ended = λ h k. absurd (omega arith); holds = ((λ h. w), (λ h. tt)) }
turn_facts (p ∷ ps) e d old g = go (leb (price p) g) refl
  where
    go : (z : Bool) → leb (price p) g ≡ z → TurnFacts (p ∷ ps) d g (cond z (turning (Line (length p.text)) (price p) (written p.text old)) (turning Held g old))
    go true t =
        let w = leb-true (price p) g t in
        let same : leb (price p) (price p) ≡ true = le-leb (price p) (price p) (omega arith) in
        let none : price p - price p ≡ 0 = omega arith in
        record {
          within = omega arith;
          lines = λ h. ap (λ x. x ∷ []) (written_front p.text old h.fits) ∙ simp (same, none, handed_none ps);
          ends = λ h. absurd h;
          ended = λ h k. absurd (omega arith);
          holds = ((λ h. absurd h), (λ h. absurd (omega arith)));
        }
    go false t =
        let w = leb-false (price p) g t in
        record {
          within = omega arith;
          lines = λ h. simp (lt-leb (price p) g w);
          ends = λ h. absurd h;
          ended = λ h k. absurd (omega arith);
          holds = ((λ h. w), (λ h. tt));
        }

-- the same of a whole reply
pub record ReplyFacts (m : Remains) (old : List ℕ) (g : ℕ) (r : Result (Answer (Told ℕ)) Refusal) (new : List ℕ) : Type 0 where
  pub within : spent_by r ≤ total m
  pub lines : Lawful r new → lines_in (Some r) new ≡ handed_by m.lines (spent_by r)
  pub ends : EndsIn (Some r) → spent_by r ≡ total m
  pub ended : Untold m → spent_by r ≡ total m → EndsIn (Some r)
  pub holds : refusal_of (length old) g ≡ None → HoldsIn (Some r) ↔ (g < next_price m)

pub reply_facts : (m : Remains) (old : List ℕ) (g : ℕ) → ReplyFacts m old g (reply_of m old g).answer (reply_of m old g).buffer
unfolding reply_of
reply_facts m old g = go (refusal_of (length old) g) refl
  where
    go : (o : Option Refusal) → refusal_of (length old) g ≡ o → ReplyFacts m old g (replying o m old g).answer (replying o m old g).buffer
    go (Some x) e = record {
      within = omega arith;
      lines = λ h. sym (handed_none m.lines);
      ends = λ h. absurd h;
      ended = λ h k. absurd (omega arith);
      holds = λ k. let z : ◌≡◌ {A = ℕ} 0 1 = cc in absurd (omega arith);
    }
    go None e =
        let f = turn_facts m.lines m.ending m.due old g in
        record { within = f.within; lines = f.lines; ends = f.ends; ended = f.ended; holds = λ k. f.holds }
