-- What NEXT answers: by what remained, the buffer and the grant.
use Rattle.std.specs.Prelude.{◌≡◌, ℕ, ◌≤◌, true, cond, List, [], ◌∷◌, length, take, Some, None, Ok, Err, Option, Result, nat_le, nat_lt}
use Rattle.sources.specs.declared.answers.Answer.{Answer}
use Rattle.sources.specs.declared.answers.Refusal.{Refusal}
use Rattle.sources.specs.declared.answers.Refusal.TheVariants.{ShortBuffer, LargeGrant}
use Rattle.sources.specs.declared.answers.Told.{Told}
use Rattle.sources.specs.declared.answers.Told.TheVariants.{Line, Held, Ended}
use Rattle.lines.specs.Characters.{characters}
use Rattle.sources.specs.Faults.{Ending}
use Rattle.sources.specs.Lines.{written}
use Rattle.sources.specs.Meaning.{Priced, Remains, price, spend}

-- what a request that is not refused tells, and the steps it spends
pub record Turn : Type 0 where
  pub told : Told ℕ
  pub spent : ℕ
  pub buffer : List ℕ

abbrev pub turning : Told ℕ → ℕ → List ℕ → Turn
turning t n b = record { told = t; spent = n; buffer = b }

-- the first line or the ending where its price is at most the grant; else held over, and the whole grant is spent
abbrev pub turn_of : List Priced → Ending → ℕ → List ℕ → ℕ → Turn
turn_of [] e d buffer grant = cond (nat_le d grant) (turning (Ended e) d buffer) (turning Held grant buffer)
turn_of (p ∷ ps) e d buffer grant =
    cond (nat_le (price p) grant) (turning (Line (length p.text)) (price p) (written p.text buffer)) (turning Held grant buffer)

-- the whole reply: the answer, the buffer, and what remains
pub record Reply : Type 0 where
  pub answer : Result (Answer (Told ℕ)) Refusal
  pub buffer : List ℕ
  pub left : Remains

abbrev answered : Remains → Turn → Reply
answered m t = record { answer = Ok (record { spent = t.spent; told = t.told }); buffer = t.buffer; left = spend m t.spent }

-- a buffer under 80 bytes is refused, then a grant above 1,000,000
abbrev pub refusal_of : ℕ → ℕ → Option Refusal
refusal_of size grant = cond (nat_lt size 80) (Some ShortBuffer) (cond (nat_lt 1000000 grant) (Some LargeGrant) None)

-- a refused call spends and changes nothing
abbrev pub replying : Option Refusal → Remains → List ℕ → ℕ → Reply
replying (Some r) m buffer grant = record { answer = Err r; buffer = buffer; left = m }
replying None m buffer grant = answered m (turn_of m.lines m.ending m.due buffer grant)

unfoldable pub reply_of : Remains → List ℕ → ℕ → Reply
reply_of m buffer grant = replying (refusal_of (length buffer) grant) m buffer grant

-- the contract of NEXT: what was answered, what stands in the buffer and what remains are the reply
pub record Replies (before after : Remains) (old new : List ℕ) (grant : ℕ) (r : Result (Answer (Told ℕ)) Refusal) : Type 0 where
  pub answer : r ≡ (reply_of before old grant).answer
  pub buffer : new ≡ (reply_of before old grant).buffer
  pub left : after ≡ (reply_of before old grant).left

-- the steps that an answer tells; a refusal spends none
abbrev pub spent_by : {T : Type 0} → Result (Answer T) Refusal → ℕ
spent_by (Ok a) = a.spent
spent_by (Err r) = 0

-- the first n bytes of a buffer are a line: 0 to 80 characters
pub record LineIn (n : ℕ) (buffer : List ℕ) : Type 0 where
  pub fits : n ≤ 80
  pub clean : characters (take n buffer) ≡ true

-- what an answer tells as a line stands in the buffer
abbrev pub StandsIn : Told ℕ → List ℕ → Type 0
StandsIn (Line n) buffer = LineIn n buffer
StandsIn Held buffer = Unit {0}
StandsIn (Ended e) buffer = Unit {0}

abbrev pub Lawful : Result (Answer (Told ℕ)) Refusal → List ℕ → Type 0
Lawful (Ok a) buffer = StandsIn a.told buffer
Lawful (Err r) buffer = Unit {0}

-- the property holds of the line, where a line is told
abbrev pub AtLine : {L : Type 0} → (L → Type 0) → Told L → Type 0
AtLine P (Line l) = P l
AtLine P Held = Unit {0}
AtLine P (Ended e) = Unit {0}

-- a line is told as another that the relation ties to it; held over and an ending stay
abbrev pub Mapped : {L M : Type 0} → (L → M → Type 0) → Told L → Told M → Type 0
Mapped {L} {M} R (Line l) t = (m : M) × (t ≡ Line m) × R l m
Mapped R Held t = t ≡ Held
Mapped R (Ended e) t = t ≡ Ended e
