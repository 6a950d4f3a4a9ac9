-- What a layer hears from the source below it, by what remained there and the grant.
use Rattle.std.specs.Prelude.{◌≡◌, ℕ, suc, ◌<◌, ◌≤◌, List, [], ◌∷◌, length, take, Ok, Err, Result}
use Rattle.sources.specs.declared.answers.Refusal.{Refusal}
use Rattle.sources.specs.declared.answers.Refusal.TheVariants.{LargeGrant}
use Rattle.sources.specs.declared.line.Line.{Line}
use Rattle.sources.specs.declared.answers.Answer.{Answer}
use Rattle.sources.specs.declared.answers.Told.{Told}
use Rattle.sources.specs.declared.answers.Told.TheVariants as told
use Rattle.sources.specs.Lines.{written}
use Rattle.sources.specs.Meaning.{Priced, Remains, next_price}

-- the text of a line
abbrev pub text_of : Line → List ℕ
text_of l = take l.bytes.len l.bytes.bytes

-- the first line or the ending, whose price is at most the grant, or neither, where the price is above it
abbrev pub HearsOf : Remains → ℕ → ℕ → Told Line → Type 0
HearsOf m grant spent (told.Line l) =
    (b : ℕ) × (ps : List Priced) × (m.lines ≡ record { text = text_of l; beyond = b } ∷ ps) × (spent ≡ suc b) × (spent ≤ grant)
HearsOf m grant spent told.Held = (grant < next_price m) × (spent ≡ grant)
HearsOf m grant spent (told.Ended e) = (m.lines ≡ []) × (m.ending ≡ e) × (m.due ≡ spent) × (spent ≤ grant)

abbrev pub Hears : Remains → ℕ → Answer (Told Line) → Type 0
Hears m grant h = HearsOf m grant h.spent h.told

-- what is told to a caller of what was heard
abbrev pub tells_of : Told Line → Told ℕ
tells_of (told.Line l) = told.Line (length (text_of l))
tells_of told.Held = told.Held
tells_of (told.Ended e) = told.Ended e

abbrev pub tells : Answer (Told Line) → Answer (Told ℕ)
tells h = record { spent = h.spent; told = tells_of h.told }

-- the buffer after it: a line stands in it, and nothing else is written
abbrev pub delivers_of : Told Line → List ℕ → List ℕ
delivers_of (told.Line l) buffer = written (text_of l) buffer
delivers_of told.Held buffer = buffer
delivers_of (told.Ended e) buffer = buffer

abbrev pub delivers : Answer (Told Line) → List ℕ → List ℕ
delivers h buffer = delivers_of h.told buffer

-- a request from a layer: refused where the grant is above 1,000,000, else heard
abbrev pub Asked : Remains → ℕ → Result (Answer (Told Line)) Refusal → Type 0
Asked m grant (Ok h) = (grant ≤ 1000000) × Hears m grant h
Asked m grant (Err r) = (1000000 < grant) × (r ≡ LargeGrant)
