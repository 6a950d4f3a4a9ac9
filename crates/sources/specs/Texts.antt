-- The meaning of a text as a source.
use Rattle.std.specs.Prelude.{ℕ, cond, List, [], ◌∷◌, length, Some, None, Option, nat_le, refl}
use Rattle.lines.specs.Characters.{characters}
use Rattle.lines.specs.Texts.{lines_of}
use Rattle.sources.specs.declared.faults.Cause.{Cause}
use Rattle.sources.specs.declared.faults.Cause.TheVariants.{LineTooLong, BadCharacter}
use Rattle.sources.specs.declared.text.TextSource.{TextSource}
use Rattle.sources.specs.Faults.{Ending, the_end, counted, found}
use Rattle.sources.specs.Meaning.{Paced, Remains, pay, remaining}

-- what is wrong with a line, if anything: over 80 bytes, then a byte that is no character
abbrev pub flaw : List ℕ → Option Cause
flaw t = cond (nat_le (length t) 80) (cond (characters t) None (Some BadCharacter)) (Some LineTooLong)

-- a line at price 1 before the rest, or a fault at price 1 in its place
abbrev pub or_fault : Option Cause → List ℕ → ℕ → Remains → Remains
or_fault None t n m = remaining (record { text = t; beyond = 0 } ∷ m.lines) m.ending m.due
or_fault (Some c) t n m = remaining [] (found c n) 1

-- the lines in order, the first faulty one as the ending, when so many are taken already
abbrev pub reading : ℕ → List (List ℕ) → Remains
reading n [] = remaining [] the_end 1
reading n (t ∷ ts) = or_fault (flaw t) t (counted n) (reading (counted n) ts)

-- the meaning of a text
abbrev pub text_remains : List ℕ → Remains
text_remains bytes = reading 0 (lines_of bytes)

-- what remains in a text source: an ending that was told, or what the rest of the text gives
abbrev pub resting : Option Ending → ℕ → List ℕ → Remains
resting (Some e) n rest = remaining [] e 0
resting None n rest = reading n (lines_of rest)

abbrev pub left_in : TextSource → Remains
left_in s = resting s.told s.taken s.lines

-- what a text source keeps is what remains in it
pub text_paced : Paced (λ (m : Remains). m) pay
text_paced m = refl
