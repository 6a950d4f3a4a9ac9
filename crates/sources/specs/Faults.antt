-- Faults and refusals: their numbers, the count of lines, and a fault passed up.
use Rattle.std.specs.Prelude.{ℕ, ◌+◌, min, Ok, Err, Result}
use Rattle.sources.specs.declared.faults.Cause.{Cause}
use Rattle.sources.specs.declared.faults.Cause.TheVariants.{LineTooLong, BadCharacter}
use Rattle.sources.specs.declared.faults.Fault.{Fault}
use Rattle.sources.specs.declared.answers.Refusal.{Refusal}
use Rattle.sources.specs.declared.answers.Refusal.TheVariants.{ShortBuffer, LargeGrant}

-- the number that a fault of this cause tells
abbrev pub cause_number : Cause → ℕ
cause_number LineTooLong = 3
cause_number BadCharacter = 4

-- the number that a refused call gets
abbrev pub refusal_number : Refusal → ℕ
refusal_number ShortBuffer = 1
refusal_number LargeGrant = 2

-- one line more is taken; the count stops at 999,999,999
abbrev pub counted : ℕ → ℕ
counted n = min (n + 1) 999999999

-- the fault as the layer above tells it: whole, its depth one greater, up to 255
abbrev pub deeper : Fault → Fault
deeper f = record { cause = f.cause; depth = min (f.depth + 1) 255; line = f.line; definition = f.definition; statement = f.statement }

-- why a source ends: End, or a fault
abbrev pub Ending : Type 0
Ending = Result (Unit {0}) Fault

-- End
abbrev pub the_end : Ending
the_end = Ok tt

-- the ending as the layer above tells it
abbrev pub raised : Ending → Ending
raised (Ok u) = Ok u
raised (Err f) = Err (deeper f)

-- a fault that a source finds in its own line, when so many lines are taken with it
abbrev pub found : Cause → ℕ → Ending
found c n = Err (record { cause = c; depth = 0; line = n; definition = record { 0 = 0 }; statement = record { 0 = 0 } })
