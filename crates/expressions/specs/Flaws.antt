-- What is wrong with a part of a statement, and its number.
use Rattle.std.specs.Prelude.{ℕ}
use Rattle.expressions.specs.declared.flaws.Flaw.{Flaw}
use Rattle.expressions.specs.declared.flaws.Flaw.TheVariants.{NoForm, UnknownSymbol, NotDigits, OutOfRange, ZeroDivisor}

-- the number that a fault with this flaw tells
abbrev pub flaw_number : Flaw → ℕ
flaw_number NoForm = 31
flaw_number UnknownSymbol = 32
flaw_number NotDigits = 36
flaw_number OutOfRange = 37
flaw_number ZeroDivisor = 38
