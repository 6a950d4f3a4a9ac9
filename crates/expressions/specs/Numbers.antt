-- Text as a number, and a number as text.
use Rattle.std.specs.Prelude.{ℕ, ◌+◌, ◌-◌, ◌*◌, ◌/◌, ◌%◌, Bool, true, false, cond, ◌&&◌, List, [], ◌∷◌, length, ℤ, pos, Ok, Err, Result, nat_le}
use Rattle.std.specs.Fmt.{signed_decimal}
use Rattle.expressions.specs.declared.flaws.Flaw.{Flaw}
use Rattle.expressions.specs.declared.flaws.Flaw.TheVariants.{NotDigits, OutOfRange}
use Rattle.expressions.specs.declared.symbol.Symbol.{Symbol}
use Rattle.expressions.specs.declared.symbol.Symbol.TheVariants.{Parameter, Arithmetic, Bit, Characters, Call}
use Rattle.expressions.specs.Classes.{digits}
use Rattle.expressions.specs.Texts.{text_of}

-- the number that digits write after a number so far
abbrev pub value_from : ℕ → List ℕ → ℕ
value_from n [] = n
value_from n (d ∷ ds) = value_from (n * 10 + (d - 48)) ds

-- the number that digits write
abbrev pub value_of : List ℕ → ℕ
value_of ds = value_from 0 ds

-- a number in range, or the flaw
abbrev pub ranged : ℕ → Result ℤ Flaw
ranged n = cond (nat_le n 2147483647) (Ok (pos n)) (Err OutOfRange)

-- a text is a number where it has one to ten digits, which are then in range
abbrev pub number_of : List ℕ → Result ℤ Flaw
number_of t = cond (digits t && (nat_le 1 (length t) && nat_le (length t) 10)) (ranged (value_of t)) (Err NotDigits)

-- the last four digits of a number, zeros kept
abbrev pub four_digits : ℕ → List ℕ
four_digits n = (48 + n / 1000 % 10) ∷ (48 + n / 100 % 10) ∷ (48 + n / 10 % 10) ∷ (48 + n % 10) ∷ []

-- a bit as text
abbrev pub bit_text : Bool → List ℕ
bit_text true = 49 ∷ []
bit_text false = 48 ∷ []

-- the text that a symbol becomes: numbers have - and no leading zeros, call numbers four digits
abbrev pub shown : Symbol → List ℕ
shown (Parameter t) = text_of t
shown (Arithmetic n) = signed_decimal n
shown (Bit b) = bit_text b
shown (Characters t) = text_of t
shown (Call n) = four_digits n.0
