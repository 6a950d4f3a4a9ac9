-- Worked cases.
use Rattle.std.specs.Prelude.{◌≡◌, ℕ, List, ◌++◌, drop, pos, negsuc, Some, None, Ok, Err, codes}
use Rattle.expressions.specs.declared.flaws.Flaw.TheVariants.{NoForm, UnknownSymbol, OutOfRange, ZeroDivisor}
use Rattle.expressions.specs.declared.symbol.Symbol.TheVariants.{Arithmetic}
use Rattle.expressions.specs.Arithmetic.{Answers}
use Rattle.std.specs.declared.cmp.Ordering.TheVariants.{Less, Greater}
use Rattle.expressions.specs.Compared.{compared}
use Rattle.expressions.specs.Pieces.{Table, Substituted}

-- no name is known
abbrev pub none_known : Table
none_known n = None

-- every name is a number, 3
abbrev pub all_three : Table
all_three n = Some (Arithmetic (pos 3))

-- what some texts give
pub record WorkedCases : Type 0 where
  pub quotient : Answers none_known (codes "-7/2") (Ok (negsuc 2))
  pub order : Answers none_known (codes "2+3*4-1") (Ok (pos 13))
  pub left : Answers none_known (codes "8/2/2") (Ok (pos 2))
  pub lowest : Answers none_known (codes "-2147483647-1") (Ok (negsuc 2147483647))
  pub second_sign : Answers none_known (codes "3*-2") (Err NoForm)
  pub too_high : Answers none_known (codes "2147483647+1") (Err OutOfRange)
  pub too_high_first : Answers none_known (codes "2147483647+1+5/0") (Err OutOfRange)
  pub written_too_high : Answers none_known (codes "-2147483648") (Err OutOfRange)
  pub by_zero : Answers none_known (codes "5/0") (Err ZeroDivisor)
  pub unknown_first : Answers none_known (codes "5/0+%A") (Err UnknownSymbol)
  pub symbol : Answers all_three (codes "(%A+1)*2") (Ok (pos 8))
  pub two_colons : (before : List ℕ) → Substituted all_three (codes "%A::B") before (codes "3:B" ++ drop 3 before) (Ok (Some 3))
  pub one_colon : (before : List ℕ) → Substituted all_three (codes "%A:B") before (codes "3B" ++ drop 2 before) (Ok (Some 2))
  pub three_colons : (before : List ℕ) → Substituted all_three (codes "%A:::B") before (codes "3::B" ++ drop 4 before) (Ok (Some 4))
  pub percents : (before : List ℕ) → Substituted none_known (codes "5%%:") before (codes "5%:" ++ drop 3 before) (Ok (Some 3))
  pub shorter_lower : compared (codes "Z") (codes "AA") ≡ Less
  pub zero_before : compared (codes "20") (codes "020") ≡ Less
  pub byte_decides : compared (codes "AB") (codes "AA") ≡ Greater
