-- Kinds of number, by what their operations give.
use Rattle.std.specs.Prelude.{ℕ, List, Option}
use Rattle.expressions.specs.declared.level.Op.{Op}
use Rattle.expressions.specs.declared.symbol.Symbol.{Symbol}

-- what digits, a symbol, a sign and an operator give
pub record Operations (V : Type 0) : Type 0 where
  pub digits : List ℕ → V
  pub symbol : Option Symbol → V
  pub signed : Op → V → V
  pub applied : Op → V → V → V
