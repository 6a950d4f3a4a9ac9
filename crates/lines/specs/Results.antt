-- Answers of a test that tells what is wrong.
use Rattle.std.specs.Prelude.{◌≡◌, Some, None, Option, Result, MatchResult}

-- the test passes where nothing is wrong, and else it tells what is
abbrev pub Passes : {E : Type 0} → Option E → Result (Unit {0}) E → Type 0
Passes wrong result = MatchResult result (λ _. wrong ≡ None) (λ e. wrong ≡ Some e)
