use Rattle.std.proofs.Common.{◌≡◌, [], ◌∷◌, ◌++◌, length, drop, codes, decimal, sym, refl, ap, arith}
use Rattle.std.proofs.lemmas.Fmt.{decimal_digit}
use Rattle.expressions.specs.declared.level.Op.TheVariants.{Plus, Minus, Times, Over}
use Rattle.expressions.specs.Pieces.{plain, percent, colons, symbol, joined}
use Rattle.expressions.specs.Trees.{number, name, signed, applied, group, numeral, operator}
use Rattle.expressions.proofs.Working.{no_tree}
use Rattle.expressions.proofs.cases.worked_cases_hold.Goals as goal

three : decimal 3 ≡ 51 ∷ []
three = decimal_digit 3 (omega arith)

pub returns : goal.returns
returns c =
    record {
      quotient = (applied Over (signed Minus (number (codes "7"))) (number (codes "2")), (record { whole = refl; words = refl }, refl), refl);
      order = (applied Minus (applied Plus (number (codes "2")) (applied Times (number (codes "3")) (number (codes "4")))) (number (codes "1")), (record { whole = refl; words = refl }, refl), refl);
      left = (applied Over (applied Over (number (codes "8")) (number (codes "2"))) (number (codes "2")), (record { whole = refl; words = refl }, refl), refl);
      lowest = (applied Minus (signed Minus (number (codes "2147483647"))) (number (codes "1")), (record { whole = refl; words = refl }, refl), refl);
      second_sign = no_tree 15 (codes "3*-2") (numeral (codes "3") ∷ operator Times ∷ operator Minus ∷ numeral (codes "2") ∷ []) (refl, refl) refl;
      too_high = (applied Plus (number (codes "2147483647")) (number (codes "1")), (record { whole = refl; words = refl }, refl), refl);
      too_high_first = (applied Plus (applied Plus (number (codes "2147483647")) (number (codes "1"))) (applied Over (number (codes "5")) (number (codes "0"))), (record { whole = refl; words = refl }, refl), refl);
      written_too_high = (signed Minus (number (codes "2147483648")), (record { whole = refl; words = refl }, refl), refl);
      by_zero = (applied Over (number (codes "5")) (number (codes "0")), (record { whole = refl; words = refl }, refl), refl);
      unknown_first = (applied Plus (applied Over (number (codes "5")) (number (codes "0"))) (name (codes "A")), record { whole = refl; words = refl }, refl);
      symbol = (applied Times (group (applied Plus (name (codes "A")) (number (codes "1")))) (number (codes "2")), (record { whole = refl; words = refl }, refl), refl);
      two_colons = λ b. (symbol (codes "A") ∷ colons ∷ plain 66 ∷ [], (refl, refl), refl, sym (ap (λ x. length (x ++ (58 ∷ 66 ∷ []))) three), omega arith, ap (λ x. (x ++ (58 ∷ 66 ∷ [])) ++ drop 3 b) (sym three));
      one_colon = λ b. (joined (codes "A") ∷ plain 66 ∷ [], (refl, refl), refl, sym (ap (λ x. length (x ++ (66 ∷ []))) three), omega arith, ap (λ x. (x ++ (66 ∷ [])) ++ drop 2 b) (sym three));
      three_colons = λ b. (symbol (codes "A") ∷ colons ∷ plain 58 ∷ plain 66 ∷ [], (refl, refl), refl, sym (ap (λ x. length (x ++ (58 ∷ 58 ∷ 66 ∷ []))) three), omega arith, ap (λ x. (x ++ (58 ∷ 58 ∷ 66 ∷ [])) ++ drop 4 b) (sym three));
      percents = λ b. (plain 53 ∷ percent ∷ plain 58 ∷ [], (refl, refl), refl, refl, omega arith, refl);
      shorter_lower = refl;
      zero_before = refl;
      byte_decides = refl;
    }
