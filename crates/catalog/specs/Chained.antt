-- One library behind another.
use Rattle.std.specs.Prelude.{◌≡◌, ℕ, ◌+◌, Bool, true, false, cond, List, ◌++◌, length, Some, None, Option, nat_le, refl}
use Rattle.std.proofs.Common.{arith, leb-true, length-append}
use Rattle.sources.specs.declared.faults.DefinitionNumber.{DefinitionNumber}
use Rattle.libraries.specs.Lookups.{numbered}
use Rattle.libraries.specs.Reads.{all_append}
use Rattle.libraries.specs.Definitions.{Definition, Lawful, lawful_definition}

-- the first list and then the second, where both make at most 255; else the first alone
abbrev pub chained : List Definition → List Definition → List Definition
chained xs ys = cond (nat_le (length xs + length ys) 255) (xs ++ ys) xs

-- which of two libraries has the definition of a number of the chain, and under which number: none where it is the first's
abbrev pub Behind : List Definition → List Definition → ℕ → Option DefinitionNumber → Type 0
Behind xs ys n None = numbered (chained xs ys) n ≡ numbered xs n
Behind xs ys n (Some own) = numbered (chained xs ys) n ≡ numbered ys own.0

-- its definitions are at most 255 and lawful too
pub chained_lawful : (xs ys : List Definition) → Lawful xs → Lawful ys → Lawful (chained xs ys)
chained_lawful xs ys l m = go (nat_le (length xs + length ys) 255) refl
  where
    go : (z : Bool) → nat_le (length xs + length ys) 255 ≡ z → Lawful (cond z (xs ++ ys) xs)
    go false e = l
    go true e =
        let few = leb-true (length xs + length ys) 255 e in
        let n = length-append xs ys in
        record { few = omega (arith, few, n); each = all_append lawful_definition xs ys l.each m.each }
