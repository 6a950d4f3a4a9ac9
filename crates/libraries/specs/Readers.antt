-- How the code that reads a library text answers.
use Rattle.std.specs.Prelude.{◌≡◌, Ok, Err, Result, MatchResult}
use Rattle.libraries.specs.declared.flaws.LibraryFault.{LibraryFault}
use Rattle.libraries.specs.Checks.{Reading}

-- the code reads on as the definition does, or tells the same fault
abbrev pub ReadsOn : Result Reading LibraryFault → Result (Unit {0}) LibraryFault → Reading → Type 0
ReadsOn told result now = MatchResult result (λ _. told ≡ Ok now) (λ f. told ≡ Err f)
