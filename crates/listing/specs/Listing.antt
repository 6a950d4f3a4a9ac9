-- What EXPAND prints.
use Rattle.std.specs.Prelude.{ℕ, cond, List, [], ◌∷◌, ◌++◌, length, Ok, Err, codes, decimal, nat_le}
use Rattle.sources.specs.declared.faults.Fault.{Fault}
use Rattle.sources.specs.Faults.{Ending, cause_number}
use Rattle.sources.specs.Meaning.{Priced, Remains}
use Rattle.sources.specs.Texts.{text_remains}
use Rattle.piles.specs.Prices.{total}
use Rattle.listing.specs.declared.parts.FaultParts.{FaultParts}

-- each line, ended by byte 10
abbrev pub lines_shown : List Priced → List ℕ
lines_shown [] = []
lines_shown (p ∷ ps) = p.text ++ (10 ∷ lines_shown ps)

-- the five numbers that tell a fault
abbrev pub parts_of : Fault → FaultParts
parts_of f = record { number = cause_number f.cause; depth = f.depth; line = f.line; definition = f.definition.0; statement = f.statement.0 }

-- what is told of a site file that is too large
abbrev pub too_large : FaultParts
too_large = record { number = 17; depth = 0; line = 0; definition = 0; statement = 0 }

-- number, depth, line, definition and statement, parted by blanks
abbrev pub parts_text : FaultParts → List ℕ
parts_text p = decimal p.number ++ (codes " " ++ (decimal p.depth ++ (codes " " ++ (decimal p.line ++ (codes " " ++ (decimal p.definition ++ (codes " " ++ decimal p.statement)))))))

-- the five numbers, and byte 10
abbrev pub parts_shown : FaultParts → List ℕ
parts_shown p = parts_text p ++ 10 ∷ []

-- "* FAULT number depth line definition statement"
abbrev pub fault_shown : FaultParts → List ℕ
fault_shown p = codes "* FAULT " ++ parts_shown p

-- "* END lines steps", or the fault
abbrev pub ending_shown : Ending → ℕ → ℕ → List ℕ
ending_shown (Ok u) lines steps = codes "* END " ++ (decimal lines ++ (codes " " ++ (decimal steps ++ (10 ∷ []))))
ending_shown (Err f) lines steps = fault_shown (parts_of f)

-- what is printed of a source: its lines, and its ending with the count of lines and all steps
abbrev pub listed : Remains → List ℕ
listed m = lines_shown m.lines ++ ending_shown m.ending (length m.lines) (total m)

-- what is printed of a site file; one of more than 65,536 bytes gets fault 17 alone
abbrev pub expand_listing : List ℕ → List ℕ
expand_listing site = cond (nat_le (length site) 65536) (listed (text_remains site)) (fault_shown too_large)
