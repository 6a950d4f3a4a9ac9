-- A word as it is read: what it is in a kind of number, how many bytes it takes, and the flaw if its symbol is unknown.
use Rattle.std.specs.Prelude.{◌≡◌, Bool, true, false, length, Some, None, Ok, Err, Option, Result}
use Rattle.expressions.specs.declared.flaws.Flaw.{Flaw}
use Rattle.expressions.specs.declared.flaws.Flaw.TheVariants.{NoForm, UnknownSymbol}
use Rattle.expressions.specs.declared.level.WordRead.{WordRead}
use Rattle.expressions.specs.Kinds.{Operations}
use Rattle.expressions.specs.Pieces.{Table}
use Rattle.expressions.specs.Trees.{Word, word_written, word_known}
use Rattle.expressions.specs.Walks.{token_in}

-- every symbol is known, or the flaw
abbrev pub known_or : Bool → Result (Unit {0}) Flaw
known_or true = Ok tt
known_or false = Err UnknownSymbol

-- what is read of a word, or that there is none
abbrev pub read_in : {V : Type 0} → Operations V → Table → Option Word → Result (WordRead V) Flaw
read_in k σ None = Err NoForm
read_in k σ (Some w) = Ok (record { token = token_in k σ w; width = length (word_written w); known = known_or (word_known σ w) })

-- the code reads a word as it is
abbrev pub ReadWord : {V : Type 0} → Operations V → Table → Option Word → Result (WordRead V) Flaw → Type 0
ReadWord k σ o r = r ≡ read_in k σ o
