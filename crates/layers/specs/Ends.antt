-- The END layer: the lines up to and with the first whose operation is END.
use Rattle.std.specs.Prelude.{ℕ, Bool, true, false, List, [], ◌∷◌, codes}
use Rattle.std.proofs.Common.{arith}
use Rattle.std.specs.Str.{bytes_eq}
use Rattle.lines.specs.Fields.{operation_of}
use Rattle.sources.specs.Faults.{Ending, the_end, raised}
use Rattle.sources.specs.Meaning.{Priced, Remains, remaining}
use Rattle.layers.specs.declared.end.EndMachine.{EndMachine}
use Rattle.layers.specs.Rules.{hands, stops, Rule, Falls}

-- the operation of the line is END
abbrev pub is_end : List ℕ → Bool
is_end t = bytes_eq (operation_of t) (codes "END")

-- the lines up to and with the first END, and then End at price 1; without such a line as the source below
abbrev pub end_or : Bool → Priced → Remains → Remains
end_or true p m = remaining (p ∷ []) the_end 1
end_or false p m = remaining (p ∷ m.lines) m.ending m.due

abbrev pub up_to_end : List Priced → Ending → ℕ → Remains
up_to_end [] e d = remaining [] (raised e) d
up_to_end (p ∷ ps) e d = end_or (is_end p.text) p (up_to_end ps e d)

-- what remains in an END layer over a source in which this remains
unfoldable pub end_remains : Remains → Remains
end_remains m = up_to_end m.lines m.ending m.due

-- the rule: it hands out each line; after END it works one step, which tells End
abbrev pub end_rule : Rule Bool
end_rule = record {
  busy = λ seen. seen;
  takes = λ seen t. hands t (is_end t);
  works = λ seen. stops the_end false;
  closes = λ seen e. raised e;
  bound = λ seen. 1;
}

pub end_falls : Falls end_rule
end_falls seen e = omega arith

-- the state: END was seen, and End is to be told
abbrev pub end_state : EndMachine → Bool
end_state m = m.seen
