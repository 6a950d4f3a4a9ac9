use Rattle.std.proofs.Common.{◌≡◌, ◌+◌, ◌≤◌, length}
use Rattle.lines.specs.Texts.{lines_of}
use Rattle.catalog.specs.Entries.{after, runs}
use Rattle.catalog.proofs.places.statements_in.Given as goal

abbrev pub invariant-loop-line : goal.invariant-loop-line
invariant-loop-line l = record {
  value : l.count + runs (lines_of l.rest) ≡ runs (lines_of l.text);
  bound : l.count + length l.rest ≤ length l.text;
  rest : l.rest ≡ after l.count l.text;
}

abbrev pub decreases-loop-line : goal.decreases-loop-line
decreases-loop-line l = length l.rest
