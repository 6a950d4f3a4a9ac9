use Rattle.std.proofs.Common.{◌≡◌, [], get_or, drop}
use Rattle.std.specs.Iterator.Adapters.{enumerate_count, enumerate_source, take_count, take_source}
use Rattle.lines.specs.Texts.{lines_of}
use Rattle.libraries.specs.Definitions.{text_definitions}
use Rattle.libraries.specs.Lookups.{found_from, found_in}
use Rattle.catalog.specs.Entries.{nowhere}
use Rattle.catalog.proofs.Finding.{Reading}
use Rattle.catalog.proofs.texts.TextLibraryLibrary.find.Given as goal

abbrev pub invariant-loop-number : goal.invariant-loop-number
invariant-loop-number l =
    let it = l.number-iterator in
    let taken = enumerate_source it in
    record {
      can : (goal.iterator-loop-number).can_next it;
      finite : (goal.iterator-loop-number).is_finite it;
      read : Reading (lines_of (get_or l.entry-items l.at nowhere).lines.now) (get_or (text_definitions l.self.text.now) l.at []) l.name (enumerate_count it) (take_count taken) (lines_of (take_source taken));
    }

abbrev pub invariant-loop-at : goal.invariant-loop-at
invariant-loop-at l = found_from l.at (drop l.at (text_definitions l.self.text.now)) l.name ≡ found_in (text_definitions l.self.text.now) l.name
