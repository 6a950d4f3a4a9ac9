use Rattle.std.proofs.Common.{refl}
use Rattle.std.proofs.lemmas.Bool.{le-ltb}
use Rattle.sources.proofs.Filling.{written_by}
use Rattle.catalog.proofs.texts.TextLibraryLibrary.statement.Goals as goal

pub returns-clause-buffer : goal.returns-clause-buffer
returns-clause-buffer c =
    let there = rw c.in_ok-line.ensures.ok_part at c.line.ensures in
    let put = written_by _ _ c.in_ok-line.line.now _ c.if-buffer-lt-WIDTH.false c.write_padded.ensures refl in
    rw (there, le-ltb _ _ c.if-buffer-lt-WIDTH.false) put
