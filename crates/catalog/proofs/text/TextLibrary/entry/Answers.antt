use Rattle.std.proofs.Common.{arith}
use Rattle.catalog.proofs.Numbering.{located}
use Rattle.catalog.proofs.text.TextLibrary.entry.Goals as goal

pub returns : goal.returns
returns c =
    rw c.copied.ensures
    (located c.args.self.now c.args.number c.in_ok-at.at c.get.result (omega (arith, c.in_ok-at.ensures, c.from.ensures)) (rw c.as_slice.ensures.value at c.get.ensures.lookup.3))
