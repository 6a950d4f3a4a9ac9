use Rattle.std.proofs.Common.{◌++◌, drop, length-take-le, sym, ap, ◌∙◌}
use Rattle.std.proofs.lemmas.Bool.{le-ltb}
use Rattle.sources.proofs.Filling.{blank_filled}
use Rattle.sources.proofs.line.Line.put.Goals as goal

pub copy_from_slice-requires : goal.copy_from_slice-requires
copy_from_slice-requires c = length-take-le _ _ c.if-buffer-lt-WIDTH.false ∙ sym c.args.self.now.bytes.sized

pub returns-clause-buffer : goal.returns-clause-buffer
returns-clause-buffer c =
    let whole = c.copy_from_slice.ensures.after ∙ blank_filled _ _ c.args.self.now.bytes.blank in
    rw (le-ltb _ _ c.if-buffer-lt-WIDTH.false) (ap (λ b. b ++ drop 80 c.args.buffer.now) whole)
