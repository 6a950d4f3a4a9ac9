use Rattle.std.proofs.Common.{length, ap, ◌∙◌}
use Rattle.sources.proofs.Filling.{filled_blank, length_filled}
use Rattle.sources.proofs.requests.received.Goals as goal

pub invariant_of-result : goal.invariant_of-result
invariant_of-result c =
    let whole = c.requires.whole in
    record { fits = c.requires.line.fits; sized = ap length whole ∙ length_filled _; blank = filled_blank _ _ whole }
