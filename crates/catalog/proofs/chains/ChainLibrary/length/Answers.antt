use Rattle.std.proofs.Common.{◌∙◌}
use Rattle.catalog.proofs.Behind.{same_length}
use Rattle.catalog.proofs.chains.ChainLibrary.length.Goals as goal

pub returns-in-Some : goal.returns-in-Some
returns-in-Some g c = c.length.ensures ∙ same_length _ _ _ _ c.in-Some.ensures

pub returns-in-None : goal.returns-in-None
returns-in-None g c = c.length-in-None.ensures ∙ same_length _ _ _ _ c.in-None.ensures
