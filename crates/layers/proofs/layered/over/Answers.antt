use Rattle.std.proofs.Common.{refl}
use Rattle.layers.specs.Engine.{laid_meaning}
use Rattle.layers.proofs.Freshness.{untold_layered}
use Rattle.layers.proofs.layered.over.Goals as goal

pub returns : goal.returns
unfolding laid_meaning
returns g c = record { kept = refl; meaning = refl; untold = λ h. untold_layered g.M.Machine.rule _ _ h }
