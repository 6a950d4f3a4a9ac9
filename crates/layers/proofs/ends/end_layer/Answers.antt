use Rattle.std.proofs.Common.{◌∙◌}
use Rattle.layers.proofs.Ending.{end_layered}
use Rattle.layers.proofs.ends.end_layer.Goals as goal

pub returns : goal.returns
returns g c =
    let below = g.S.Source.meaning (g.S.Source.kept c.args.below) in
    record { meaning = c.over.ensures.meaning ∙ end_layered below; untold = c.over.ensures.untold }
