use Rattle.std.proofs.Common.{codes, ap, ◌∙◌}
use Rattle.std.specs.Str.{bytes_eq}
use Rattle.std.proofs.lemmas.Slice.Eq.{slice_eq-Decides, bytes_eq-Decides}
use Rattle.std.proofs.lemmas.Bool.Decides.{same_from_decides, Decides-eqb}
use Rattle.layers.proofs.ends.is_end.Goals as goal

pub returns : goal.returns
returns c =
    let d = slice_eq-Decides Decides-eqb c.operation.result.now (codes "END") c.eq.result c.eq.ensures in
    same_from_decides c.eq.result (bytes_eq c.operation.result.now (codes "END")) d (bytes_eq-Decides c.operation.result.now (codes "END"))
    ∙ ap (λ x. bytes_eq x (codes "END")) c.operation.ensures
