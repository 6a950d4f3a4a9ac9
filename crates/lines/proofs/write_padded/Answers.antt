use Rattle.std.proofs.Common.{length, take, ap, ◌∙◌, ap₂}
use Rattle.lines.specs.Characters.{overwritten}
use Rattle.lines.proofs.Fills.{fills_front}
use Rattle.lines.proofs.write_padded.Goals as goal

pub returns : goal.returns
returns c =
    let t = c.args.text.now in
    c.overwrite.ensures
    ∙ ap₂ overwritten (c.fill.ensures.after (λ y e. e)) (c.front.ensures ∙ ap (λ n. take n t) c.fill.ensures.len)
    ∙ fills_front (length c.args.bytes.now) 32 t
