use Rattle.std.proofs.Common.{sym, ap, ◌∙◌}
use Rattle.std.proofs.lemmas.Result.{err_from_is_err_and}
use Rattle.sources.specs.Meaning.{spend}
use Rattle.sources.proofs.Hear.{replies_refused, delivered}
use Rattle.sources.proofs.texts.TextSourceSource.next.Goals as goal

pub returns-in_err-admit-clause-replies : goal.returns-in_err-admit-clause-replies
returns-in_err-admit-clause-replies c =
    let p = err_from_is_err_and c.from_residual.result c.from_residual.ensures.1 in
    rw (p.1, p.2) (replies_refused _ _ _ _ c.in_err-admit.ensures)

pub returns : goal.returns
returns c =
    let t = c.turn.ensures in
    let d = delivered _ _ _ _ _ _ _ c.in_ok-admit.ensures t.hears t.reached c.deliver.ensures.answer c.deliver.ensures.buffer in
    record { replies = d.replies; lawful = d.lawful; reached = t.reached ∙ ap (spend _) (sym d.spent) }
