use Rattle.std.proofs.Common.{sym, ap, ◌∙◌}
use Rattle.std.proofs.lemmas.Result.{err_from_is_err_and}
use Rattle.sources.specs.Meaning.{iterate}
use Rattle.sources.proofs.Hear.{replies_refused, delivered}
use Rattle.sources.proofs.Paying.{paced_spend}
use Rattle.layers.specs.Engine.{keeping, laid_meaning, laid_tick}
use Rattle.layers.specs.Running.{laid_paced}
use Rattle.layers.proofs.layered.LayeredSource.next.Goals as goal

pub returns-in_err-admit-clause-replies : goal.returns-in_err-admit-clause-replies
returns-in_err-admit-clause-replies g c =
    let p = err_from_is_err_and c.from_residual.result c.from_residual.ensures.1 in
    rw (p.1, p.2) (replies_refused _ _ _ _ c.in_err-admit.ensures)

pub returns : goal.returns
returns g c =
    let m = g.M.Machine in
    let s = g.S.Source in
    let h = c.turn.result in
    let from = keeping m.state s.kept c.args.self.now in
    let means = laid_meaning m.rule s.meaning in
    let tick = laid_tick m.rule s.meaning s.tick in
    let t = c.turn.ensures in
    let paid = ap means t.reached ∙ paced_spend means tick (laid_paced m.rule m.falls s.meaning s.tick s.paced) h.spent from in
    let d = delivered _ _ _ _ _ _ _ c.in_ok-admit.ensures t.hears paid c.deliver.ensures.answer c.deliver.ensures.buffer in
    record { replies = d.replies; lawful = d.lawful; reached = t.reached ∙ ap (λ n. iterate tick n from) (sym d.spent) }
