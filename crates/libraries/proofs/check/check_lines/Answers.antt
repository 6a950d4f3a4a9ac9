use Rattle.std.proofs.Common.{Some, true, false, refl, sym, ap, ◌∙◌}
use Rattle.lines.specs.Texts.{lines_of}
use Rattle.libraries.specs.Checks.{ended}
use Rattle.libraries.proofs.Endings.{bad_then, bad_text, bad_more, bad_found, bad_end}
use Rattle.libraries.proofs.check.check_lines.Goals as goal

pub loop-line-init : goal.loop-line-init
loop-line-init c =
    let text = c.args.text.now in
    ap (λ t. bad_then 0 (ended text) (lines_of t)) (c.into_iter-line-iterator.ensures.into_iter_gives ∙ c.of-line-items.ensures) ∙ bad_text text

pub returns-then-not-line_fits : goal.returns-then-not-line_fits
returns-then-not-line_fits c =
    let found = bad_found _ _ _ c.loop-line.taken c.in-Some.ensures.steps (ended c.args.text.now) _ (sym c.if-not-line_fits.ensures) c.loop-line.invariant in
    rw c.fault.ensures (refl, found ∙ ap Some (sym c.count_line-taken.ensures))

pub loop-line-preserved : goal.loop-line-preserved
loop-line-preserved c =
    let e = ended c.args.text.now in
    ap (λ i. bad_then i e (lines_of c.next.new.self)) c.count_line-taken.ensures
    ∙ bad_more _ _ _ c.loop-line.taken c.in-Some.ensures.steps e _ (sym c.if-not-line_fits.ensures) c.loop-line.invariant

pub returns-then-not-is_ended : goal.returns-then-not-is_ended
returns-then-not-is_ended c =
    rw c.fault-then-not-is_ended.ensures (refl, bad_end _ c.loop-line.taken _ false _ c.in-None.ensures.steps.0 (sym c.if-not-is_ended.ensures) c.loop-line.invariant)

pub returns : goal.returns
returns c = bad_end _ c.loop-line.taken _ true _ c.in-None.ensures.steps.0 (sym c.if-not-is_ended.ensures) c.loop-line.invariant
