use Rattle.std.proofs.Common.{◌<◌, length, refl, ◌∙◌, rules}
use Rattle.std.proofs.lemmas.List.{take_rest}
use Rattle.std.proofs.lemmas.Result.{err_from_is_err_and}
use Rattle.expressions.proofs.Chains.{one_reading}
use Rattle.expressions.proofs.Substituting.{come_known, come_unknown, come_broken}
use Rattle.expressions.proofs.substitution.substitute.Goals as goal
use Rattle.expressions.proofs.substitution.substitute.Goals.{in-Some, in-None}

pub returns-in_err-reading : goal.returns-in_err-reading
returns-in_err-reading g c =
    let p = err_from_is_err_and c.from_residual.result c.from_residual.ensures.1 in
    let more : 0 < length c.loop-rest.rest.now = search rules in
    rw (p.1, p.2) (record { answer = (come_broken _ _ c.loop-rest.rest.now _ _ _ more c.in_err-reading.ensures c.loop-rest.invariant, refl); one = one_reading })

pub loop-rest-preserved : goal.loop-rest-preserved
loop-rest-preserved g c =
    let rest = c.loop-rest.rest.now in
    let cut = take_rest rest c.in_ok-reading.reading.width in
    elim c.match-text_given.branch [
      | in-Some w ↦ come_known _ _ rest _ w.bytes.result.now _ _ _ _ _ c.in_ok-reading.reading c.in_ok-reading.ensures w.in-Some.ensures.0 (w.bytes.ensures.text ∙ w.in-Some.ensures.1) w.append.ensures cut w.held-is w.known-is c.loop-rest.invariant
      | in-None w ↦ come_unknown _ _ rest _ _ _ _ _ c.in_ok-reading.reading c.in_ok-reading.ensures w.in-None.ensures cut w.held-is w.known-is c.loop-rest.invariant
    ]

pub returns-in_err-known-clause-one : goal.returns-in_err-known-clause-one
returns-in_err-known-clause-one g c = one_reading

pub returns-in_default-clause-one : goal.returns-in_default-clause-one
returns-in_default-clause-one g c = one_reading

pub returns-clause-one : goal.returns-clause-one
returns-clause-one g c = one_reading
