use Rattle.std.proofs.Common.{◌≡◌, ◌<◌, [], length, None, refl, ap, arith}
use Rattle.std.proofs.lemmas.Bool.Decides.{nat_tests}
use Rattle.std.proofs.lemmas.List.{take_rest}
use Rattle.std.proofs.lemmas.Result.{err_from_is_err_and}
use Rattle.expressions.specs.Walks.{stage_of}
use Rattle.expressions.proofs.Working.{gone_start, gone_more, no_word, no_place, no_end, gone_whole, gone_told, gone_unknown}
use Rattle.expressions.proofs.arithmetic.work_out.Goals as goal

pub loop-rest-init : goal.loop-rest-init
loop-rest-init g c = gone_start (ap (λ l. stage_of l None []) c.fresh_level.ensures, refl)

pub returns-in_err-word-clause-answer : goal.returns-in_err-word-clause-answer
returns-in_err-word-clause-answer g c =
    let p = err_from_is_err_and c.from_residual.result c.from_residual.ensures.1 in
    let more : 0 < length c.loop-rest.rest.now = grind (arith, nat_tests) in
    rw (p.1, p.2) (no_word more c.in_err-word.ensures c.loop-rest.invariant)

pub returns-in_err-take-clause-answer : goal.returns-in_err-take-clause-answer
returns-in_err-take-clause-answer g c =
    let p = err_from_is_err_and c.from_residual-in_err-take.result c.from_residual-in_err-take.ensures.1 in
    rw (p.1, p.2) (no_place c.take.new.self c.in_ok-word.word c.in_ok-word.ensures c.in_err-take.ensures c.loop-rest.invariant)

pub loop-rest-preserved : goal.loop-rest-preserved
loop-rest-preserved g c =
    gone_more c.in_ok-word.word (take_rest c.loop-rest.rest.now c.in_ok-word.word.width) c.and-known.ensures c.in_ok-word.ensures c.in_ok-take.ensures c.loop-rest.invariant

pub returns-in_err-value-clause-answer : goal.returns-in_err-value-clause-answer
returns-in_err-value-clause-answer g c =
    let p = err_from_is_err_and c.from_residual-in_err-value.result c.from_residual-in_err-value.ensures.1 in
    let past : length c.loop-rest.rest.now ≡ 0 = grind (arith, nat_tests) in
    rw (p.1, p.2) (no_end past c.in_err-value.ensures c.loop-rest.invariant)

pub returns-in_err-known-clause-answer : goal.returns-in_err-known-clause-answer
returns-in_err-known-clause-answer g c =
    let p = err_from_is_err_and c.from_residual-in_err-known.result c.from_residual-in_err-known.ensures.1 in
    let past : length c.loop-rest.rest.now ≡ 0 = grind (arith, nat_tests) in
    rw (p.1, p.2) (gone_unknown c.in_err-known.was (gone_whole past c.in_ok-value.ensures c.loop-rest.invariant))

pub returns-clause-answer : goal.returns-clause-answer
returns-clause-answer g c =
    let past : length c.loop-rest.rest.now ≡ 0 = grind (arith, nat_tests) in
    gone_told c.in_ok-known.was (gone_whole past c.in_ok-value.ensures c.loop-rest.invariant)
