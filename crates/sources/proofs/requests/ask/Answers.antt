use Rattle.std.proofs.Common.{of_calls, ◌≡◌, ℕ, length, replicate, arith}
use Rattle.std.proofs.lemmas.Result.{err_from_is_err_and}
use Rattle.std.proofs.lemmas.List.{length-replicate}
use Rattle.sources.proofs.Hear.{heard_from, received_whole, refusal_says}
use Rattle.sources.proofs.requests.ask.Goals as goal

-- the layer's own buffer
own : length (replicate {A = ℕ} 80 32) ≡ 80
own = length-replicate {A = ℕ} 80 32

pub returns-in_err-answer-clause-heard : goal.returns-in_err-answer-clause-heard
returns-in_err-answer-clause-heard g c =
    let p = err_from_is_err_and c.from_residual.result c.from_residual.ensures.1 in
    rw (p.1, p.2) (refusal_says _ _ _ _ (omega (arith, own)) c.in_err-answer.ensures.replies.answer)

pub returns-clause-heard : goal.returns-clause-heard
returns-clause-heard g c =
    let e = c.in_ok-answer.ensures in
    heard_from _ _ _ _ _ _ _ _ own e.replies e.lawful (λ k l p. search of_calls) c.map.ensures

pub map-requires : goal.map-requires
map-requires g c =
    let e = c.in_ok-answer.ensures in
    received_whole _ _ _ _ _ _ _ own e.replies e.lawful (λ n l w. search of_calls)
