use Rattle.piles.proofs.Promises.{made_more, made_all}
use Rattle.piles.proofs.requests.make_requests.Goals as goal

pub loop-request-preserved : goal.loop-request-preserved
loop-request-preserved g c =
    let s = g.S.Source in
    let i = c.loop-request.invariant in
    made_more s.meaning s.tick s.paced (s.kept c.args.pile.now) (s.kept c.loop-request.pile) (s.kept c.make.new.pile) c.loop-request.request-index c.args.requests.now c.loop-request.requests c.request-item.result c.make.new.request
    c.loop-request-test.true c.loop-request.auto.requests i.0 i.1 i.2 c.make.ensures.served c.make.ensures.reached

pub returns : goal.returns
returns g c =
    let s = g.S.Source in
    let i = c.loop-request.invariant in
    made_all s.meaning s.tick s.paced (s.kept c.args.pile.now) (s.kept c.loop-request.pile) c.loop-request.request-index c.args.requests.now c.loop-request.requests
    c.loop-request-test.false c.loop-request.auto.requests i.0 i.2
