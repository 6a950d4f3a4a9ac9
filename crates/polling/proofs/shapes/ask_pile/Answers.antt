use Rattle.polling.proofs.Answers.{answered}
use Rattle.polling.proofs.shapes.ask_pile.Goals as goal

pub returns : goal.returns
returns g c =
    let s = g.S.Source in
    answered s.meaning s.tick s.paced (s.kept c.args.pile) 0 c.args.requests.now c.make_requests.new.requests c.make_requests.ensures.each
