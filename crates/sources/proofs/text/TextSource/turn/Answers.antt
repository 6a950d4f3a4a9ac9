use Rattle.std.proofs.Common.{◌≡◌, None, refl, arith, rules}
use Rattle.sources.proofs.Reading.{step_none}
use Rattle.sources.proofs.text.TextSource.turn.Goals as goal

pub returns-then-grant-eq0 : goal.returns-then-grant-eq0
returns-then-grant-eq0 c =
    let s = c.args.self.now in
    let none : s.told ≡ None = search rules in
    record { hears = step_none s.told s.taken c.args.grant s.lines none (omega arith); reached = refl }

pub returns : goal.returns
returns c = record { hears = c.take_line.ensures.hears c.args.grant (omega arith); reached = c.take_line.ensures.reached }
