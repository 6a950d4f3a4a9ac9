use Rattle.std.proofs.Common.{sym, refl, ◌∙◌, ap₂}
use Rattle.layers.specs.Engine.{layered, laid_meaning, laid_tick}
use Rattle.layers.specs.Running.{laid_paced}
use Rattle.piles.proofs.Same.{each_same}
use Rattle.piles.proofs.alike.ask_both.Goals as goal

pub returns : goal.returns
returns g c =
    let s = g.S.Source in
    let r = g.R.Source in
    let m = g.M.Machine in
    λ means state same.
    each_same (laid_meaning m.rule s.meaning) (laid_tick m.rule s.meaning s.tick) (laid_paced m.rule m.falls s.meaning s.tick s.paced)
    (laid_meaning m.rule r.meaning) (laid_tick m.rule r.meaning r.tick) (laid_paced m.rule m.falls r.meaning r.tick r.paced)
    _ _ 0 0 c.args.requests.now c.make_requests.new.requests c.args.others.now c.make_requests-2.new.requests
    (c.over-pile.ensures.meaning ∙ ap₂ (layered m.rule) state means ∙ sym c.over-copy.ensures.meaning) refl same
    c.make_requests.ensures.each c.make_requests-2.ensures.each
