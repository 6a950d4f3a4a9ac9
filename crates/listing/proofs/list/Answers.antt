use Rattle.std.proofs.Common.{vec_items, arith}
use Rattle.sources.proofs.Hear.{heard_ok, reached_ok}
use Rattle.listing.proofs.Progress.{loop_line, loop_wait, loop_falls, some_line, some_wait, more_lines}
use Rattle.listing.proofs.list.Goals as goal

pub overflow_add-lines : goal.overflow_add-lines
overflow_add-lines g c =
    let s = g.S.Source in
    let m = s.meaning (s.kept c.loop-line.source) in
    let h = c.unwrap-spent.result in
    let heard = heard_ok m 1000000 _ h c.unwrap-spent.ensures c.ask.ensures.heard in
    omega (arith, c.requires, more_lines (s.meaning (s.kept c.args.source.now)) m (vec_items c.loop-line.out) c.loop-line.lines c.loop-line.steps h.spent 1000000 h.told c.in-Line.line c.loop-line.invariant heard c.in-Line.is)

pub loop-line-smaller-in-Line : goal.loop-line-smaller-in-Line
loop-line-smaller-in-Line g c =
    let s = g.S.Source in
    let m = s.meaning (s.kept c.loop-line.source) in
    let h = c.unwrap-spent.result in
    let heard = heard_ok m 1000000 _ h c.unwrap-spent.ensures c.ask.ensures.heard in
    let reached = reached_ok s.tick (s.kept c.loop-line.source) _ _ h c.unwrap-spent.ensures c.ask.ensures.reached in
    loop_falls s.meaning s.tick s.paced (s.kept c.loop-line.source) (s.kept c.ask.new.source) 1000000 h.spent h.told heard reached (some_line m 1000000 h.spent h.told c.in-Line.line heard c.in-Line.is)

pub loop-line-preserved-in-Line : goal.loop-line-preserved-in-Line
loop-line-preserved-in-Line g c =
    let s = g.S.Source in
    let m = s.meaning (s.kept c.loop-line.source) in
    let h = c.unwrap-spent.result in
    let heard = heard_ok m 1000000 _ h c.unwrap-spent.ensures c.ask.ensures.heard in
    let reached = reached_ok s.tick (s.kept c.loop-line.source) _ _ h c.unwrap-spent.ensures c.ask.ensures.reached in
    loop_line s.meaning s.tick s.paced (s.meaning (s.kept c.args.source.now)) (s.kept c.loop-line.source) (s.kept c.ask.new.source) (vec_items c.loop-line.out) _ c.loop-line.lines c.loop-line.steps h.spent c.from-steps.result 1000000 h.told c.in-Line.line
    c.loop-line.invariant heard c.in-Line.is reached (rw (c.in_ok-push-in-Line.ensures.items, c.in_ok-extend_from_slice-in-Line.ensures.items, c.text.ensures)) c.from-steps.ensures

pub loop-line-smaller : goal.loop-line-smaller
loop-line-smaller g c =
    let s = g.S.Source in
    let m = s.meaning (s.kept c.loop-line.source) in
    let h = c.unwrap-spent.result in
    let heard = heard_ok m 1000000 _ h c.unwrap-spent.ensures c.ask.ensures.heard in
    let reached = reached_ok s.tick (s.kept c.loop-line.source) _ _ h c.unwrap-spent.ensures c.ask.ensures.reached in
    loop_falls s.meaning s.tick s.paced (s.kept c.loop-line.source) (s.kept c.ask.new.source) 1000000 h.spent h.told heard reached (some_wait m 1000000 h.spent h.told heard c.in-Held.is (omega arith))

pub loop-line-preserved : goal.loop-line-preserved
loop-line-preserved g c =
    let s = g.S.Source in
    let m = s.meaning (s.kept c.loop-line.source) in
    let h = c.unwrap-spent.result in
    let heard = heard_ok m 1000000 _ h c.unwrap-spent.ensures c.ask.ensures.heard in
    let reached = reached_ok s.tick (s.kept c.loop-line.source) _ _ h c.unwrap-spent.ensures c.ask.ensures.reached in
    loop_wait s.meaning s.tick s.paced (s.meaning (s.kept c.args.source.now)) (s.kept c.loop-line.source) (s.kept c.ask.new.source) (vec_items c.loop-line.out) c.loop-line.lines c.loop-line.steps h.spent c.from-steps.result 1000000 h.told
    c.loop-line.invariant heard c.in-Held.is reached c.from-steps.ensures
