use Rattle.std.proofs.Common.{rules}
use Rattle.sources.proofs.Reading.{step_end, step_line, step_fault}
use Rattle.sources.proofs.text.TextSource.take_line.Goals as goal

pub returns-in_default : goal.returns-in_default
returns-in_default c =
    let s = c.args.self.now in
    let st = step_end s.told s.taken s.lines c.requires (search rules) in
    record { hears = st.hears; reached = st.reached }

pub returns-in-Ok : goal.returns-in-Ok
returns-in-Ok c =
    let s = c.args.self.now in
    let read = c.in-Ok.ensures in
    let st = step_line s.told s.taken _ s.lines _ _ c.in-Ok.line c.requires c.in-Some.ensures.steps read.0 read.1 c.count_line-taken.ensures in
    record { hears = st.hears; reached = st.reached }

pub returns-in-Err : goal.returns-in-Err
returns-in-Err c =
    let s = c.args.self.now in
    let st = step_fault s.told s.taken _ s.lines _ _ c.in-Err.cause _ c.requires c.in-Some.ensures.steps c.in-Err.ensures c.count_line-taken.ensures c.found_in.ensures in
    record { hears = st.hears; reached = st.reached }
