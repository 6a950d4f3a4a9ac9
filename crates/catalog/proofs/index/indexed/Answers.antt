use Rattle.std.proofs.Common.{refl, ap, ◌∙◌, length, get_or, arith}
use Rattle.lines.specs.Fields.{operation_of}
use Rattle.lines.specs.Names.{padded}
use Rattle.catalog.proofs.Indexes.{indexed_done, indexed_more, indexed_room, indexed_shorter, next_there}
use Rattle.catalog.proofs.Numbering.{place_short}
use Rattle.catalog.proofs.index.indexed.Goals as goal

pub push-requires : goal.push-requires
push-requires c =
    let e = c.in-Some.ensures in
    let room = indexed_room c.args.text.now c.loop-body.rest.now _ c.in-Some.body.now e.0 e.1 e.2 c.loop-body.entries.items c.loop-body.invariant c.requires in
    (omega arith, room)

pub overflow_cast-statements : goal.overflow_cast-statements
overflow_cast-statements c =
    let e = c.in-Some.ensures in
    let rows = c.loop-body.entries.items in
    let next = next_there c.args.text.now c.loop-body.rest.now _ c.in-Some.body.now e.0 e.1 e.2 rows c.loop-body.invariant in
    let short = place_short c.args.text.now (length rows) _ c.requires next.0 next.1 in
    omega (arith, short, c.statements_in-statements.ensures.value)

pub loop-body-smaller : goal.loop-body-smaller
loop-body-smaller c =
    let e = c.in-Some.ensures in
    indexed_shorter c.args.text.now c.loop-body.rest.now _ c.in-Some.body.now e.0 e.1 e.2 c.statements_in-statements.result.0 _ c.statements_in-statements.ensures.rest

pub loop-body-preserved : goal.loop-body-preserved
loop-body-preserved c =
    let e = c.in-Some.ensures in
    let more = indexed_more c.args.text.now c.loop-body.rest.now _ c.in-Some.body.now e.0 e.1 e.2 c.loop-body.entries.items c.loop-body.invariant _ _ refl c.statements_in-statements.ensures.value
    (c.initial_of.ensures ∙ ap (λ p. get_or (padded (operation_of p)) 0 0) c.first_line.ensures) c.statements_in-statements.ensures.rest in
    rw c.push.ensures.items more

pub invariant_of-result : goal.invariant_of-result
invariant_of-result c =
    let done = indexed_done c.args.text.now c.loop-body.entries.items c.loop-body.rest.now c.requires c.in_default.ensures c.loop-body.invariant in
    record { counted = done.counted; placed = done.placed }
