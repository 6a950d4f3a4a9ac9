use Rattle.std.proofs.Common.{sym, ◌∙◌, arith}
use Rattle.catalog.proofs.Walks.{after_more, cut_shorter, runs_last, runs_more}
use Rattle.catalog.proofs.places.statements_in.Goals as goal

pub loop-line-preserved : goal.loop-line-preserved
loop-line-preserved c =
    let e = c.in-Some.ensures in
    let i = c.loop-line.invariant in
    let rest = c.loop-line.rest.now in
    let line = c.in-Some.line.now in
    let behind = c.in-Some.behind.now in
    let more = runs_more rest line behind e.0 e.1 e.2 (sym c.ends_definition.ensures ∙ c.if-ends_definition.false) in
    let less = cut_shorter rest line behind e.0 e.1 e.2 in
    record {
      value = omega (arith, more, i.value);
      bound = omega (arith, less, i.bound);
      rest = after_more c.loop-line.count c.args.text.now rest behind i.rest e.2;
    }

pub returns-then-ends_definition-clause-value : goal.returns-then-ends_definition-clause-value
returns-then-ends_definition-clause-value c =
    let e = c.in-Some.ensures in
    let last = runs_last c.loop-line.rest.now c.in-Some.line.now c.in-Some.behind.now e.0 e.1 e.2 (sym c.ends_definition.ensures ∙ c.if-ends_definition.true) in
    omega (arith, last, c.loop-line.invariant.value)

pub returns-then-ends_definition-clause-rest : goal.returns-then-ends_definition-clause-rest
returns-then-ends_definition-clause-rest c = after_more c.loop-line.count c.args.text.now c.loop-line.rest.now c.in-Some.behind.now c.loop-line.invariant.rest c.in-Some.ensures.2
