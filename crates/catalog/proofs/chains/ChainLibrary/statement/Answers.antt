use Rattle.std.proofs.Common.{ap, ◌∙◌}
use Rattle.libraries.specs.Lookups.{hands, tells}
use Rattle.catalog.proofs.Behind.{same_statement}
use Rattle.catalog.proofs.chains.ChainLibrary.statement.Goals as goal

pub returns-in-Some : goal.returns-in-Some
returns-in-Some g c =
    let same = same_statement _ _ _ _ c.args.statement.0 c.in-Some.ensures in
    record {
      answer = c.statement.ensures.answer ∙ ap (λ o. tells o c.args.buffer.now) same;
      buffer = c.statement.ensures.buffer ∙ ap (λ o. hands o c.args.buffer.now) same;
    }

pub returns-in-None : goal.returns-in-None
returns-in-None g c =
    let same = same_statement _ _ _ _ c.args.statement.0 c.in-None.ensures in
    record {
      answer = c.statement-in-None.ensures.answer ∙ ap (λ o. tells o c.args.buffer.now) same;
      buffer = c.statement-in-None.ensures.buffer ∙ ap (λ o. hands o c.args.buffer.now) same;
    }
