use Rattle.std.proofs.Common.{◌≡◌, None, Some, MatchResult, rules}
use Rattle.std.proofs.lemmas.Result.{MatchResult-weaker}
use Rattle.libraries.specs.Checks.{check_of}
use Rattle.libraries.specs.Reads.{passed_is, refused_not}
use Rattle.libraries.proofs.check.check_text.Goals as goal

pub returns-in_err-check_lines-clause-lawful : goal.returns-in_err-check_lines-clause-lawful
returns-in_err-check_lines-clause-lawful c =
    let text = c.args.text.now in
    let first : MatchResult c.from_residual.result (λ _. check_of text ≡ None) (λ f. check_of text ≡ Some f) = search rules in
    MatchResult-weaker _ first (λ _. passed_is text) (refused_not text)

pub returns-clause-lawful : goal.returns-clause-lawful
returns-clause-lawful c =
    let text = c.args.text.now in
    let first : MatchResult c.check_definitions.result (λ _. check_of text ≡ None) (λ f. check_of text ≡ Some f) = search rules in
    MatchResult-weaker _ first (λ _. passed_is text) (refused_not text)
