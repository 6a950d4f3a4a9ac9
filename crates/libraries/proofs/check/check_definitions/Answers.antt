use Rattle.std.proofs.Common.{sym, ap, ◌∙◌}
use Rattle.std.proofs.lemmas.Result.{err_from_is_err_and}
use Rattle.lines.specs.Texts.{lines_of}
use Rattle.libraries.specs.Checks.{read_from, read_in}
use Rattle.libraries.proofs.Endings.{read_more, read_found}
use Rattle.libraries.proofs.check.check_definitions.Goals as goal

pub returns-in_err-read : goal.returns-in_err-read
returns-in_err-read c =
    let line = c.in-Some.line.now in
    let r = c.loop-line.reader in
    let p = err_from_is_err_and c.from_residual.result c.from_residual.ensures.1 in
    let poor = ap (λ i. read_in r.phase r i line) (sym c.count_line-taken.ensures) ∙ c.in_err-read.ensures in
    rw (p.1, p.2) (read_found _ _ line c.loop-line.taken c.in-Some.ensures.steps r c.in_err-read.field-0.0 _ poor c.loop-line.invariant)

pub loop-line-preserved : goal.loop-line-preserved
loop-line-preserved c =
    let line = c.in-Some.line.now in
    let r = c.loop-line.reader in
    let r' = c.read.new.self in
    let fine = ap (λ i. read_in r.phase r i line) (sym c.count_line-taken.ensures) ∙ c.in_ok-read.ensures in
    ap (λ i. read_from i (lines_of c.next.new.self) r') c.count_line-taken.ensures
    ∙ read_more _ _ line c.loop-line.taken c.in-Some.ensures.steps r r' _ fine c.loop-line.invariant
