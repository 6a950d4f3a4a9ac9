use Rattle.std.proofs.Common.{sym, ap, ◌∙◌, rules}
use Rattle.std.specs.Iterator.{YieldsFirstRef}
use Rattle.std.proofs.lemmas.Iterator.Consumers.{YieldsList-from_first, nth_from_yields_List}
use Rattle.lines.specs.Texts.{lines_of}
use Rattle.catalog.proofs.Numbering.{shown, statement_missing, statement_past, statement_there}
use Rattle.catalog.proofs.text.TextLibrary.line.Goals as goal

pub returns-in_err-entry : goal.returns-in_err-entry
returns-in_err-entry c = rw c.from_residual.ensures (statement_missing c.args.self.now.text.now c.args.definition c.args.statement c.in_err-entry.ensures)

pub returns-then-not-contains : goal.returns-then-not-contains
returns-then-not-contains c =
    statement_past c.args.self.now.text.now c.args.definition c.args.statement c.in_ok-entry.entry c.in_ok-entry.ensures c.from-at.result c.from-at.ensures (search rules)

pub returns : goal.returns
returns c =
    let text = c.args.self.now.text.now in
    let e = c.in_ok-entry.entry in
    let there = statement_there text c.args.definition c.args.statement e c.in_ok-entry.ensures c.from-at.result c.from-at.ensures (search rules) (search rules) in
    shown c.nth.result _ (there ∙ sym (nth_from_yields_List {steps = YieldsFirstRef lines_of} {v = λ t. t.now} c.nth.result c.nth.new.self c.from-at.result c.nth.ensures.ran
    (YieldsList-from_first (λ t. t.now) lines_of _ (ap lines_of c.of.ensures))))
