use Rattle.std.proofs.Common.{◌≡◌, ◌≤◌, length, take, sym, ap, ◌∙◌, arith}
use Rattle.lines.specs.Names.{padded_to}
use Rattle.lines.proofs.Fills.{fills, length_fills, take_fills}
use Rattle.lines.proofs.short.Short.new.Goals as goal

pub invariant_of-result : goal.invariant_of-result
invariant_of-result g c =
    let t = c.args.text.now in
    let n = g.row.N in
    let fits : length t ≤ n = c.if-text.false in
    let whole : c.overwrite.new.bytes ≡ padded_to n t = c.overwrite.ensures ∙ fills n 32 t fits in
    let front : take (length t) c.overwrite.new.bytes ≡ t = ap (take (length t)) whole ∙ take_fills n 32 t fits in
    record { fits = fits; sized = ap length whole ∙ length_fills n 32 t; blank = whole ∙ ap (padded_to n) (sym front) }
