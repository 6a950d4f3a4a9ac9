use Rattle.std.proofs.Common.{◌≡◌, ℕ, ◌-◌, List, length, take, drop, sym, refl, ap, ◌∙◌, subst, ap₂}
use Rattle.std.proofs.lemmas.List.{take_rest}
use Rattle.lines.specs.declared.field.Part.{Part}
use Rattle.lines.specs.Fields.{At, word, past_word, past_blanks, from_operand, operand_of, remark_of}
use Rattle.lines.specs.Nesting.{operand_end}
use Rattle.lines.proofs.Joins.{joined}
use Rattle.lines.proofs.fields.fields_of.Goals as goal

at_same : (l r r' t t' : List ℕ) (p : Part) → r ≡ r' → t ≡ t' → At l r t p → At l r' t' p
at_same l r r' t t' p e f a =
    let P : List ℕ → Type 0 = λ x. At l x t p in
    let Q : List ℕ → Type 0 = λ x. At l r' x p in
    subst Q f (subst P e a)

pub returns-then-is_comment : goal.returns-then-is_comment
returns-then-is_comment c = record { value = sym c.if-is_comment.ensures; joined = joined c.args.line.now }

pub returns : goal.returns
returns c =
    let line = c.args.line.now in
    let a = c.past_word-from_operation.result.now in
    let b = c.past_word-from_operand.result.now in
    let n = c.outside_end-end.result in
    let ea : a ≡ past_word line = c.past_word-from_operation.ensures in
    let eb : b ≡ from_operand line = c.past_word-from_operand.ensures ∙ ap past_word ea in
    let en : n ≡ operand_end (from_operand line) = c.outside_end-end.ensures.value ∙ ap operand_end eb in
    let operand : take n b ≡ operand_of line = ap₂ take en eb in
    let after : take (length b - n) (drop n b) ≡ drop (operand_end (from_operand line)) (from_operand line) = take_rest b n ∙ ap₂ drop en eb in
    let er : c.past_blanks-remark.result.now ≡ remark_of line = c.past_blanks-remark.ensures ∙ ap past_blanks after in
    record {
      joined = joined line;
      value = (
        sym c.if-is_comment.ensures,
        record {
          name = at_same line line line c.first_word.result.now (word line) c.part.result refl c.first_word.ensures c.part.ensures;
          operation = at_same line a (past_word line) c.first_word-2.result.now (word (past_word line)) c.part-2.result ea (c.first_word-2.ensures ∙ ap word ea) c.part-2.ensures;
          operand = at_same line b (from_operand line) (take n b) (operand_of line) c.part-3.result eb operand c.part-3.ensures;
          remark = at_same line c.past_blanks-remark.result.now (remark_of line) c.past_blanks-remark.result.now (remark_of line) c.part-4.result er er c.part-4.ensures;
        },
      );
    }
