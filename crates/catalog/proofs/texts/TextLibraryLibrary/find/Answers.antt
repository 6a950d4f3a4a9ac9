use Rattle.std.proofs.Common.{◌≡◌, get_or, sym, ap, ◌∙◌, arith, inl}
use Rattle.std.specs.Iterator.Adapters.{enumerate_count, enumerate_source, take_count, take_source}
use Rattle.lines.specs.Texts.{lines_of}
use Rattle.libraries.specs.Definitions.{text_definitions}
use Rattle.catalog.specs.Entries.{nowhere}
use Rattle.catalog.proofs.Finding.{find_start, find_skip, find_hit, other_initial, reading_end, reading_more, reading_name, reading_start, read_is, row_of}
use Rattle.catalog.proofs.texts.TextLibraryLibrary.find.Goals as goal
use Rattle.catalog.proofs.texts.TextLibraryLibrary.find.Goals.{else-number-eq-PROTOTYPE-via-then-number-eq-PROTOTYPE+else-eq, else-number-eq-PROTOTYPE-via-else-number-eq-PROTOTYPE}

pub loop-at-init : goal.loop-at-init
loop-at-init c = find_start (text_definitions c.args.self.now.text.now) c.args.name

pub loop-at-preserved-then-entry-name : goal.loop-at-preserved-then-entry-name
loop-at-preserved-then-entry-name c =
    let s = c.args.self.now in
    let at = c.loop-at.at in
    let row = row_of s c.as_slice-entry-items.result.now c.as_slice-entry-items.ensures.value at c.loop-at-test.true in
    find_skip (text_definitions s.text.now) c.args.name at _ row.within (other_initial _ _ c.args.name row.stands c.if-entry-name.true) c.loop-at.invariant

pub loop-number-init : goal.loop-number-init
loop-number-init c =
    let s = c.args.self.now in
    let lines = (get_or c.as_slice-entry-items.result.now c.loop-at.at nowhere).lines.now in
    let it = c.into_iter-number-iterator.result in
    let made = c.into_iter-number-iterator.ensures.into_iter_gives in
    let numbered = c.enumerate-number-items.ensures in
    let taken = c.take.ensures in
    let none : enumerate_count it ≡ 0 = ap enumerate_count made ∙ numbered.count in
    let two : take_count (enumerate_source it) ≡ 2 = ap (λ i. take_count (enumerate_source i)) made ∙ ap take_count numbered.source ∙ taken.count in
    let all : lines_of (take_source (enumerate_source it)) ≡ lines_of lines =
    ap (λ i. lines_of (take_source (enumerate_source i))) made ∙ ap (λ t. lines_of (take_source t)) numbered.source ∙ ap lines_of (taken.source ∙ c.of-lines.ensures) in
    record {
      can = (tt, tt, inl (omega (arith, none, two)));
      finite = tt;
      read = reading_start _ _ c.args.name _ _ _ none two all;
    }

pub loop-number-preserved : goal.loop-number-preserved
loop-number-preserved c =
    let s = c.args.self.now in
    let at = c.loop-at.at in
    let row = row_of s c.as_slice-entry-items.result.now c.as_slice-entry-items.ensures.value at c.loop-at-test.true in
    let i = c.loop-number.invariant in
    let on = c.in-Some.ensures.goes.on i.finite in
    let st = c.in-Some.ensures.steps in
    record {
      can = on.0;
      finite = on.1;
      read = reading_more _ _ c.args.name row.named _ _ _ i.read c.in-Some.line.now _ st.0.0 _ _ st.2 st.0.1 (λ one. elim c.else-number-eq-PROTOTYPE.branch [
        | else-number-eq-PROTOTYPE-via-then-number-eq-PROTOTYPE+else-eq w ↦ read_is c.in-Some.line.now _ _ c.args.name _ w.operation.ensures w.padded_name.ensures w.eq.ensures ∙ w.if-eq.false
        | else-number-eq-PROTOTYPE-via-else-number-eq-PROTOTYPE w ↦ absurd (w.if-number-eq-PROTOTYPE.false (st.1 ∙ one))
      ]);
    }

pub loop-at-preserved : goal.loop-at-preserved
loop-at-preserved c =
    let s = c.args.self.now in
    let at = c.loop-at.at in
    let row = row_of s c.as_slice-entry-items.result.now c.as_slice-entry-items.ensures.value at c.loop-at-test.true in
    let st = c.in-None.ensures.steps in
    find_skip (text_definitions s.text.now) c.args.name at _ row.within (reading_end _ _ c.args.name row.named _ _ _ c.loop-number.invariant.read (λ more. (st.0 more).0)) c.loop-at.invariant

pub returns-then-eq : goal.returns-then-eq
returns-then-eq c =
    let s = c.args.self.now in
    let at = c.loop-at.at in
    let row = row_of s c.as_slice-entry-items.result.now c.as_slice-entry-items.ensures.value at c.loop-at-test.true in
    let st = c.in-Some.ensures.steps in
    let one : enumerate_count c.loop-number.number-iterator ≡ 1 = sym st.1 ∙ c.if-number-eq-PROTOTYPE.true in
    find_hit (text_definitions s.text.now) c.args.name at _ row.within (reading_name _ _ c.args.name row.named _ _ _ c.loop-number.invariant.read c.in-Some.line.now _ st.0.0 one ∙ read_is c.in-Some.line.now _ _ c.args.name _ c.operation.ensures c.padded_name.ensures c.eq.ensures ∙ c.if-eq.true) c.loop-at.invariant
