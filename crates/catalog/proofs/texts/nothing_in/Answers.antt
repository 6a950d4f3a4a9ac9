use Rattle.std.proofs.Common.{◌≡◌, ◌<◌, ℕ, List, [], length, ap, sym, ◌∙◌, arith, rules}
use Rattle.libraries.specs.Definitions.{Definition}
use Rattle.libraries.specs.Reads.{refused_none}
use Rattle.catalog.specs.declared.entry.Entry.{Entry}
use Rattle.catalog.proofs.texts.nothing_in.Goals as goal

none_counted : (entries : List Entry) (ds : List Definition) → entries ≡ [] → ds ≡ [] → length entries ≡ length ds
none_counted entries ds e d = ap length e ∙ ap length (sym d)

none_below : (entries : List Entry) (i : ℕ) → entries ≡ [] → i < length entries → ⊥
none_below entries i e h =
    let none = ap length e in
    omega (arith, h, none)

pub invariant_of-result : goal.invariant_of-result
invariant_of-result c = record {
  counted = none_counted _ _ (search rules) (refused_none c.args.text.now c.requires.0 c.requires.1);
  placed = λ i h. absurd (none_below _ i (search rules) h);
}
