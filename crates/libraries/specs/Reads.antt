-- The check against the library that a text is: it finds no fault exactly in the lawful library texts.
use Rattle.std.specs.Prelude.{◌≡◌, ℕ, suc, ◌+◌, ◌<◌, ◌≤◌, Bool, true, false, cond, not, ◌&&◌, List, [], ◌∷◌, ◌++◌, length, Some, None, Ok, Err, Option, Result, ◌==◌, nat_le, nat_lt, refl}
use Rattle.std.specs.List.{list_all}
use Rattle.std.proofs.Common.{sym, ap, ap₂, subst, ◌∙◌, arith, leb-true, le-leb, ltb-true, lt-ltb, eqb-true}
use Rattle.std.proofs.lemmas.List.Folds.{list_all-append}
use Rattle.std.specs.Cmp.{first_so, second_so}
use Rattle.std.specs.Cmp.Derive.{both_true}
use Rattle.std.proofs.lemmas.Bool.{not-true}
use Rattle.std.proofs.lemmas.List.{length_push}
use Rattle.lines.specs.Characters.{character, characters}
use Rattle.lines.specs.Division.{parts_of}
use Rattle.lines.specs.Fields.{comment, operand_of, operation_of, word}
use Rattle.lines.specs.Kinds.{kind_of}
use Rattle.lines.specs.Names.{padded}
use Rattle.lines.specs.Statements.{remark}
use Rattle.lines.specs.declared.kinds.Kind.{Kind}
use Rattle.lines.specs.declared.kinds.Kind.TheVariants.{Declaration, Assignment, Branch, Jump, Label, Exit, Mend, Note, Opening, Closing, Model}
use Rattle.sources.specs.Faults.{counted}
use Rattle.lines.specs.Texts.{lines_of, onto}
use Rattle.libraries.specs.declared.flaws.LibraryCause.TheVariants.{NoMacro, BadPrototype, SameName, Nested, NoMend}
use Rattle.libraries.specs.declared.flaws.LibraryFault.{LibraryFault}
use Rattle.libraries.specs.declared.flaws.Phase.{Phase}
use Rattle.libraries.specs.declared.flaws.Phase.TheVariants.{Between, Opened, Inside}
use Rattle.libraries.specs.Checks.{bad_from, body_kind, check_of, closing, ended, ends, finish, flaw, is_opening, line_fits, noted, or_read, past_last, read_body, read_from, read_in, read_on, read_opening, read_prototype, Reading, reading, stops}
use Rattle.libraries.specs.Definitions.{before, Block, closes, Definition, grouped, is_nil, Lawful, lawful_block, LawfulBlocks, lawful_definition, LibraryText, lines_in, mended, name_of, new_names, or_none, statements_of, text_definitions, unlines, written}
use Rattle.libraries.specs.Prototypes.{all_fit, is_macro_name, is_model, lawful_prototype, name_fits, name_seen}
use Rattle.libraries.specs.Tables.{among}
use Rattle.libraries.specs.Words.{is_word}

nil_is : {A : Type 0} (xs : List A) → is_nil xs ≡ true → xs ≡ []
nil_is [] e = refl
nil_is (x ∷ xs) e = cc

-- what the lines from here on are, when no fault is found in them: whole blocks, outside of a definition
pub record Outside (names ls : List (List ℕ)) : Type 0 where
  pub blocks : List Block
  pub lines : ls ≡ lines_in blocks
  pub each : list_all lawful_block blocks ≡ true
  pub new : new_names names (statements_of blocks) ≡ true
  pub few : length names + length blocks ≤ 255

-- after MACRO: a lawful definition with a new name, and then blocks
pub record Begun (names ls : List (List ℕ)) : Type 0 where
  pub statements : Definition
  pub rest : List (List ℕ)
  pub outside : Outside (names ++ name_of statements ∷ []) rest
  pub cut : ls ≡ statements ++ rest
  pub lawful : lawful_definition statements ≡ true
  pub new : among (name_of statements) names ≡ false

-- inside of a definition of which k statements are read: the others, and then blocks
pub record Within (names : List (List ℕ)) (k : ℕ) (past : Option ℕ) (ls : List (List ℕ)) : Type 0 where
  pub body : List (List ℕ)
  pub rest : List (List ℕ)
  pub outside : Outside names rest
  pub cut : ls ≡ body ++ rest
  pub mend : mended body ≡ true
  pub fit : list_all line_fits body ≡ true
  pub short : k + length body ≤ 255
  pub known : past ≡ None

abbrev Holds : Phase → Reading → List (List ℕ) → Type 0
Holds Between r ls = length r.names ≤ 255 → Outside r.names ls
Holds (Opened m) r ls = length r.names ≤ 255 → Begun r.names ls
Holds (Inside k past) r ls = length r.names ≤ 255 → k ≤ 254 → Within r.names k past ls

holds_as : (r s : Reading) (ls : List (List ℕ)) → r ≡ s → Holds s.phase s ls → Holds r.phase r ls
holds_as r s ls e h = let P : Reading → Type 0 = λ x. Holds x.phase x ls in subst P (sym e) h

module _ (r s : Reading) (n : ℕ) (t : List ℕ) (ts : List (List ℕ)) (fits : line_fits t ≡ true) (more : Holds s.phase s ts) where
  opening_step : read_opening r n t ≡ Ok s → length r.names ≤ 255 → Outside r.names (t ∷ ts)
  opening_step e small = go (is_opening t) refl e
    where
      go : (z : Bool) → is_opening t ≡ z → cond z (Ok (reading (Opened n) r.names)) (Err (flaw NoMacro n)) ≡ Ok s → Outside r.names (t ∷ ts)
      go false o x = cc
      go true o x =
          let b = holds_as (reading (Opened n) r.names) s ts (cc) more small in
          let block : Block = record { opening = t; statements = b.statements } in
          let l = b.outside.few in
          let m = length_push r.names (name_of b.statements) in
          record {
            blocks = block ∷ b.outside.blocks;
            lines = ap (λ u. t ∷ u) (b.cut ∙ ap (λ u. b.statements ++ u) b.outside.lines);
            each = both_true (both_true o (both_true fits b.lawful)) b.outside.each;
            new = both_true (ap not b.new) b.outside.new;
            few = omega (arith, l, m);
          }

  prototype_step : (m : ℕ) → read_prototype r m n t ≡ Ok s → length r.names ≤ 255 → Begun r.names (t ∷ ts)
  prototype_step m e small = go (lawful_prototype t) refl e
    where
      room : (z : Bool) → cond z None (Some m) ≡ None → cond z (r.names ++ padded (operation_of t) ∷ []) r.names ≡ r.names ++ padded (operation_of t) ∷ []
      room true k = refl
      room false k = cc

      few : (z : Bool) → nat_lt (length r.names) 255 ≡ z → length (cond z (r.names ++ padded (operation_of t) ∷ []) r.names) ≤ 255
      few true l =
          let less = ltb-true (length r.names) 255 l in
          let m = length_push r.names (padded (operation_of t)) in
          omega (arith, less, m)
      few false l = small

      begun : lawful_prototype t ≡ true → among (padded (operation_of t)) r.names ≡ false
          → Within (noted r.names t) 1 (past_last r.names m) ts → Begun r.names (t ∷ ts)
      begun p a w =
          let P : List (List ℕ) → Type 0 = λ x. Outside x w.rest in
          let short = w.short in
          record {
            statements = t ∷ w.body;
            rest = w.rest;
            outside = subst P (room (nat_lt (length r.names) 255) w.known) w.outside;
            cut = ap (λ u. t ∷ u) w.cut;
            lawful = both_true p (both_true w.mend (both_true (le-leb (length w.body) 254 (omega (arith, short))) (both_true fits w.fit)));
            new = a;
          }

      fresh : (y : Bool) → among (padded (operation_of t)) r.names ≡ y → lawful_prototype t ≡ true
          → cond y (Err (flaw SameName n)) (Ok (reading (Inside 1 (past_last r.names m)) (noted r.names t))) ≡ Ok s
          → Begun r.names (t ∷ ts)
      fresh true a p x = cc
      fresh false a p x = begun p a (holds_as (reading (Inside 1 (past_last r.names m)) (noted r.names t)) s ts (cc) more (few (nat_lt (length r.names) 255) refl) (omega arith))

      go : (z : Bool) → lawful_prototype t ≡ z
          → cond z (cond (among (padded (operation_of t)) r.names) (Err (flaw SameName n)) (Ok (reading (Inside 1 (past_last r.names m)) (noted r.names t)))) (Err (flaw BadPrototype n)) ≡ Ok s
          → Begun r.names (t ∷ ts)
      go false p x = cc
      go true p x = fresh (among (padded (operation_of t)) r.names) refl p x

  body_step : (k : ℕ) (past : Option ℕ) → read_body r k past n t ≡ Ok s → length r.names ≤ 255 → k ≤ 254 → Within r.names k past (t ∷ ts)
  body_step k past e small few = go (stops (body_kind t)) (ends (body_kind t)) (nat_lt k 254) refl refl refl e
    where
      mend_here : (y : Option ℕ) → past ≡ y → ends (body_kind t) ≡ true → closing r y ≡ Ok s → Within r.names k past (t ∷ ts)
      mend_here (Some o) y' m x = cc
      mend_here None y' m x =
          let out = holds_as (reading Between r.names) s ts (cc) more small in
          record {
            body = t ∷ [];
            rest = ts;
            outside = out;
            cut = refl;
            mend = ap (λ z. cond z true (not (stops (body_kind t)) && false)) m;
            fit = both_true fits refl;
            short = omega (arith, few);
            known = y';
          }

      inner : stops (body_kind t) ≡ false → ends (body_kind t) ≡ false → nat_lt k 254 ≡ true → Within r.names (k + 1) past ts → Within r.names k past (t ∷ ts)
      inner p m l w =
          let short = w.short in
          record {
            body = t ∷ w.body;
            rest = w.rest;
            outside = w.outside;
            cut = ap (λ u. t ∷ u) w.cut;
            mend = ap₂ (λ z y. cond z (is_nil w.body) (not y && mended w.body)) m p ∙ w.mend;
            fit = both_true fits w.fit;
            short = omega (arith, short);
            known = w.known;
          }

      go : (p m l : Bool) → stops (body_kind t) ≡ p → ends (body_kind t) ≡ m → nat_lt k 254 ≡ l
          → cond p (Err (flaw Nested n)) (cond m (closing r past) (cond l (Ok (reading (Inside (k + 1) past) r.names)) (Err (flaw NoMend n)))) ≡ Ok s
          → Within r.names k past (t ∷ ts)
      go true m l p' m' l' x = cc
      go false true l p' m' l' x = mend_here past refl m' x
      go false false false p' m' l' x = cc
      go false false true p' m' l' x =
          let less = ltb-true k 254 l' in
          inner p' m' l' (holds_as (reading (Inside (k + 1) past) r.names) s ts (cc) more small (omega (arith, less)))

  step : (p : Phase) → read_in p r n t ≡ Ok s → Holds p r (t ∷ ts)
  step Between e = opening_step e
  step (Opened m) e = prototype_step m e
  step (Inside k past) e = body_step k past e

unread : (p : Phase) (n : ℕ) (r : Reading) → finish p n ≡ None → Holds p r []
unread Between n r e = none
  where
    none : length r.names ≤ 255 → Outside r.names []
    none small = record { blocks = []; lines = refl; each = refl; new = refl; few = omega (arith, small) }
unread (Opened m) n r e = cc
unread (Inside k past) n r e = cc

-- lines in which no fault is found
sound : (ls : List (List ℕ)) (n : ℕ) (r : Reading) → list_all line_fits ls ≡ true → read_from n ls r ≡ None → Holds r.phase r ls
sound [] n r f e = unread r.phase n r e
sound (t ∷ ts) n r f e = go (read_in r.phase r (counted n) t) refl (sound ts (counted n)) e
  where
    go : (x : Result Reading LibraryFault) → read_in r.phase r (counted n) t ≡ x
        → ((s : Reading) → list_all line_fits ts ≡ true → read_from (counted n) ts s ≡ None → Holds s.phase s ts)
        → read_on x (read_from (counted n) ts) ≡ None → Holds r.phase r (t ∷ ts)
    go (Err g) x ih h = cc
    go (Ok s) x ih h = step r s (counted n) t ts (first_so (line_fits t) (list_all line_fits ts) f) (ih s (second_so (line_fits t) (list_all line_fits ts) f) h) r.phase x

mend_goes_on : (k : Kind) → ends k ≡ true → stops k ≡ false
mend_goes_on Declaration e = refl
mend_goes_on Assignment e = refl
mend_goes_on Branch e = refl
mend_goes_on Jump e = refl
mend_goes_on Label e = refl
mend_goes_on Exit e = refl
mend_goes_on Mend e = refl
mend_goes_on Note e = refl
mend_goes_on Opening e = sym e
mend_goes_on Closing e = sym e
mend_goes_on Model e = refl

mended_some : (ts : List (List ℕ)) → mended ts ≡ true → 0 < length ts
mended_some [] e = cc
mended_some (t ∷ ts) e = omega arith

-- the rest of a lawful definition is read without a fault
body_reads : (names rest : List (List ℕ)) → ((n : ℕ) → read_from n rest (reading Between names) ≡ None)
    → (body : List (List ℕ)) (k n : ℕ) → mended body ≡ true → k + length body ≤ 255 → read_from n (body ++ rest) (reading (Inside k None) names) ≡ None
body_reads names rest more [] k n m short = cc
body_reads names rest more (t ∷ ts) k n m short = go (ends (body_kind t)) refl m (body_reads names rest more ts (k + 1) (counted n))
  where
    R : Reading
    R = reading (Inside k None) names

    last : ends (body_kind t) ≡ true → ts ≡ [] → read_on (read_body R k None (counted n) t) (read_from (counted n) (ts ++ rest)) ≡ None
    last e nil =
        let s = mend_goes_on (body_kind t) e in
        ap (λ us. read_on (read_body R k None (counted n) t) (read_from (counted n) (us ++ rest))) nil
        ∙ ap₂ (λ x y. read_on (cond x (Err (flaw Nested (counted n))) (cond y (closing R None) (cond (nat_lt k 254) (Ok (reading (Inside (k + 1) None) names)) (Err (flaw NoMend (counted n)))))) (read_from (counted n) rest)) s e
        ∙ more (counted n)

    inner : ends (body_kind t) ≡ false → stops (body_kind t) ≡ false → nat_lt k 254 ≡ true
        → read_from (counted n) (ts ++ rest) (reading (Inside (k + 1) None) names) ≡ None
        → read_on (read_body R k None (counted n) t) (read_from (counted n) (ts ++ rest)) ≡ None
    inner e s l h =
        ap₂ (λ x y. read_on (cond x (Err (flaw Nested (counted n))) (cond y (closing R None) (cond (nat_lt k 254) (Ok (reading (Inside (k + 1) None) names)) (Err (flaw NoMend (counted n)))))) (read_from (counted n) (ts ++ rest))) s e
        ∙ ap (λ z. read_on (cond z (Ok (reading (Inside (k + 1) None) names)) (Err (flaw NoMend (counted n)))) (read_from (counted n) (ts ++ rest))) l
        ∙ h

    go : (z : Bool) → ends (body_kind t) ≡ z → cond z (is_nil ts) (not (stops (body_kind t)) && mended ts) ≡ true
        → (mended ts ≡ true → (k + 1) + length ts ≤ 255 → read_from (counted n) (ts ++ rest) (reading (Inside (k + 1) None) names) ≡ None)
        → read_on (read_body R k None (counted n) t) (read_from (counted n) (ts ++ rest)) ≡ None
    go true e m ih = last e (nil_is ts m)
    go false e m ih =
        let on = second_so (not (stops (body_kind t))) (mended ts) m in
        let some = mended_some ts on in
        inner e (not-true (stops (body_kind t)) (first_so (not (stops (body_kind t))) (mended ts) m)) (lt-ltb k 254 (omega (arith, some, short))) (ih on (omega (arith, short)))

module _ (b : Block) (lawful : lawful_block b ≡ true) where
  block_opens : is_opening b.opening ≡ true
  block_opens = first_so (is_opening b.opening) _ lawful

  block_fits : line_fits b.opening ≡ true
  block_fits = first_so (line_fits b.opening) _ (second_so (is_opening b.opening) _ lawful)

  block_lawful : lawful_definition b.statements ≡ true
  block_lawful = second_so (line_fits b.opening) _ (second_so (is_opening b.opening) _ lawful)

-- a lawful definition with a new name is read without a fault
definition_reads : (names rest d : List (List ℕ)) (o n : ℕ) → lawful_definition d ≡ true → among (name_of d) names ≡ false → length names < 255
    → ((n : ℕ) → read_from n rest (reading Between (names ++ name_of d ∷ [])) ≡ None)
    → read_from n (d ++ rest) (reading (Opened o) names) ≡ None
definition_reads names rest [] o n l a few more = cc
definition_reads names rest (p ∷ body) o n l a few more =
    let lp = first_so (lawful_prototype p) _ l in
    let rest_of = second_so (lawful_prototype p) _ l in
    let m = first_so (mended body) _ rest_of in
    let short = leb-true (length body) 254 (first_so (nat_le (length body) 254) _ (second_so (mended body) _ rest_of)) in
    let room = lt-ltb (length names) 255 few in
    let f : Result Reading LibraryFault → Option LibraryFault = λ x. read_on x (read_from (counted n) (body ++ rest)) in
    ap (λ z. f (cond z (cond (among (name_of (p ∷ body)) names) (Err (flaw SameName (counted n))) (Ok (reading (Inside 1 (past_last names o)) (noted names p)))) (Err (flaw BadPrototype (counted n))))) lp
    ∙ ap (λ z. f (cond z (Err (flaw SameName (counted n))) (Ok (reading (Inside 1 (past_last names o)) (noted names p))))) a
    ∙ ap (λ z. read_from (counted n) (body ++ rest) (reading (Inside 1 (cond z None (Some o))) (cond z (names ++ name_of (p ∷ body) ∷ []) names))) room
    ∙ body_reads (names ++ name_of (p ∷ body) ∷ []) rest more body 1 (counted n) m (omega (arith, short))

-- lawful blocks are read without a fault
blocks_read : (bs : List Block) (names : List (List ℕ)) → list_all lawful_block bs ≡ true → new_names names (statements_of bs) ≡ true → length names + length bs ≤ 255
    → (n : ℕ) → read_from n (lines_in bs) (reading Between names) ≡ None
blocks_read [] names l w few n = refl
blocks_read (b ∷ bs) names l w few n =
    let d = b.statements in
    let lb = first_so (lawful_block b) _ l in
    let new = first_so (not (among (name_of d) names)) _ w in
    let m = length_push names (name_of d) in
    ap (λ z. read_on (cond z (Ok (reading (Opened (counted n)) names)) (Err (flaw NoMacro (counted n)))) (read_from (counted n) (d ++ lines_in bs))) (block_opens b lb)
    ∙ definition_reads names (lines_in bs) d (counted n) (counted n) (block_lawful b lb) (not-true (among (name_of d) names) new) (omega (arith, few))
    (blocks_read bs (names ++ name_of d ∷ []) (second_so (lawful_block b) _ l) (second_so (not (among (name_of d) names)) _ w) (omega (arith, few, m)))

-- the definitions of lines that are blocks
body_grouped : (rest body : List (List ℕ)) → mended body ≡ true → grouped (body ++ rest) true ≡ body ∷ grouped rest false
body_grouped rest [] m = cc
body_grouped rest (t ∷ ts) m = go (ends (body_kind t)) m (body_grouped rest ts)
  where
    go : (z : Bool) → cond z (is_nil ts) (not (stops (body_kind t)) && mended ts) ≡ true → (mended ts ≡ true → grouped (ts ++ rest) true ≡ ts ∷ grouped rest false)
        → closes z t (grouped (ts ++ rest)) ≡ (t ∷ ts) ∷ grouped rest false
    go true m ih = ap (λ us. (t ∷ []) ∷ grouped (us ++ rest) false) (nil_is ts m) ∙ ap (λ us. (t ∷ us) ∷ grouped rest false) (sym (nil_is ts m))
    go false m ih = ap (before t) (ih (second_so (not (stops (body_kind t))) (mended ts) m))

model_goes_on : (z : Bool) (k : Kind) → is_model k ≡ true → ends (cond z Model k) ≡ false
model_goes_on true k e = refl
model_goes_on false Declaration e = cc
model_goes_on false Assignment e = cc
model_goes_on false Branch e = cc
model_goes_on false Jump e = cc
model_goes_on false Label e = cc
model_goes_on false Exit e = cc
model_goes_on false Mend e = cc
model_goes_on false Note e = cc
model_goes_on false Opening e = cc
model_goes_on false Closing e = cc
model_goes_on false Model e = refl

and_tail : (w x y z : Bool) → (w && (x && (y && z))) ≡ true → y ≡ true
and_tail w x y z e = first_so y z (second_so x (y && z) (second_so w (x && (y && z)) e))

prototype_goes_on : (p : List ℕ) → lawful_prototype p ≡ true → ends (body_kind p) ≡ false
prototype_goes_on p l =
    let name = and_tail (not (comment p)) (name_fits (word p)) (is_macro_name (operation_of p)) (all_fit false (name_seen (word p)) (parts_of (operand_of p))) l in
    model_goes_on (remark p) (kind_of (operation_of p)) (second_so (nat_le (length (operation_of p)) 8) _ (second_so (is_word (operation_of p)) (nat_le (length (operation_of p)) 8 && is_model (kind_of (operation_of p))) name))

definition_grouped : (rest d : List (List ℕ)) → lawful_definition d ≡ true → grouped (d ++ rest) true ≡ d ∷ grouped rest false
definition_grouped rest [] l = cc
definition_grouped rest (p ∷ body) l =
    ap (λ z. closes z p (grouped (body ++ rest))) (prototype_goes_on p (first_so (lawful_prototype p) _ l))
    ∙ ap (before p) (body_grouped rest body (first_so (mended body) _ (second_so (lawful_prototype p) _ l)))

blocks_grouped : (bs : List Block) → list_all lawful_block bs ≡ true → grouped (lines_in bs) false ≡ statements_of bs
blocks_grouped [] l = refl
blocks_grouped (b ∷ bs) l =
    definition_grouped (lines_in bs) b.statements (block_lawful b (first_so (lawful_block b) _ l))
    ∙ ap (λ ds. b.statements ∷ ds) (blocks_grouped bs (second_so (lawful_block b) _ l))

-- lines that fit, in a text that is ended
lines_fit : (e : Bool) (ls : List (List ℕ)) (n : ℕ) → bad_from n e ls ≡ None → list_all line_fits ls ≡ true
lines_fit e [] n h = refl
lines_fit e (t ∷ []) n h = go (line_fits t) e refl h
  where
    go : (z y : Bool) → line_fits t ≡ z → cond (z && y) None (Some (counted n)) ≡ None → (line_fits t && true) ≡ true
    go true y f x = ap (λ z. z && true) f
    go false y f x = cc
lines_fit e (t ∷ (u ∷ us)) n h = go (line_fits t) refl h (lines_fit e (u ∷ us) (counted n))
  where
    go : (z : Bool) → line_fits t ≡ z → cond z (bad_from (counted n) e (u ∷ us)) (Some (counted n)) ≡ None
        → (bad_from (counted n) e (u ∷ us) ≡ None → list_all line_fits (u ∷ us) ≡ true) → list_all line_fits (t ∷ (u ∷ us)) ≡ true
    go true f x ih = both_true f (ih x)
    go false f x ih = cc

last_ended : (e : Bool) (t : List ℕ) (ts : List (List ℕ)) (n : ℕ) → bad_from n e (t ∷ ts) ≡ None → e ≡ true
last_ended e t [] n h = go (line_fits t) e refl h
  where
    go : (z y : Bool) → e ≡ y → cond (z && y) None (Some (counted n)) ≡ None → e ≡ true
    go true true y x = y
    go true false y x = cc
    go false y y' x = cc
last_ended e t (u ∷ us) n h = go (line_fits t) h (last_ended e u us (counted n))
  where
    go : (z : Bool) → cond z (bad_from (counted n) e (u ∷ us)) (Some (counted n)) ≡ None → (bad_from (counted n) e (u ∷ us) ≡ None → e ≡ true) → e ≡ true
    go true x ih = ih x
    go false x ih = cc

no_bad_line : (ls : List (List ℕ)) (n : ℕ) → list_all line_fits ls ≡ true → bad_from n true ls ≡ None
no_bad_line [] n f = refl
no_bad_line (t ∷ []) n f = ap (λ z. cond z None (Some (counted n))) f
no_bad_line (t ∷ (u ∷ us)) n f =
    ap (λ z. cond z (bad_from (counted n) true (u ∷ us)) (Some (counted n))) (first_so (line_fits t) _ f)
    ∙ no_bad_line (u ∷ us) (counted n) (second_so (line_fits t) _ f)

-- a text that is ended is its lines, each with its byte 10
lines_some : (b : ℕ) (bs : List ℕ) → (l : List ℕ) × (ls : List (List ℕ)) × (lines_of (b ∷ bs) ≡ l ∷ ls)
lines_some b bs = go (b == 10) (lines_of bs)
  where
    go : (z : Bool) (ls : List (List ℕ)) → (m : List ℕ) × (ms : List (List ℕ)) × (cond z ([] ∷ ls) (onto b ls) ≡ m ∷ ms)
    go true ls = ([], ls, refl)
    go false [] = (b ∷ [], [], refl)
    go false (l ∷ ls) = (b ∷ l, ls, refl)

unlines_onto : (b c : ℕ) (cs : List ℕ) → unlines (onto b (lines_of (c ∷ cs))) ≡ b ∷ unlines (lines_of (c ∷ cs))
unlines_onto b c cs =
    let s = lines_some c cs in
    ap (λ ls. unlines (onto b ls)) s.2 ∙ ap (λ ls. b ∷ unlines ls) (sym s.2)

ended_text : (bs : List ℕ) → ended bs ≡ true → unlines (lines_of bs) ≡ bs
ended_text [] e = refl
ended_text (b ∷ []) e = go (b == 10) refl
  where
    go : (z : Bool) → (b == 10) ≡ z → unlines (cond z ([] ∷ []) ((b ∷ []) ∷ [])) ≡ b ∷ []
    go true t = ap (λ x. x ∷ []) (sym (eqb-true b 10 t))
    go false t = cc
ended_text (b ∷ (c ∷ cs)) e = go (b == 10) refl (ended_text (c ∷ cs) e)
  where
    go : (z : Bool) → (b == 10) ≡ z → unlines (lines_of (c ∷ cs)) ≡ c ∷ cs → unlines (cond z ([] ∷ lines_of (c ∷ cs)) (onto b (lines_of (c ∷ cs)))) ≡ b ∷ (c ∷ cs)
    go true t ih = ap₂ (λ x xs. x ∷ xs) (sym (eqb-true b 10 t)) ih
    go false t ih = unlines_onto b c cs ∙ ap (λ xs. b ∷ xs) ih

-- and lines of characters are the lines of their text
not_end : (b : ℕ) → character b ≡ true → (b == 10) ≡ false
not_end b h = go (b == 10) refl
  where
    go : (z : Bool) → (b == 10) ≡ z → (b == 10) ≡ false
    go false e = e
    go true e = let newline = ap character (sym (eqb-true b 10 e)) ∙ h in cc

first_of : (t bs : List ℕ) → characters t ≡ true → lines_of (t ++ 10 ∷ bs) ≡ t ∷ lines_of bs
first_of [] bs h = refl
first_of (b ∷ t) bs h =
    ap (λ z. cond z ([] ∷ lines_of (t ++ 10 ∷ bs)) (onto b (lines_of (t ++ 10 ∷ bs)))) (not_end b (first_so (character b) _ h))
    ∙ ap (onto b) (first_of t bs (second_so (character b) _ h))

lines_back : (ls : List (List ℕ)) → list_all line_fits ls ≡ true → lines_of (unlines ls) ≡ ls
lines_back [] h = refl
lines_back (t ∷ ts) h =
    first_of t (unlines ts) (second_so (nat_le (length t) 71) _ (first_so (line_fits t) _ h))
    ∙ ap (λ us. t ∷ us) (lines_back ts (second_so (line_fits t) _ h))

ended_after : (t bs : List ℕ) → ended (t ++ 10 ∷ bs) ≡ ended (10 ∷ bs)
ended_after [] bs = refl
ended_after (b ∷ []) bs = refl
ended_after (b ∷ (c ∷ cs)) bs = ended_after (c ∷ cs) bs

unlines_ended : (ls : List (List ℕ)) → ended (unlines ls) ≡ true
unlines_ended [] = refl
unlines_ended (t ∷ []) = ended_after t []
unlines_ended (t ∷ (u ∷ us)) = ended_after t (unlines (u ∷ us)) ∙ passed u (unlines us) ∙ unlines_ended (u ∷ us)
  where
    passed : (v bs : List ℕ) → ended (10 ∷ (v ++ 10 ∷ bs)) ≡ ended (v ++ 10 ∷ bs)
    passed [] bs = refl
    passed (b ∷ v) bs = refl

-- all of two lists pass where all of each do
pub all_append : {A : Type 0} (p : A → Bool) (xs ys : List A) → list_all p xs ≡ true → list_all p ys ≡ true → list_all p (xs ++ ys) ≡ true
all_append p xs ys f g = list_all-append p xs ys ∙ both_true f g

pub statements_fit : (d : Definition) → lawful_definition d ≡ true → list_all line_fits d ≡ true
statements_fit [] l = refl
statements_fit (p ∷ body) l = second_so (nat_le (length body) 254) _ (second_so (mended body) _ (second_so (lawful_prototype p) _ l))

blocks_fit : (bs : List Block) → list_all lawful_block bs ≡ true → list_all line_fits (lines_in bs) ≡ true
blocks_fit [] l = refl
blocks_fit (b ∷ bs) l =
    let lb = first_so (lawful_block b) _ l in
    both_true (block_fits b lb)
    (all_append line_fits b.statements (lines_in bs) (statements_fit b.statements (block_lawful b lb)) (blocks_fit bs (second_so (lawful_block b) _ l)))

-- the check finds nothing in a lawful library text
pub written_passes : (bs : List Block) → LawfulBlocks bs → check_of (written bs) ≡ None
written_passes bs l =
    let fit = blocks_fit bs l.each in
    let few = l.few in
    let back = lines_back (lines_in bs) fit in
    ap₂ (λ e ls. or_read (bad_from 0 e ls) (written bs)) (unlines_ended (lines_in bs)) back
    ∙ ap (λ x. or_read x (written bs)) (no_bad_line (lines_in bs) 0 fit)
    ∙ ap (λ ls. read_from 0 ls (reading Between [])) back
    ∙ blocks_read bs [] l.each l.new (omega (arith, few)) 0

-- and its definitions are those of its blocks
pub written_definitions : (bs : List Block) → LawfulBlocks bs → text_definitions (written bs) ≡ statements_of bs
unfolding text_definitions
written_definitions bs l =
    ap (λ x. or_none x (grouped (lines_of (written bs)) false)) (written_passes bs l)
    ∙ ap (λ ls. grouped ls false) (lines_back (lines_in bs) (blocks_fit bs l.each))
    ∙ blocks_grouped bs l.each

-- a text in which the check finds nothing is a lawful library text
module _ (text : List ℕ) where
  unread_line : (x : Option ℕ) → or_read x text ≡ None → x ≡ None
  unread_line None h = refl
  unread_line (Some n) h = cc

  no_bad : check_of text ≡ None → bad_from 0 (ended text) (lines_of text) ≡ None
  no_bad h = unread_line (bad_from 0 (ended text) (lines_of text)) h

  whole : check_of text ≡ None → text ≡ unlines (lines_of text)
  whole h = sym (ended_text text (go text (no_bad h)))
    where
      go : (bs : List ℕ) → bad_from 0 (ended bs) (lines_of bs) ≡ None → ended bs ≡ true
      go [] x = refl
      go (b ∷ bs) x =
          let s = lines_some b bs in
          last_ended (ended (b ∷ bs)) s.0 s.1 0 (ap (bad_from 0 (ended (b ∷ bs))) (sym s.2) ∙ x)

  outside : check_of text ≡ None → Outside [] (lines_of text)
  outside h =
      let b = no_bad h in
      sound (lines_of text) 0 (reading Between []) (lines_fit (ended text) (lines_of text) 0 b) (ap (λ x. or_read x text) (sym b) ∙ h) (omega arith)

  pub passed_is : check_of text ≡ None → LibraryText text
  passed_is h =
      let o = outside h in
      let few = o.few in
      let l : LawfulBlocks o.blocks = record { each = o.each; few = omega (arith, few); new = o.new } in
      (o.blocks, whole h ∙ ap unlines o.lines, l)

statements_lawful : (bs : List Block) → list_all lawful_block bs ≡ true → list_all lawful_definition (statements_of bs) ≡ true
statements_lawful [] l = refl
statements_lawful (b ∷ bs) l =
    both_true (block_lawful b (first_so (lawful_block b) _ l)) (statements_lawful bs (second_so (lawful_block b) _ l))

statements_as_many : (bs : List Block) → length (statements_of bs) ≡ length bs
statements_as_many [] = refl
statements_as_many (b ∷ bs) = ap suc (statements_as_many bs)

-- over a text with a fault there are none
pub refused_none : (text : List ℕ) (f : LibraryFault) → check_of text ≡ Some f → text_definitions text ≡ []
unfolding text_definitions
refused_none text f e = ap (λ x. or_none x (grouped (lines_of text) false)) e

pub passed_some : (text : List ℕ) → check_of text ≡ None → text_definitions text ≡ grouped (lines_of text) false
unfolding text_definitions
passed_some text e = ap (λ x. or_none x (grouped (lines_of text) false)) e

-- the definitions of any text are lawful
pub text_lawful : (text : List ℕ) → Lawful (text_definitions text)
text_lawful text = go (check_of text) refl
  where
    P : List Definition → Type 0
    P ds = Lawful ds

    none : Lawful []
    none = record { few = omega arith; each = refl }

    of_blocks : (bs : List Block) → LawfulBlocks bs → Lawful (statements_of bs)
    of_blocks bs l =
        let few = l.few in
        let n = statements_as_many bs in
        record { few = omega (arith, few, n); each = statements_lawful bs l.each }

    as_written : LibraryText text → Lawful (text_definitions text)
    as_written t = subst Lawful (sym (ap text_definitions t.1 ∙ written_definitions t.0 t.2)) (of_blocks t.0 t.2)

    go : (x : Option LibraryFault) → check_of text ≡ x → Lawful (text_definitions text)
    go (Some f) e = subst Lawful (sym (refused_none text f e)) none
    go None e = as_written (passed_is text e)

-- no lawful library text is refused
pub refused_not : (text : List ℕ) (f : LibraryFault) → check_of text ≡ Some f → LibraryText text → ⊥
refused_not text f e t = let found : Some f ≡ None = sym e ∙ ap check_of t.1 ∙ written_passes t.0 t.2 in cc
