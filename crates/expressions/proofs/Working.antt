-- The steps of working an expression out.
use Rattle.std.proofs.Common.{◌≡◌, ℕ, ◌+◌, ◌-◌, ◌<◌, ◌≤◌, Bool, true, false, not, ◌&&◌, List, [], ◌∷◌, ◌++◌, map, length, take, drop, Some, None, Ok, Err, Option, Result, sym, refl, ap, ◌∙◌, subst, ap₂, arith, length-append, length-drop}
use Rattle.std.specs.Option.{option_and_then, option_map}
use Rattle.std.specs.Result.{result_and}
use Rattle.std.proofs.lemmas.List.{drop-drop, take_rest, length-reverse, length-take-le}
use Rattle.expressions.specs.declared.flaws.Flaw.{Flaw}
use Rattle.expressions.specs.declared.flaws.Flaw.TheVariants.{UnknownSymbol}
use Rattle.expressions.specs.declared.level.Level.{Level}
use Rattle.expressions.specs.declared.level.Walk.{Walk}
use Rattle.expressions.specs.declared.level.WordRead.{WordRead}
use Rattle.expressions.specs.Classes.{digits}
use Rattle.expressions.specs.Kinds.{Operations}
use Rattle.expressions.specs.Pieces.{named, goes_on, Table}
use Rattle.expressions.specs.Trees.{Tree, Word, numeral, variable, operator, open', close, words_of, word_written, word_fits, word_known, words_known, digit_first, value_in, Writes, OneTree, NoValue, Worked}
use Rattle.expressions.specs.Walks.{walker_of, join_with, level_of, fresh_level, Stage, stage_of, step_of, token_in, waits_in, stage_in, Stands, Stepped, Ended, first_word_of}
use Rattle.expressions.specs.Joins.{join_of, PartsOf}
use Rattle.expressions.specs.Words.{known_or, read_in}
use Rattle.expressions.proofs.Starts.{both}
use Rattle.expressions.proofs.Joining.{Come, come_start, come_more, come_all, come_next, one_join, all_push, none_read}
use Rattle.expressions.proofs.Words.{word_reader, word_sound}
use Rattle.expressions.proofs.Apart.{parts_of}
use Rattle.expressions.proofs.Parsing.{tree_walker, tree_token, runs, runs_append, runs_tree, start, sums_of, last_of, same_tree}
use Rattle.expressions.proofs.Keeping.{none_is, some_is, Law, keeps, start_law, stage_words, word_ok, ends_in_tree}
use Rattle.expressions.proofs.Mapping.{map_l, map_s, step_map, join_map}

-- a text has at most one tree
pub one_tree : OneTree
one_tree most t u text wt wu = same_tree most t u wt.whole wu.whole (one_join word_reader (words_of t) (words_of u) text (parts_of most t text wt) (parts_of most u text wu))

-- how far an expression is worked out: what is left, the words before it, and the walk over them to trees
pub record Gone {V : Type 0} (k : Operations V) (σ : Table) (most : ℕ) (text rest : List ℕ) (walk : Walk V) (known : Result (Unit {0}) Flaw) : Type 0 where
  pub here : ℕ
  pub left : drop here text ≡ rest
  pub ws : List Word
  pub come : Come word_reader text here ws
  pub tree : Stage Tree
  pub ran : runs most start ws ≡ Some tree
  pub law : Law most tree
  pub words : stage_words tree ≡ ws
  pub place : Stands walk (map_s (value_in k σ) tree) most
  pub asked : known ≡ known_or (words_known σ ws)

pub gone_start : {V : Type 0} {k : Operations V} {σ : Table} {most : ℕ} {text : List ℕ} {walk : Walk V} → Stands walk (stage_of fresh_level None []) most → Gone k σ most text text walk (Ok tt)
gone_start {most = most} {text = text} place = record { here = 0; left = refl; ws = []; come = come_start word_reader text; tree = start; ran = refl; law = start_law most; words = refl; place = place; asked = refl }

-- the word that was read
read_word : {V : Type 0} (k : Operations V) (σ : Table) (o : Option Word) (r : WordRead V) → Ok r ≡ read_in k σ o → (w : Word) × (o ≡ Some w) × (r.token ≡ token_in k σ w) × (r.width ≡ length (word_written w)) × (r.known ≡ known_or (word_known σ w))
read_word k σ None r e = absurd (cc)
read_word k σ (Some w) r e =
    let i : r ≡ record { token = token_in k σ w; width = length (word_written w); known = known_or (word_known σ w) } = cc in
    (w, refl, ap (λ x. x.token) i, ap (λ x. x.width) i, ap (λ x. x.known) i)

word_is_ok : (w : Word) (rest : List ℕ) → word_fits w rest ≡ true → word_ok w ≡ true
word_is_ok (numeral ds) rest e = (both (digit_first ds && digits ds) (not (digit_first rest)) e).0
word_is_ok (variable cs) rest e = (both (named cs) (not (goes_on rest)) e).0
word_is_ok (operator o) rest e = refl
word_is_ok open' rest e = refl
word_is_ok close rest e = refl

some_written : (w : Word) → word_ok w ≡ true → 1 ≤ length (word_written w)
some_written (numeral []) e = absurd (cc)
some_written (numeral (d ∷ ds)) e = omega arith
some_written (variable cs) e = omega arith
some_written (operator o) e = omega arith
some_written open' e = omega arith
some_written close e = omega arith

-- a word takes at least a byte, and no more than there are
word_width : {V : Type 0} (k : Operations V) (σ : Table) (rest : List ℕ) (r : WordRead V) → Ok r ≡ read_in k σ (first_word_of rest) → (1 ≤ r.width) × (r.width ≤ length rest)
word_width k σ rest r e =
    let p = read_word k σ (first_word_of rest) r e in
    let f = word_sound rest p.0 p.1 in
    let s = some_written p.0 (word_is_ok p.0 _ f.fits) in
    let a = ap length f.here in
    let b = length-append (word_written p.0) (drop (length (word_written p.0)) rest) in
    let w = p.3 in
    (omega arith, omega arith)

-- the search cites these two
pub word_within : {V : Type 0} (k : Operations V) (σ : Table) (rest : List ℕ) (r : WordRead V) → Ok r ≡ read_in k σ (first_word_of rest) → r.width ≤ length rest
word_within k σ rest r e = (word_width k σ rest r e).1

pub word_shorter : {V : Type 0} (k : Operations V) (σ : Table) (rest : List ℕ) (r : WordRead V) → Ok r ≡ read_in k σ (first_word_of rest) → length (take (length rest - r.width) (drop r.width rest)) < length rest
word_shorter k σ rest r e = let w = word_width k σ rest r e in simp (take_rest, length-drop) (omega (arith, w.0, w.1))

-- all symbols of two parts are known, or the flaw
known_both : (a b : Bool) → result_and (known_or a) (known_or b) ≡ known_or (a && b)
known_both true b = refl
known_both false b = refl

-- the walk to trees takes the same step
same_step : {V : Type 0} (f : Tree → V) (o : Option (Stage Tree)) (s : Stage V) → option_map (map_s f) o ≡ Some s → (t : Stage Tree) × (o ≡ Some t) × (s ≡ map_s f t)
same_step f None s e = none_is s e
same_step f (Some t) s e = (t, refl, sym (some_is _ s e))

no_step : {V : Type 0} (f : Tree → V) (o : Option (Stage Tree)) → option_map (map_s f) o ≡ None → o ≡ None
no_step f None e = refl
no_step f (Some t) e = none_is _ (sym e)

step_of_word : {V : Type 0} (k : Operations V) (σ : Table) (most : ℕ) (tree : Stage Tree) (walk : Walk V) (w : Word) (r : WordRead V) → Stands walk (map_s (value_in k σ) tree) most → r.token ≡ token_in k σ w
    → step_of (walker_of k) (length walk.levels.now) (stage_in walk) r.token ≡ option_map (map_s (value_in k σ)) (step_of tree_walker most tree (tree_token w))
step_of_word k σ most tree walk w r place t =
    ap (λ m. step_of (walker_of k) m (stage_in walk) r.token) place.1 ∙ (ap₂ (step_of (walker_of k) most) place.0 t ∙ step_map k σ most tree w)

pub gone_more : {V : Type 0} {k : Operations V} {σ : Table} {most : ℕ} {text rest next : List ℕ} {walk on : Walk V} {known both : Result (Unit {0}) Flaw} (r : WordRead V)
    → next ≡ drop r.width rest → both ≡ result_and known r.known → Ok r ≡ read_in k σ (first_word_of rest) → Stepped (walker_of k) walk on r.token (Ok tt)
    → Gone k σ most text rest walk known → Gone k σ most text next on both
gone_more {k = k} {σ = σ} {most = most} {text = text} {rest = rest} {walk = walk} {on = on} r cut joint e step gone =
    let p = read_word k σ (first_word_of rest) r e in
    let w = p.0 in
    let t = same_step (value_in k σ) (step_of tree_walker most gone.tree (tree_token w)) (stage_in on) (sym (step_of_word k σ most gone.tree walk w r gone.place p.2) ∙ step.0) in
    let f = word_sound rest w p.1 in
    let kept = keeps most gone.tree t.0 w gone.law (word_is_ok w _ f.fits) t.1 in
    record {
      ws = gone.ws ++ (w ∷ []);
      here = gone.here + r.width;
      left = sym (drop-drop r.width gone.here text) ∙ (ap (drop r.width) gone.left ∙ sym cut);
      come = come_more word_reader text gone.here r.width gone.ws w (ap first_word_of gone.left ∙ p.1) p.3 gone.come;
      tree = t.0;
      ran = runs_append most start gone.ws (w ∷ []) ∙ (ap (option_and_then (λ u. runs most u (w ∷ []))) gone.ran ∙ ap (option_and_then Some) t.1);
      law = kept.law;
      words = kept.words ∙ ap (λ x. x ++ (w ∷ [])) gone.words;
      place = (t.2, step.1 ∙ gone.place.1);
      asked = joint ∙ (ap₂ result_and gone.asked p.4 ∙ (known_both (words_known σ gone.ws) (word_known σ w) ∙ ap known_or (sym (all_push (word_known σ) gone.ws w))));
    }

-- bytes are left in the text
some_left : {V : Type 0} {k : Operations V} {σ : Table} {most : ℕ} {text rest : List ℕ} {walk : Walk V} {known : Result (Unit {0}) Flaw} → 0 < length rest → (gone : Gone k σ most text rest walk known) → gone.here < length text
some_left {text = text} more gone =
    let n = ap length gone.left in
    let d = length-drop gone.here text in
    omega arith

-- no bytes are left in the text
none_left : {V : Type 0} {k : Operations V} {σ : Table} {most : ℕ} {text rest : List ℕ} {walk : Walk V} {known : Result (Unit {0}) Flaw} → length rest ≡ 0 → (gone : Gone k σ most text rest walk known) → length text ≤ gone.here
none_left {text = text} past gone =
    let n = ap length gone.left in
    let d = length-drop gone.here text in
    omega arith

-- no tree is written where no word stands
pub no_word : {V : Type 0} {k : Operations V} {σ : Table} {most : ℕ} {text rest : List ℕ} {walk : Walk V} {known : Result (Unit {0}) Flaw} {f : Flaw}
    → 0 < length rest → Err f ≡ read_in k σ (first_word_of rest) → Gone k σ most text rest walk known → NoValue σ most text f
no_word {k = k} {σ = σ} {most = most} {text = text} {rest = rest} {f = f} more e gone =
    let n = none_read (read_in k σ) refl (λ w. (_, refl)) (first_word_of rest) f e in
    let P : Flaw → Type 0 = NoValue σ most text in
    subst P (sym n.1)
    (λ t w. let c = come_next word_reader text gone.here gone.ws (words_of t) (some_left more gone) gone.come (parts_of most t text w) in
    none_is c.0 (sym n.0 ∙ (ap first_word_of (sym gone.left) ∙ c.2)))

-- no tree is written where a word may not follow
pub no_place : {V : Type 0} {k : Operations V} {σ : Table} {most : ℕ} {text rest : List ℕ} {walk : Walk V} (on : Walk V) {known : Result (Unit {0}) Flaw} (r : WordRead V) {f : Flaw}
    → Ok r ≡ read_in k σ (first_word_of rest) → Stepped (walker_of k) walk on r.token (Err f) → Gone k σ most text rest walk known → NoValue σ most text f
no_place {k = k} {σ = σ} {most = most} {text = text} {rest = rest} {walk = walk} on r e step gone =
    let p = read_word k σ (first_word_of rest) r e in
    let w = p.0 in
    let wide = word_width k σ rest r e in
    let more : 0 < length rest = omega (arith, wide.0, wide.1) in
    let none = no_step (value_in k σ) (step_of tree_walker most gone.tree (tree_token w)) (sym (step_of_word k σ most gone.tree walk w r gone.place p.2) ∙ step.0) in
    let P : Flaw → Type 0 = NoValue σ most text in
    subst P (sym step.1)
    (λ t u. let c = come_next word_reader text gone.here gone.ws (words_of t) (some_left more gone) gone.come (parts_of most t text u) in
    let same : c.0 ≡ w = some_is _ _ (sym c.2 ∙ (ap first_word_of gone.left ∙ p.1)) in
    let ran : runs most start (words_of t) ≡ None = ap (runs most start) c.3 ∙ (runs_append most start gone.ws (c.0 ∷ c.1) ∙ (ap (option_and_then (λ s. runs most s (c.0 ∷ c.1))) gone.ran ∙ (ap (λ x. runs most gone.tree (x ∷ c.1)) same ∙ ap (option_and_then (λ s. runs most s c.1)) none))) in
    none_is _ (sym ran ∙ runs_tree most t u.whole))

after_some : {V : Type 0} (f : Tree → V) (o : Option Tree) (x : V) → option_map f o ≡ Some x → (t : Tree) × (o ≡ Some t) × (x ≡ f t)
after_some f None x e = none_is x e
after_some f (Some t) x e = (t, refl, sym (some_is _ x e))

no_waits : {V : Type 0} (f : Tree → V) (ls : List (Level Tree)) → length (map (map_l f) ls) ≡ 0 → ls ≡ []
no_waits f [] e = refl
no_waits f (l ∷ ls) e = absurd (omega arith)

-- so many levels wait as the walk is deep
waits_depth : {V : Type 0} (walk : Walk V) → length (waits_in walk) ≡ walk.depth
waits_depth walk = length-reverse (take walk.depth walk.levels.now) ∙ length-take-le walk.depth walk.levels.now walk.room

-- the tree of a walk that may end
pub record Whole {V : Type 0} (k : Operations V) (σ : Table) (most : ℕ) (text : List ℕ) (known : Result (Unit {0}) Flaw) (v : V) : Type 0 where
  pub tree : Tree
  pub writes : Writes most tree text
  pub value : v ≡ value_in k σ tree
  pub asked : known ≡ known_or (words_known σ (words_of tree))

pub gone_whole : {V : Type 0} {k : Operations V} {σ : Table} {most : ℕ} {text rest : List ℕ} {walk : Walk V} {known : Result (Unit {0}) Flaw} {v : V}
    → length rest ≡ 0 → Ended k walk (Ok v) → Gone k σ most text rest walk known → Whole k σ most text known v
gone_whole {k = k} {σ = σ} {most = most} {text = text} {walk = walk} past end gone =
    let f = value_in k σ in
    let s = gone.tree in
    let a = after_some f s.after end.0 (sym (ap (λ x. x.after) gone.place.0) ∙ end.1) in
    let deep = waits_depth walk in
    let waits : s.waits ≡ [] = no_waits f s.waits (sym (ap (λ x. length x.waits) gone.place.0) ∙ (deep ∙ end.2)) in
    let whole : s ≡ stage_of s.level (Some a.0) [] = ap₂ (λ x y. stage_of s.level x y) a.1 waits in
    let P : Stage Tree → Type 0 = Law most in
    let t = ends_in_tree most s.level a.0 (subst P whole gone.law) in
    let u = join_with tree_walker s.level.sums a.0 in
    let words : words_of u ≡ gone.ws = t.1 ∙ (ap stage_words (sym whole) ∙ gone.words) in
    let parts = come_all word_reader text gone.here gone.ws (none_left past gone) gone.come in
    record {
      tree = u;
      writes = record { whole = t.0; words = ap (join_of word_written) words ∙ parts.0 };
      value = end.3 ∙ (ap₂ (join_with (walker_of k)) (ap (λ x. x.level.sums) gone.place.0) a.2 ∙ join_map k σ s.level.sums a.0);
      asked = gone.asked ∙ ap (λ ws. known_or (words_known σ ws)) (sym words);
    }

pub no_end : {V : Type 0} {k : Operations V} {σ : Table} {most : ℕ} {text rest : List ℕ} {walk : Walk V} {known : Result (Unit {0}) Flaw} {f : Flaw}
    → length rest ≡ 0 → Ended k walk (Err f) → Gone k σ most text rest walk known → NoValue σ most text f
no_end {k = k} {σ = σ} {most = most} {text = text} {walk = walk} past end gone =
    let P : Flaw → Type 0 = NoValue σ most text in
    let parts = come_all word_reader text gone.here gone.ws (none_left past gone) gone.come in
    let deep = waits_depth walk in
    subst P (sym end.0)
    (λ t w. let same : gone.ws ≡ words_of t = one_join word_reader gone.ws (words_of t) text parts (parts_of most t text w) in
    let s : gone.tree ≡ stage_of (level_of (sums_of t) None None) (Some (last_of t)) [] = some_is _ _ (sym gone.ran ∙ (ap (runs most start) same ∙ runs_tree most t w.whole)) in
    let is = gone.place.0 ∙ ap (map_s (value_in k σ)) s in
    end.1 (value_in k σ (last_of t)) (ap (λ x. x.after) is) (sym deep ∙ ap (λ x. length x.waits) is))

-- words that are known, and words that are not
known_ok : (z : Bool) → known_or z ≡ Ok tt → z ≡ true
known_ok true e = refl
known_ok false e = absurd (cc)

known_err : (z : Bool) (f : Flaw) → known_or z ≡ Err f → (f ≡ UnknownSymbol) × (z ≡ false)
known_err true f e = absurd (cc)
known_err false f e = (cc, refl)

-- what is told at the end: the value, or that a symbol is unknown
pub gone_told : {V : Type 0} {k : Operations V} {σ : Table} {most : ℕ} {text : List ℕ} {known : Result (Unit {0}) Flaw} {v : V} → known ≡ Ok tt → Whole k σ most text known v → Worked k σ most text (Ok v)
gone_told e w = (w.tree, w.writes, known_ok _ (sym w.asked ∙ e), w.value)

pub gone_unknown : {V : Type 0} {k : Operations V} {σ : Table} {most : ℕ} {text : List ℕ} {known : Result (Unit {0}) Flaw} {v : V} {f : Flaw} → known ≡ Err f → Whole k σ most text known v → NoValue σ most text f
gone_unknown {σ = σ} {most = most} {text = text} {f = f} e w =
    let p = known_err (words_known σ (words_of w.tree)) f (sym w.asked ∙ e) in
    let P : Flaw → Type 0 = NoValue σ most text in
    subst P (sym p.0) (w.tree, w.writes, p.1)

-- words that no walk reads are of no tree
pub no_tree : (most : ℕ) (text : List ℕ) (ws : List Word) → PartsOf word_written word_fits ws text → runs most start ws ≡ None → (t : Tree) → Writes most t text → ⊥
no_tree most text ws parts none t w =
    none_is _ (sym none ∙ (ap (runs most start) (one_join word_reader ws (words_of t) text parts (parts_of most t text w)) ∙ runs_tree most t w.whole))
