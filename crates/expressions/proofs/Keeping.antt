-- A walk over words keeps them: its levels are parts of trees that stand.
use Rattle.std.specs.Prelude.{is_none}
use Rattle.std.proofs.Common.{◌≡◌, ℕ, suc, Bool, true, false, cond, ◌&&◌, ltb, List, [], ◌∷◌, ◌++◌, length, Some, None, Option, sym, refl, ap, ◌∙◌, subst, ap₂, append_assoc}
use Rattle.std.proofs.lemmas.List.{append-nil}
use Rattle.expressions.specs.declared.level.Op.{Op}
use Rattle.expressions.specs.declared.level.Op.TheVariants.{Plus, Minus, Times, Over}
use Rattle.expressions.specs.declared.level.Left.{Left}
use Rattle.expressions.specs.declared.level.Level.{Level}
use Rattle.expressions.specs.Classes.{digits}
use Rattle.expressions.specs.Pieces.{named}
use Rattle.expressions.specs.Trees.{Tree, number, name, signed, applied, group, Word, numeral, variable, operator, open', close, words_of, additive, Shape, as_sum, as_lead, as_product, as_factor, stands, digit_first}
use Rattle.expressions.specs.Walks.{join_with, sign_with, left_of, level_of, fresh_level, is_fresh, Stage, stage_of, factored, closing, operated_level, step_at, step_of}
use Rattle.expressions.proofs.Starts.{both, and_true}
use Rattle.expressions.proofs.Parsing.{no, tree_walker, tree_token, start}

pub none_is : {S X : Type 0} (s : S) → None ≡ Some s → X
none_is s e = absurd (cc)

pub some_is : {S : Type 0} (s t : S) → Some s ≡ Some t → s ≡ t
some_is s t e = cc

-- the words that a walk keeps
abbrev wait_words : Option (Left Tree) → List Word
wait_words None = []
wait_words (Some l) = words_of l.value ++ (operator l.op ∷ [])

abbrev sign_words : Option Op → List Word
sign_words None = []
sign_words (Some o) = operator o ∷ []

abbrev level_words : Level Tree → List Word
level_words l = wait_words l.sums ++ (wait_words l.products ++ sign_words l.sign)

abbrev after_words : Option Tree → List Word
after_words None = []
after_words (Some p) = words_of p

abbrev waits_words : List (Level Tree) → List Word
waits_words [] = []
waits_words (l ∷ ls) = waits_words ls ++ (level_words l ++ (open' ∷ []))

abbrev pub stage_words : Stage Tree → List Word
stage_words s = waits_words s.waits ++ (level_words s.level ++ after_words s.after)

-- a product may open with a sign where no sum waits for it
abbrev lead_shape : Option (Left Tree) → Shape
lead_shape None = as_lead
lead_shape (Some l) = as_product

abbrev LawSums : ℕ → ℕ → Option (Left Tree) → Type 0
LawSums most n None = Unit {0}
LawSums most n (Some l) = (additive l.op ≡ true) × (stands most n as_sum l.value ≡ true)

abbrev LawProducts : ℕ → ℕ → Option (Left Tree) → Option (Left Tree) → Type 0
LawProducts most n s None = Unit {0}
LawProducts most n s (Some l) = (additive l.op ≡ false) × (stands most n (lead_shape s) l.value ≡ true)

abbrev LawSign : Option (Left Tree) → Option (Left Tree) → Option Op → Type 0
LawSign s p None = Unit {0}
LawSign s p (Some o) = (additive o ≡ true) × (s ≡ None) × (p ≡ None)

pub record LawLevel (most n : ℕ) (l : Level Tree) : Type 0 where
  pub sums : LawSums most n l.sums
  pub products : LawProducts most n l.sums l.products
  pub sign : LawSign l.sums l.products l.sign

abbrev LawAfter : ℕ → ℕ → Level Tree → Option Tree → Type 0
LawAfter most n l None = Unit {0}
LawAfter most n l (Some p) = (stands most n (lead_shape l.sums) p ≡ true) × (l.products ≡ None) × (l.sign ≡ None)

abbrev LawWaits : ℕ → List (Level Tree) → Type 0
LawWaits most [] = Unit {0}
LawWaits most (l ∷ ls) = LawLevel most (length ls) l × (ltb (length ls) most ≡ true) × LawWaits most ls

pub record Law (most : ℕ) (s : Stage Tree) : Type 0 where
  pub level : LawLevel most (length s.waits) s.level
  pub after : LawAfter most (length s.waits) s.level s.after
  pub waits : LawWaits most s.waits

-- a factor stands in every place
weaken : (most n : ℕ) (s : Shape) (t : Tree) → stands most n as_factor t ≡ true → stands most n s t ≡ true
weaken most n s (number ds) e = e
weaken most n s (name cs) e = e
weaken most n s (signed o t) e = no e
weaken most n s (applied Plus a b) e = no e
weaken most n s (applied Minus a b) e = no e
weaken most n s (applied Times a b) e = no e
weaken most n s (applied Over a b) e = no e
weaken most n s (group t) e = e

-- a product that may open with a sign is an expression
lead_sum : (most n : ℕ) (t : Tree) → stands most n as_lead t ≡ true → stands most n as_sum t ≡ true
lead_sum most n (number ds) e = e
lead_sum most n (name cs) e = e
lead_sum most n (signed o t) e = e
lead_sum most n (applied Plus a b) e = no e
lead_sum most n (applied Minus a b) e = no e
lead_sum most n (applied Times a b) e = e
lead_sum most n (applied Over a b) e = e
lead_sum most n (group t) e = e

-- a sum and its last product stand as an expression, and its words are theirs
sum_stands : (most n : ℕ) (s : Option (Left Tree)) (p : Tree) → LawSums most n s → stands most n (lead_shape s) p ≡ true → stands most n as_sum (join_with tree_walker s p) ≡ true
sum_stands most n None p l e = lead_sum most n p e
sum_stands most n (Some w) p l e =
    ap (λ z. cond z (true && (stands most n as_sum w.value && stands most n as_product p)) (true && (stands most n as_lead w.value && stands most n as_factor p))) l.0 ∙ and_true _ _ l.1 e

sum_words : (s : Option (Left Tree)) (p : Tree) → wait_words s ++ words_of p ≡ words_of (join_with tree_walker s p)
sum_words None p = refl
sum_words (Some l) p = append_assoc (words_of l.value) (operator l.op ∷ []) (words_of p)

times_stands : (most n : ℕ) (s : Option (Left Tree)) (a k : Tree) (o : Op) → additive o ≡ false → stands most n (lead_shape s) a ≡ true → stands most n as_factor k ≡ true → stands most n (lead_shape s) (applied o a k) ≡ true
times_stands most n None a k o f e g =
    ap (λ z. cond z (false && (stands most n as_sum a && stands most n as_product k)) (true && (stands most n as_lead a && stands most n as_factor k))) f ∙ and_true _ _ e g
times_stands most n (Some l) a k o f e g =
    ap (λ z. cond z (false && (stands most n as_sum a && stands most n as_product k)) (true && (stands most n as_product a && stands most n as_factor k))) f ∙ and_true _ _ e g

-- a factor on its level: the product stands, and its words are theirs
factor_stands : (most n : ℕ) (s p : Option (Left Tree)) (g : Option Op) (k : Tree) → LawProducts most n s p → LawSign s p g → stands most n as_factor k ≡ true
    → stands most n (lead_shape s) (join_with tree_walker p (sign_with tree_walker g k)) ≡ true
factor_stands most n s None None k lp lg e = weaken most n (lead_shape s) k e
factor_stands most n s None (Some o) k lp lg e =
    let P : Option (Left Tree) → Type 0 = λ x. stands most n (lead_shape x) (signed o k) ≡ true in
    subst P (sym lg.1) (and_true _ _ lg.0 e)
factor_stands most n s (Some l) None k lp lg e = times_stands most n s l.value k l.op lp.0 lp.1 e
factor_stands most n s (Some l) (Some q) k lp lg e = absurd (cc)

factor_words : (s p : Option (Left Tree)) (g : Option Op) (k : Tree) → LawSign s p g → (wait_words p ++ sign_words g) ++ words_of k ≡ words_of (join_with tree_walker p (sign_with tree_walker g k))
factor_words s None None k lg = refl
factor_words s None (Some o) k lg = refl
factor_words s (Some l) None k lg = ap (λ x. x ++ words_of k) (append-nil (words_of l.value ++ (operator l.op ∷ []))) ∙ append_assoc (words_of l.value) (operator l.op ∷ []) (words_of k)
factor_words s (Some l) (Some q) k lg = absurd (cc)

factored_law : (most : ℕ) (l : Level Tree) (k : Tree) (ws : List (Level Tree)) → LawLevel most (length ws) l → LawWaits most ws → stands most (length ws) as_factor k ≡ true → Law most (factored tree_walker l k ws)
factored_law most l k ws law waits e =
    record {
      level = record { sums = law.sums; products = tt; sign = tt };
      after = (factor_stands most (length ws) l.sums l.products l.sign k law.products law.sign e, refl, refl);
      waits = waits;
    }

factored_words : (most n : ℕ) (l : Level Tree) (k : Tree) (ws : List (Level Tree)) → LawLevel most n l → stage_words (factored tree_walker l k ws) ≡ waits_words ws ++ (level_words l ++ words_of k)
factored_words most n l k ws law =
    ap (λ x. waits_words ws ++ x)
    (ap (λ x. x ++ words_of (join_with tree_walker l.products (sign_with tree_walker l.sign k))) (append-nil (wait_words l.sums))
    ∙ (ap (λ x. wait_words l.sums ++ x) (sym (factor_words l.sums l.products l.sign k law.sign))
    ∙ sym (append_assoc (wait_words l.sums) (wait_words l.products ++ sign_words l.sign) (words_of k))))

after_words_kept : (most n : ℕ) (l : Level Tree) (p : Tree) → LawAfter most n l (Some p) → level_words l ++ words_of p ≡ words_of (join_with tree_walker l.sums p)
after_words_kept most n l p law =
    ap₂ (λ x y. (wait_words l.sums ++ (wait_words x ++ sign_words y)) ++ words_of p) law.1 law.2
    ∙ (ap (λ x. x ++ words_of p) (append-nil (wait_words l.sums)) ∙ sum_words l.sums p)

fresh_parts : (s p : Option (Left Tree)) (g : Option Op) → is_none s && (is_none p && is_none g) ≡ true → wait_words s ++ (wait_words p ++ sign_words g) ≡ []
fresh_parts None None None e = refl
fresh_parts None None (Some o) e = no e
fresh_parts None (Some l) g e = no e
fresh_parts (Some l) p g e = no e

-- a word that may be a factor by itself
abbrev pub word_ok : Word → Bool
word_ok (numeral ds) = digit_first ds && digits ds
word_ok (variable cs) = named cs
word_ok (operator o) = true
word_ok open' = true
word_ok close = true

pub record Kept (most : ℕ) (before : List Word) (x : Word) (s : Stage Tree) : Type 0 where
  pub law : Law most s
  pub words : stage_words s ≡ before ++ (x ∷ [])

regroup : (w l x : List Word) → w ++ (l ++ x) ≡ (w ++ (l ++ [])) ++ x
regroup w l x = ap (λ y. w ++ (y ++ x)) (sym (append-nil l)) ∙ sym (append_assoc w (l ++ []) x ∙ refl)

keep_factor : (most : ℕ) (l : Level Tree) (k : Tree) (ws : List (Level Tree)) (x : Word) (s : Stage Tree) → words_of k ≡ x ∷ [] → LawLevel most (length ws) l → LawWaits most ws
    → stands most (length ws) as_factor k ≡ true → Some (factored tree_walker l k ws) ≡ Some s → Kept most (waits_words ws ++ (level_words l ++ [])) x s
keep_factor most l k ws x s is law waits e f =
    let P : Stage Tree → Type 0 = Kept most (waits_words ws ++ (level_words l ++ [])) x in
    subst P (some_is _ s f)
    (record {
      law = factored_law most l k ws law waits e;
      words = factored_words most (length ws) l k ws law ∙ (ap (λ y. waits_words ws ++ (level_words l ++ y)) is ∙ regroup (waits_words ws) (level_words l) (x ∷ []));
    })

keep_sign : (most : ℕ) (l : Level Tree) (ws : List (Level Tree)) (o : Op) (s : Stage Tree) → LawWaits most ws
    → cond (is_fresh l && additive o) (Some (stage_of (level_of None None (Some o)) None ws)) None ≡ Some s → Kept most (waits_words ws ++ (level_words l ++ [])) (operator o) s
keep_sign most l ws o s waits f = go (is_fresh l && additive o) refl f
  where
    go : (z : Bool) → is_fresh l && additive o ≡ z → cond z (Some (stage_of (level_of None None (Some o)) None ws)) None ≡ Some s → Kept most (waits_words ws ++ (level_words l ++ [])) (operator o) s
    go true e g =
        let b = both (is_fresh l) (additive o) e in
        let P : Stage Tree → Type 0 = Kept most (waits_words ws ++ (level_words l ++ [])) (operator o) in
        let w : level_words l ≡ [] = fresh_parts l.sums l.products l.sign b.0 in
        subst P (some_is _ s g)
        (record {
          law = record { level = record { sums = tt; products = tt; sign = (b.1, refl, refl) }; after = tt; waits = waits };
          words = ap (λ y. waits_words ws ++ (y ++ (operator o ∷ []))) (sym w) ∙ regroup (waits_words ws) (level_words l) (operator o ∷ []);
        })
    go false e g = none_is s g

keep_open : (most : ℕ) (l : Level Tree) (ws : List (Level Tree)) (s : Stage Tree) → LawLevel most (length ws) l → LawWaits most ws
    → cond (ltb (length ws) most) (Some (stage_of fresh_level None (l ∷ ws))) None ≡ Some s → Kept most (waits_words ws ++ (level_words l ++ [])) open' s
keep_open most l ws s law waits f = go (ltb (length ws) most) refl f
  where
    go : (z : Bool) → ltb (length ws) most ≡ z → cond z (Some (stage_of fresh_level None (l ∷ ws))) None ≡ Some s → Kept most (waits_words ws ++ (level_words l ++ [])) open' s
    go true e g =
        let P : Stage Tree → Type 0 = Kept most (waits_words ws ++ (level_words l ++ [])) open' in
        subst P (some_is _ s g)
        (record {
          law = record { level = record { sums = tt; products = tt; sign = tt }; after = tt; waits = (law, e, waits) };
          words = append-nil (waits_words ws ++ (level_words l ++ (open' ∷ []))) ∙ regroup (waits_words ws) (level_words l) (open' ∷ []);
        })
    go false e g = none_is s g

keep_operator : (most : ℕ) (l : Level Tree) (p : Tree) (ws : List (Level Tree)) (o : Op) → LawLevel most (length ws) l → LawAfter most (length ws) l (Some p) → LawWaits most ws
    → Kept most (waits_words ws ++ (level_words l ++ words_of p)) (operator o) (stage_of (operated_level tree_walker l p o) None ws)
keep_operator most l p ws o law after waits = go (additive o) refl
  where
    go : (z : Bool) → additive o ≡ z
        → Kept most (waits_words ws ++ (level_words l ++ words_of p)) (operator o) (stage_of (cond z (level_of (Some (left_of (join_with tree_walker l.sums p) o)) None None) (level_of l.sums (Some (left_of p o)) None)) None ws)
    go true e =
        let t = join_with tree_walker l.sums p in
        record {
          law = record { level = record { sums = (e, sum_stands most (length ws) l.sums p law.sums after.0); products = tt; sign = tt }; after = tt; waits = waits };
          words = ap (λ y. waits_words ws ++ y) (append-nil ((words_of t ++ (operator o ∷ [])) ++ []) ∙ append-nil (words_of t ++ (operator o ∷ [])))
              ∙ (sym (append_assoc (waits_words ws) (words_of t) (operator o ∷ [])) ∙ ap (λ y. (waits_words ws ++ y) ++ (operator o ∷ [])) (sym (after_words_kept most (length ws) l p after)));
        }
    go false e =
        let t = join_with tree_walker l.sums p in
        record {
          law = record { level = record { sums = law.sums; products = (e, after.0); sign = tt }; after = tt; waits = waits };
          words = ap (λ y. waits_words ws ++ y)
              (append-nil (wait_words l.sums ++ ((words_of p ++ (operator o ∷ [])) ++ []))
              ∙ (ap (λ y. wait_words l.sums ++ y) (append-nil (words_of p ++ (operator o ∷ [])))
              ∙ (sym (append_assoc (wait_words l.sums) (words_of p) (operator o ∷ [])) ∙ ap (λ y. y ++ (operator o ∷ [])) (sum_words l.sums p))))
              ∙ (sym (append_assoc (waits_words ws) (words_of t) (operator o ∷ [])) ∙ ap (λ y. (waits_words ws ++ y) ++ (operator o ∷ [])) (sym (after_words_kept most (length ws) l p after)));
        }

keep_close : (most : ℕ) (l : Level Tree) (p : Tree) (ws : List (Level Tree)) (s : Stage Tree) → LawLevel most (length ws) l → LawAfter most (length ws) l (Some p) → LawWaits most ws
    → closing tree_walker (join_with tree_walker l.sums p) ws ≡ Some s → Kept most (waits_words ws ++ (level_words l ++ words_of p)) close s
keep_close most l p [] s law after waits f = none_is s f
keep_close most l p (m ∷ ws) s law after waits f =
    let t = join_with tree_walker l.sums p in
    let inner : stands most (suc (length ws)) as_sum t ≡ true = sum_stands most (suc (length ws)) l.sums p law.sums after.0 in
    let P : Stage Tree → Type 0 = Kept most (waits_words (m ∷ ws) ++ (level_words l ++ words_of p)) close in
    subst P (some_is _ s f)
    (record {
      law = factored_law most m (group t) ws waits.0 waits.2 (and_true _ _ waits.1 inner);
      words = factored_words most (length ws) m (group t) ws waits.0
          ∙ (close_words (waits_words ws) (level_words m) (open' ∷ []) (words_of t) (close ∷ [])
          ∙ ap (λ y. ((waits_words ws ++ (level_words m ++ (open' ∷ []))) ++ y) ++ (close ∷ [])) (sym (after_words_kept most (suc (length ws)) l p after)));
    })
  where
    close_words : (w l o t x : List Word) → w ++ (l ++ (o ++ (t ++ x))) ≡ ((w ++ (l ++ o)) ++ t) ++ x
    close_words w l o t x =
        ap (λ y. w ++ y) (sym (append_assoc l o (t ++ x))) ∙ (sym (append_assoc w (l ++ o) (t ++ x)) ∙ sym (append_assoc (w ++ (l ++ o)) t x))

keep_at : (most : ℕ) (l : Level Tree) (a : Option Tree) (ws : List (Level Tree)) (x : Word) (s : Stage Tree) → LawLevel most (length ws) l → LawAfter most (length ws) l a → LawWaits most ws → word_ok x ≡ true
    → step_at tree_walker most l a ws (tree_token x) ≡ Some s → Kept most (waits_words ws ++ (level_words l ++ after_words a)) x s
keep_at most l None ws (numeral ds) s law after waits ok f = keep_factor most l (number ds) ws (numeral ds) s refl law waits ok f
keep_at most l None ws (variable cs) s law after waits ok f = keep_factor most l (name cs) ws (variable cs) s refl law waits ok f
keep_at most l None ws (operator o) s law after waits ok f = keep_sign most l ws o s waits f
keep_at most l None ws open' s law after waits ok f = keep_open most l ws s law waits f
keep_at most l None ws close s law after waits ok f = none_is s f
keep_at most l (Some p) ws (numeral ds) s law after waits ok f = none_is s f
keep_at most l (Some p) ws (variable cs) s law after waits ok f = none_is s f
keep_at most l (Some p) ws (operator o) s law after waits ok f =
    let P : Stage Tree → Type 0 = Kept most (waits_words ws ++ (level_words l ++ words_of p)) (operator o) in
    subst P (some_is _ s f) (keep_operator most l p ws o law after waits)
keep_at most l (Some p) ws open' s law after waits ok f = none_is s f
keep_at most l (Some p) ws close s law after waits ok f = keep_close most l p ws s law after waits f

-- one word more is kept
pub keeps : (most : ℕ) (s t : Stage Tree) (x : Word) → Law most s → word_ok x ≡ true → step_of tree_walker most s (tree_token x) ≡ Some t → Kept most (stage_words s) x t
keeps most s t x law ok f = keep_at most s.level s.after s.waits x t law.level law.after law.waits ok f

pub start_law : (most : ℕ) → Law most start
start_law most = record { level = record { sums = tt; products = tt; sign = tt }; after = tt; waits = tt }

-- a walk that may end has a tree
pub ends_in_tree : (most : ℕ) (l : Level Tree) (p : Tree) → Law most (stage_of l (Some p) []) → (stands most 0 as_sum (join_with tree_walker l.sums p) ≡ true) × (words_of (join_with tree_walker l.sums p) ≡ stage_words (stage_of l (Some p) []))
ends_in_tree most l p law = (sum_stands most 0 l.sums p law.level.sums law.after.0, sym (after_words_kept most 0 l p law.after))
