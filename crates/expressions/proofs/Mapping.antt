-- A walk in a kind of number is the walk to trees, with their values.
use Rattle.std.specs.Prelude.{is_none}
use Rattle.std.specs.Option.{option_map}
use Rattle.std.proofs.Common.{◌≡◌, ℕ, Bool, true, false, cond, ◌&&◌, ltb, List, [], ◌∷◌, map, length, Some, None, Option, refl, ap, ◌∙◌, ap₂}
use Rattle.std.proofs.lemmas.List.{length-map}
use Rattle.expressions.specs.declared.level.Op.{Op}
use Rattle.expressions.specs.declared.level.Left.{Left}
use Rattle.expressions.specs.declared.level.Level.{Level}
use Rattle.expressions.specs.declared.level.Token.{Token}
use Rattle.expressions.specs.declared.level.Token.TheVariants.{Factor, Operator, Open, Close}
use Rattle.expressions.specs.Kinds.{Operations}
use Rattle.expressions.specs.Pieces.{Table}
use Rattle.expressions.specs.Trees.{Tree, group, Word, numeral, variable, operator, open', close, additive, value_in}
use Rattle.expressions.specs.Walks.{walker_of, join_with, sign_with, left_of, level_of, fresh_level, is_fresh, Stage, stage_of, factored, closing, operated_level, step_at, step_of, token_in}
use Rattle.expressions.proofs.Parsing.{tree_walker, tree_token}

abbrev pub map_w : {X Y : Type 0} → (X → Y) → Option (Left X) → Option (Left Y)
map_w f None = None
map_w f (Some l) = Some (left_of (f l.value) l.op)

abbrev pub map_l : {X Y : Type 0} → (X → Y) → Level X → Level Y
map_l f l = level_of (map_w f l.sums) (map_w f l.products) l.sign

abbrev pub map_s : {X Y : Type 0} → (X → Y) → Stage X → Stage Y
map_s f s = stage_of (map_l f s.level) (option_map f s.after) (map (map_l f) s.waits)

abbrev pub map_t : {X Y : Type 0} → (X → Y) → Token X → Token Y
map_t f (Factor x) = Factor (f x)
map_t f (Operator o) = Operator o
map_t f Open = Open
map_t f Close = Close

pub join_map : {V : Type 0} (k : Operations V) (σ : Table) (w : Option (Left Tree)) (t : Tree) → join_with (walker_of k) (map_w (value_in k σ) w) (value_in k σ t) ≡ value_in k σ (join_with tree_walker w t)
join_map k σ None t = refl
join_map k σ (Some l) t = refl

sign_map : {V : Type 0} (k : Operations V) (σ : Table) (g : Option Op) (t : Tree) → sign_with (walker_of k) g (value_in k σ t) ≡ value_in k σ (sign_with tree_walker g t)
sign_map k σ None t = refl
sign_map k σ (Some o) t = refl

factored_map : {V : Type 0} (k : Operations V) (σ : Table) (l : Level Tree) (t : Tree) (ws : List (Level Tree))
    → factored (walker_of k) (map_l (value_in k σ) l) (value_in k σ t) (map (map_l (value_in k σ)) ws) ≡ map_s (value_in k σ) (factored tree_walker l t ws)
factored_map k σ l t ws =
    let f = value_in k σ in
    ap (λ v. stage_of (level_of (map_w f l.sums) None None) (Some v) (map (map_l f) ws))
    (ap (join_with (walker_of k) (map_w f l.products)) (sign_map k σ l.sign t) ∙ join_map k σ l.products (sign_with tree_walker l.sign t))

nothing_map : {X Y : Type 0} (f : X → Y) (w : Option (Left X)) → is_none (map_w f w) ≡ is_none w
nothing_map f None = refl
nothing_map f (Some l) = refl

fresh_map : {X Y : Type 0} (f : X → Y) (l : Level X) → is_fresh (map_l f l) ≡ is_fresh l
fresh_map f l = ap₂ (λ x y. x && (y && is_none l.sign)) (nothing_map f l.sums) (nothing_map f l.products)

cond_map : {X Y : Type 0} (f : X → Y) (z : Bool) (x : X) → cond z (Some (f x)) None ≡ option_map f (cond z (Some x) None)
cond_map f true x = refl
cond_map f false x = refl

operated_map : {V : Type 0} (k : Operations V) (σ : Table) (l : Level Tree) (p : Tree) (o : Op) → operated_level (walker_of k) (map_l (value_in k σ) l) (value_in k σ p) o ≡ map_l (value_in k σ) (operated_level tree_walker l p o)
operated_map k σ l p o = go (additive o)
  where
    go : (z : Bool) → cond z (level_of (Some (left_of (join_with (walker_of k) (map_w (value_in k σ) l.sums) (value_in k σ p)) o)) None None) (level_of (map_w (value_in k σ) l.sums) (Some (left_of (value_in k σ p) o)) None)
        ≡ map_l (value_in k σ) (cond z (level_of (Some (left_of (join_with tree_walker l.sums p) o)) None None) (level_of l.sums (Some (left_of p o)) None))
    go true = ap (λ v. level_of (Some (left_of v o)) None None) (join_map k σ l.sums p)
    go false = refl

close_map : {V : Type 0} (k : Operations V) (σ : Table) (t : Tree) (ws : List (Level Tree)) → closing (walker_of k) (value_in k σ t) (map (map_l (value_in k σ)) ws) ≡ option_map (map_s (value_in k σ)) (closing tree_walker t ws)
close_map k σ t [] = refl
close_map k σ t (l ∷ ws) = ap Some (factored_map k σ l (group t) ws)

step_at_map : {V : Type 0} (k : Operations V) (σ : Table) (most : ℕ) (l : Level Tree) (a : Option Tree) (ws : List (Level Tree)) (t : Token Tree)
    → step_at (walker_of k) most (map_l (value_in k σ) l) (option_map (value_in k σ) a) (map (map_l (value_in k σ)) ws) (map_t (value_in k σ) t) ≡ option_map (map_s (value_in k σ)) (step_at tree_walker most l a ws t)
step_at_map k σ most l None ws (Factor x) = ap Some (factored_map k σ l x ws)
step_at_map k σ most l None ws (Operator o) =
    let f = value_in k σ in
    ap (λ z. cond (z && additive o) (Some (stage_of (level_of None None (Some o)) None (map (map_l f) ws))) None) (fresh_map f l) ∙ cond_map (map_s f) (is_fresh l && additive o) (stage_of (level_of None None (Some o)) None ws)
step_at_map k σ most l None ws Open =
    let f = value_in k σ in
    ap (λ n. cond (ltb n most) (Some (stage_of fresh_level None (map_l f l ∷ map (map_l f) ws))) None) (length-map ws (map_l f)) ∙ cond_map (map_s f) (ltb (length ws) most) (stage_of fresh_level None (l ∷ ws))
step_at_map k σ most l None ws Close = refl
step_at_map k σ most l (Some p) ws (Factor x) = refl
step_at_map k σ most l (Some p) ws (Operator o) = ap (λ x. Some (stage_of x None (map (map_l (value_in k σ)) ws))) (operated_map k σ l p o)
step_at_map k σ most l (Some p) ws Open = refl
step_at_map k σ most l (Some p) ws Close =
    ap (λ v. closing (walker_of k) v (map (map_l (value_in k σ)) ws)) (join_map k σ l.sums p) ∙ close_map k σ (join_with tree_walker l.sums p) ws

token_map : {V : Type 0} (k : Operations V) (σ : Table) (x : Word) → token_in k σ x ≡ map_t (value_in k σ) (tree_token x)
token_map k σ (numeral ds) = refl
token_map k σ (variable cs) = refl
token_map k σ (operator o) = refl
token_map k σ open' = refl
token_map k σ close = refl

-- one word does the same to both
pub step_map : {V : Type 0} (k : Operations V) (σ : Table) (most : ℕ) (s : Stage Tree) (x : Word) → step_of (walker_of k) most (map_s (value_in k σ) s) (token_in k σ x) ≡ option_map (map_s (value_in k σ)) (step_of tree_walker most s (tree_token x))
step_map k σ most s x = ap (step_of (walker_of k) most (map_s (value_in k σ) s)) (token_map k σ x) ∙ step_at_map k σ most s.level s.after s.waits (tree_token x)
