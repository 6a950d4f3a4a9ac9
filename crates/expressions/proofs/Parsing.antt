-- Walks over trees: a walk keeps the words that it read, and reads every tree that stands.
use Rattle.std.proofs.Common.{◌≡◌, ℕ, suc, Bool, true, false, cond, ◌&&◌, ltb, List, [], ◌∷◌, ◌++◌, length, Some, None, Option, sym, refl, ap, ◌∙◌, subst, append_assoc}
use Rattle.std.specs.Option.{option_and_then}
use Rattle.std.proofs.lemmas.List.{append-nil}
use Rattle.expressions.specs.declared.level.Op.{Op}
use Rattle.expressions.specs.declared.level.Op.TheVariants.{Plus, Minus, Times, Over}
use Rattle.expressions.specs.declared.level.Left.{Left}
use Rattle.expressions.specs.declared.level.Level.{Level}
use Rattle.expressions.specs.declared.level.Token.{Token}
use Rattle.expressions.specs.declared.level.Token.TheVariants.{Factor, Operator, Open, Close}
use Rattle.expressions.specs.Trees.{Tree, number, name, signed, applied, group, Word, numeral, variable, operator, open', close, words_of, additive, Shape, as_sum, as_lead, as_product, as_factor, stands}
use Rattle.expressions.specs.Walks.{Walker, join_with, left_of, level_of, fresh_level, Stage, stage_of, factored, operated_level, step_of}
use Rattle.expressions.proofs.Starts.{both}

pub no : {X : Type 0} → false ≡ true → X
no e = absurd (cc)

-- the walk that makes trees
abbrev pub tree_walker : Walker Tree
tree_walker = record { signed = signed; applied = applied; group = group }

abbrev pub tree_token : Word → Token Tree
tree_token (numeral ds) = Factor (number ds)
tree_token (variable cs) = Factor (name cs)
tree_token (operator o) = Operator o
tree_token open' = Open
tree_token close = Close

-- a walk over words, to trees
abbrev pub runs : ℕ → Stage Tree → List Word → Option (Stage Tree)
runs most s [] = Some s
runs most s (x ∷ xs) = option_and_then (λ t. runs most t xs) (step_of tree_walker most s (tree_token x))

pub runs_append : (most : ℕ) (s : Stage Tree) (xs ys : List Word) → runs most s (xs ++ ys) ≡ option_and_then (λ t. runs most t ys) (runs most s xs)
runs_append most s [] ys = refl
runs_append most s (x ∷ xs) ys = go (step_of tree_walker most s (tree_token x)) (λ t. runs_append most t xs ys)
  where
    go : (o : Option (Stage Tree)) → ((t : Stage Tree) → runs most t (xs ++ ys) ≡ option_and_then (λ u. runs most u ys) (runs most t xs))
        → option_and_then (λ t. runs most t (xs ++ ys)) o ≡ option_and_then (λ u. runs most u ys) (option_and_then (λ t. runs most t xs) o)
    go None f = refl
    go (Some t) f = f t

-- the first of a sum's last product and what waits for it
abbrev pub sums_of : Tree → Option (Left Tree)
sums_of (number ds) = None
sums_of (name cs) = None
sums_of (signed o t) = None
sums_of (applied o a b) = cond (additive o) (Some (left_of a o)) None
sums_of (group t) = None

abbrev pub last_of : Tree → Tree
last_of (number ds) = number ds
last_of (name cs) = name cs
last_of (signed o t) = signed o t
last_of (applied o a b) = cond (additive o) b (applied o a b)
last_of (group t) = group t

pub rejoins : (t : Tree) → join_with tree_walker (sums_of t) (last_of t) ≡ t
rejoins (number ds) = refl
rejoins (name cs) = refl
rejoins (signed o t) = refl
rejoins (applied Plus a b) = refl
rejoins (applied Minus a b) = refl
rejoins (applied Times a b) = refl
rejoins (applied Over a b) = refl
rejoins (group t) = refl

-- a walk that comes to the place of a tree goes on after it
abbrev Reached : ℕ → Shape → Tree → Type 0
Reached most as_factor t = (ws : List (Level Tree)) → stands most (length ws) as_factor t ≡ true → (l : Level Tree) (rest : List Word)
    → runs most (stage_of l None ws) (words_of t ++ rest) ≡ runs most (factored tree_walker l t ws) rest
Reached most as_product t = (ws : List (Level Tree)) → stands most (length ws) as_product t ≡ true → (s : Option (Left Tree)) (rest : List Word)
    → runs most (stage_of (level_of s None None) None ws) (words_of t ++ rest) ≡ runs most (stage_of (level_of s None None) (Some t) ws) rest
Reached most as_lead t = (ws : List (Level Tree)) → stands most (length ws) as_lead t ≡ true → (rest : List Word)
    → runs most (stage_of fresh_level None ws) (words_of t ++ rest) ≡ runs most (stage_of fresh_level (Some t) ws) rest
Reached most as_sum t = (ws : List (Level Tree)) → stands most (length ws) as_sum t ≡ true → (rest : List Word)
    → runs most (stage_of fresh_level None ws) (words_of t ++ rest) ≡ runs most (stage_of (level_of (sums_of t) None None) (Some (last_of t)) ws) rest

signed_lead : (most : ℕ) (o : Op) (t : Tree) → Reached most as_factor t → (ws : List (Level Tree)) → additive o && stands most (length ws) as_factor t ≡ true → (rest : List Word)
    → runs most (stage_of fresh_level None ws) (operator o ∷ (words_of t ++ rest)) ≡ runs most (stage_of fresh_level (Some (signed o t)) ws) rest
signed_lead most Plus t f ws e rest = f ws e (level_of None None (Some Plus)) rest
signed_lead most Minus t f ws e rest = f ws e (level_of None None (Some Minus)) rest
signed_lead most Times t f ws e rest = no e
signed_lead most Over t f ws e rest = no e

group_factor : (most : ℕ) (t : Tree) → Reached most as_sum t → Reached most as_factor (group t)
group_factor most t f ws e l rest =
    let b = both (ltb (length ws) most) (stands most (suc (length ws)) as_sum t) e in
    let P : Bool → Type 0 = λ z. option_and_then (λ s. runs most s ((words_of t ++ (close ∷ [])) ++ rest)) (cond z (Some (stage_of fresh_level None (l ∷ ws))) None) ≡ runs most (factored tree_walker l (group t) ws) rest in
    subst P (sym b.0)
    (ap (runs most (stage_of fresh_level None (l ∷ ws))) (append_assoc (words_of t) (close ∷ []) rest)
    ∙ (f (l ∷ ws) b.1 (close ∷ rest) ∙ ap (λ x. runs most (factored tree_walker l (group x) ws) rest) (rejoins t)))

apart : (a b : Tree) (o : Op) (rest : List Word) → (words_of a ++ (operator o ∷ words_of b)) ++ rest ≡ words_of a ++ (operator o ∷ (words_of b ++ rest))
apart a b o rest = append_assoc (words_of a) (operator o ∷ words_of b) rest

-- + and - after a sum
plus_sum : (most : ℕ) (o : Op) (a b : Tree) → additive o ≡ true → Reached most as_sum a → Reached most as_product b → (ws : List (Level Tree))
    → stands most (length ws) as_sum a && stands most (length ws) as_product b ≡ true → (rest : List Word)
    → runs most (stage_of fresh_level None ws) ((words_of a ++ (operator o ∷ words_of b)) ++ rest) ≡ runs most (stage_of (level_of (Some (left_of a o)) None None) (Some b) ws) rest
plus_sum most o a b add fa fb ws e rest =
    let p = both (stands most (length ws) as_sum a) (stands most (length ws) as_product b) e in
    let s = level_of (sums_of a) None None in
    let l : operated_level tree_walker s (last_of a) o ≡ level_of (Some (left_of a o)) None None =
    ap (λ z. cond z (level_of (Some (left_of (join_with tree_walker (sums_of a) (last_of a)) o)) None None) (level_of (sums_of a) (Some (left_of (last_of a) o)) None)) add ∙ ap (λ x. level_of (Some (left_of x o)) None None) (rejoins a) in
    ap (runs most (stage_of fresh_level None ws)) (apart a b o rest)
    ∙ (fa ws p.0 (operator o ∷ (words_of b ++ rest))
    ∙ (ap (λ x. runs most (stage_of x None ws) (words_of b ++ rest)) l
    ∙ fb ws p.1 (Some (left_of a o)) rest))

-- * and / after a product, on a level with these sums
times_on : (most : ℕ) (o : Op) (a b : Tree) (s : Option (Left Tree)) → additive o ≡ false → Reached most as_factor b → (ws : List (Level Tree)) → stands most (length ws) as_factor b ≡ true
    → ((rest : List Word) → runs most (stage_of (level_of s None None) None ws) (words_of a ++ rest) ≡ runs most (stage_of (level_of s None None) (Some a) ws) rest) → (rest : List Word)
    → runs most (stage_of (level_of s None None) None ws) ((words_of a ++ (operator o ∷ words_of b)) ++ rest) ≡ runs most (stage_of (level_of s None None) (Some (applied o a b)) ws) rest
times_on most o a b s mul fb ws e fa rest =
    let l : operated_level tree_walker (level_of s None None) a o ≡ level_of s (Some (left_of a o)) None =
    ap (λ z. cond z (level_of (Some (left_of (join_with tree_walker s a) o)) None None) (level_of s (Some (left_of a o)) None)) mul in
    ap (runs most (stage_of (level_of s None None) None ws)) (apart a b o rest)
    ∙ (fa (operator o ∷ (words_of b ++ rest))
    ∙ (ap (λ x. runs most (stage_of x None ws) (words_of b ++ rest)) l
    ∙ fb ws e (level_of s (Some (left_of a o)) None) rest))

times_product : (most : ℕ) (o : Op) (a b : Tree) → additive o ≡ false → Reached most as_product a → Reached most as_factor b → (ws : List (Level Tree))
    → stands most (length ws) as_product a && stands most (length ws) as_factor b ≡ true → (s : Option (Left Tree)) (rest : List Word)
    → runs most (stage_of (level_of s None None) None ws) ((words_of a ++ (operator o ∷ words_of b)) ++ rest) ≡ runs most (stage_of (level_of s None None) (Some (applied o a b)) ws) rest
times_product most o a b mul fa fb ws e s rest =
    let p = both (stands most (length ws) as_product a) (stands most (length ws) as_factor b) e in
    times_on most o a b s mul fb ws p.1 (fa ws p.0 s) rest

times_lead : (most : ℕ) (o : Op) (a b : Tree) → additive o ≡ false → Reached most as_lead a → Reached most as_factor b → (ws : List (Level Tree))
    → stands most (length ws) as_lead a && stands most (length ws) as_factor b ≡ true → (rest : List Word)
    → runs most (stage_of fresh_level None ws) ((words_of a ++ (operator o ∷ words_of b)) ++ rest) ≡ runs most (stage_of fresh_level (Some (applied o a b)) ws) rest
times_lead most o a b mul fa fb ws e rest =
    let p = both (stands most (length ws) as_lead a) (stands most (length ws) as_factor b) e in
    times_on most o a b None mul fb ws p.1 (fa ws p.0) rest

pub reached : (most : ℕ) (t : Tree) (s : Shape) → Reached most s t
reached most (number ds) as_factor = λ ws e l rest. refl
reached most (number ds) as_product = λ ws e l rest. refl
reached most (number ds) as_lead = λ ws e rest. refl
reached most (number ds) as_sum = λ ws e rest. refl
reached most (name cs) as_factor = λ ws e l rest. refl
reached most (name cs) as_product = λ ws e l rest. refl
reached most (name cs) as_lead = λ ws e rest. refl
reached most (name cs) as_sum = λ ws e rest. refl
reached most (signed o t) as_factor = λ ws e l rest. no e
reached most (signed o t) as_product = λ ws e l rest. no e
reached most (signed o t) as_lead = λ ws e rest. signed_lead most o t (reached most t as_factor) ws e rest
reached most (signed o t) as_sum = λ ws e rest. signed_lead most o t (reached most t as_factor) ws e rest
reached most (applied Plus a b) as_factor = λ ws e l rest. no e
reached most (applied Plus a b) as_product = λ ws e l rest. no e
reached most (applied Plus a b) as_lead = λ ws e rest. no e
reached most (applied Plus a b) as_sum = λ ws e rest. plus_sum most Plus a b refl (reached most a as_sum) (reached most b as_product) ws e rest
reached most (applied Minus a b) as_factor = λ ws e l rest. no e
reached most (applied Minus a b) as_product = λ ws e l rest. no e
reached most (applied Minus a b) as_lead = λ ws e rest. no e
reached most (applied Minus a b) as_sum = λ ws e rest. plus_sum most Minus a b refl (reached most a as_sum) (reached most b as_product) ws e rest
reached most (applied Times a b) as_factor = λ ws e l rest. no e
reached most (applied Times a b) as_product = λ ws e l rest. times_product most Times a b refl (reached most a as_product) (reached most b as_factor) ws e l rest
reached most (applied Times a b) as_lead = λ ws e rest. times_lead most Times a b refl (reached most a as_lead) (reached most b as_factor) ws e rest
reached most (applied Times a b) as_sum = λ ws e rest. times_lead most Times a b refl (reached most a as_lead) (reached most b as_factor) ws e rest
reached most (applied Over a b) as_factor = λ ws e l rest. no e
reached most (applied Over a b) as_product = λ ws e l rest. times_product most Over a b refl (reached most a as_product) (reached most b as_factor) ws e l rest
reached most (applied Over a b) as_lead = λ ws e rest. times_lead most Over a b refl (reached most a as_lead) (reached most b as_factor) ws e rest
reached most (applied Over a b) as_sum = λ ws e rest. times_lead most Over a b refl (reached most a as_lead) (reached most b as_factor) ws e rest
reached most (group t) as_factor = group_factor most t (reached most t as_sum)
reached most (group t) as_product = λ ws e s rest. group_factor most t (reached most t as_sum) ws e (level_of s None None) rest
reached most (group t) as_lead = λ ws e rest. group_factor most t (reached most t as_sum) ws e fresh_level rest
reached most (group t) as_sum = λ ws e rest. group_factor most t (reached most t as_sum) ws e fresh_level rest

abbrev pub start : Stage Tree
start = stage_of fresh_level None []

-- a walk reads a whole tree
pub runs_tree : (most : ℕ) (t : Tree) → stands most 0 as_sum t ≡ true → runs most start (words_of t) ≡ Some (stage_of (level_of (sums_of t) None None) (Some (last_of t)) [])
runs_tree most t e = ap (runs most start) (sym (append-nil (words_of t))) ∙ reached most t as_sum [] e []

abbrev total_at : Option (Left Tree) → Option Tree → Tree
total_at w None = number []
total_at w (Some p) = join_with tree_walker w p

abbrev total_of : Option (Stage Tree) → Tree
total_of None = number []
total_of (Some s) = total_at s.level.sums s.after

-- words are of at most one tree
pub same_tree : (most : ℕ) (t u : Tree) → stands most 0 as_sum t ≡ true → stands most 0 as_sum u ≡ true → words_of t ≡ words_of u → t ≡ u
same_tree most t u st su e =
    sym (rejoins t) ∙ (ap total_of (sym (runs_tree most t st) ∙ (ap (runs most start) e ∙ runs_tree most u su)) ∙ rejoins u)
