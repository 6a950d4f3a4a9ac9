-- The steps of a loop that follows apostrophes and parentheses.
use Rattle.std.proofs.Common.{◌≡◌, ℕ, suc, ◌+◌, ◌<◌, ◌≤◌, true, false, ◌&&◌, eqb, List, ◌∷◌, length, get_or, drop, sym, refl, ap, ◌∙◌, arith}
use Rattle.std.proofs.lemmas.List.{drop_more, drop_all}
use Rattle.lines.specs.declared.nest.Nest.{Nest}
use Rattle.lines.specs.Nesting.{past, past_all, outside, end_by}

pub end_found : (stop : ℕ) (s : Nest) (bs : List ℕ) (i e : ℕ) → i < length bs → (eqb (get_or bs i 0) stop && outside s) ≡ true
    → i + end_by stop s (drop i bs) ≡ e → i ≡ e
end_found stop s bs i e h t q =
    let d = ap (end_by stop s) (drop_more bs i 0 h) in
    let z : end_by stop s (get_or bs i 0 ∷ drop (i + 1) bs) ≡ 0 = rw t refl in
    omega (arith, d, z)

pub end_more : (stop : ℕ) (s s' : Nest) (bs : List ℕ) (i e : ℕ) → i < length bs → (eqb (get_or bs i 0) stop && outside s) ≡ false → s' ≡ past s (get_or bs i 0)
    → i + end_by stop s (drop i bs) ≡ e → (i + 1) + end_by stop s' (drop (i + 1) bs) ≡ e
end_more stop s s' bs i e h t n q =
    let d = ap (end_by stop s) (drop_more bs i 0 h) in
    let z : end_by stop s (get_or bs i 0 ∷ drop (i + 1) bs) ≡ suc (end_by stop (past s (get_or bs i 0)) (drop (i + 1) bs)) = rw t refl in
    let w = ap (λ x. end_by stop x (drop (i + 1) bs)) n in
    omega (arith, d, z, w)

pub end_all : (stop : ℕ) (s : Nest) (bs : List ℕ) (i e : ℕ) → length bs ≤ i → i + end_by stop s (drop i bs) ≡ e → i ≡ e
end_all stop s bs i e h q = let d = ap (end_by stop s) (drop_all i bs h) in omega (arith, d)

pub past_more : (s s' e : Nest) (bs : List ℕ) (i : ℕ) → i < length bs → s' ≡ past s (get_or bs i 0) → past_all s (drop i bs) ≡ e → past_all s' (drop (i + 1) bs) ≡ e
past_more s s' e bs i h n q = ap (λ x. past_all x (drop (i + 1) bs)) n ∙ sym (ap (past_all s) (drop_more bs i 0 h)) ∙ q

pub past_end : (s e : Nest) (bs : List ℕ) (i : ℕ) → length bs ≤ i → past_all s (drop i bs) ≡ e → s ≡ e
past_end s e bs i h q = sym (ap (past_all s) (drop_all i bs h)) ∙ q
