-- Steps, one after the other.
use Rattle.std.proofs.Common.{◌≡◌, ℕ, zero, suc, ◌+◌, sym, refl, ap, ◌∙◌, suc-add, zero-add}
use Rattle.sources.specs.Meaning.{iterate, Remains, pay, spend, Paced}

-- n steps and then k are n + k
pub iterate_joins : {A : Type 0} (f : A → A) (n k : ℕ) (x : A) → iterate f k (iterate f n x) ≡ iterate f (n + k) x
iterate_joins f zero k x = ap (λ j. iterate f j x) (sym (zero-add k))
iterate_joins f (suc n) k x = iterate_joins f n k (f x) ∙ ap (λ j. iterate f j x) (sym (suc-add n k))

-- what is kept after n steps means what remains after n steps
pub paced_spend : {K : Type 0} (meaning : K → Remains) (tick : K → K) → Paced meaning tick → (n : ℕ) (k : K) → meaning (iterate tick n k) ≡ spend (meaning k) n
paced_spend meaning tick p zero k = refl
paced_spend meaning tick p (suc n) k = paced_spend meaning tick p n (tick k) ∙ ap (iterate pay n) (p k)
