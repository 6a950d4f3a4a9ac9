-- Steps spent on what remains, by prices.
use Rattle.std.proofs.Common.{◌≡◌, ℕ, zero, suc, pred, ◌+◌, ◌-◌, ◌<◌, ◌≤◌, Bool, true, false, cond, leb, List, [], ◌∷◌, ◌++◌, map, length, take, sym, refl, ap, ◌∙◌, subst, arith}
use Rattle.std.proofs.lemmas.Bool.{leb-true, leb-false, le-leb, lt-leb}
use Rattle.sources.specs.Faults.{Ending}
use Rattle.sources.specs.Meaning.{Priced, Remains, remaining, price, Untold, pay, spend, iterate, next_price}
use Rattle.sources.proofs.Paying.{iterate_joins}
use Rattle.piles.specs.Prices.{cost, total, through_of, left, Longest}

-- the lines that n steps pay for
abbrev pub handed_by : List Priced → ℕ → List (List ℕ)
handed_by [] n = []
handed_by (p ∷ ps) n = cond (leb (price p) n) (p.text ∷ handed_by ps (n - price p)) []

pub spend_end : (e : Ending) (d n : ℕ) → spend (remaining [] e d) n ≡ remaining [] e (d - n)
unfolding pay
spend_end e d zero = ap (remaining [] e) (omega arith)
spend_end e d (suc n) = spend_end e (pred d) n ∙ ap (remaining [] e) (omega arith)

pub spend_short : (n b : ℕ) (t : List ℕ) (ps : List Priced) (e : Ending) (d : ℕ) → n ≤ b
    → spend (remaining (record { text = t; beyond = b } ∷ ps) e d) n ≡ remaining (record { text = t; beyond = b - n } ∷ ps) e d
unfolding pay
spend_short zero b t ps e d h = ap (λ x. remaining (record { text = t; beyond = x } ∷ ps) e d) (omega arith)
spend_short (suc n) zero t ps e d h = absurd (omega arith)
spend_short (suc n) (suc b) t ps e d h =
    spend_short n b t ps e d (omega arith) ∙ ap (λ x. remaining (record { text = t; beyond = x } ∷ ps) e d) (omega arith)

pub spend_whole : (b : ℕ) (t : List ℕ) (ps : List Priced) (e : Ending) (d : ℕ) → spend (remaining (record { text = t; beyond = b } ∷ ps) e d) (suc b) ≡ remaining ps e d
unfolding pay
spend_whole zero t ps e d = refl
spend_whole (suc b) t ps e d = spend_whole b t ps e d

pub spend_past : (p : Priced) (ps : List Priced) (e : Ending) (d n : ℕ) → price p ≤ n
    → spend (remaining (p ∷ ps) e d) n ≡ spend (remaining ps e d) (n - price p)
spend_past p ps e d n h =
    let s : price p + (n - price p) ≡ n = omega arith in
    ap (spend (remaining (p ∷ ps) e d)) (sym s)
    ∙ sym (iterate_joins pay (price p) (n - price p) (remaining (p ∷ ps) e d))
    ∙ ap (iterate pay (n - price p)) (spend_whole p.beyond p.text ps e d)

-- what n steps leave, by cases: no line, a first line not yet paid for, or a first line paid for and then the rest
module _ (e : Ending) (d : ℕ) (P : List Priced → ℕ → Remains → Type 0)
    (none : (n : ℕ) → P [] n (remaining [] e (d - n)))
    (short : (p : Priced) (ps : List Priced) (n : ℕ) → n < price p → P (p ∷ ps) n (remaining (record { text = p.text; beyond = p.beyond - n } ∷ ps) e d))
    (past : (p : Priced) (ps : List Priced) (n : ℕ) → price p ≤ n → P ps (n - price p) (spend (remaining ps e d) (n - price p)) → P (p ∷ ps) n (spend (remaining ps e d) (n - price p)))
  where
    pub spend_cases : (ps : List Priced) (n : ℕ) → P ps n (spend (remaining ps e d) n)
    spend_cases [] n = subst (P [] n) (sym (spend_end e d n)) (none n)
    spend_cases (p ∷ ps) n = go (leb (price p) n) refl (spend_cases ps (n - price p))
      where
        go : (z : Bool) → leb (price p) n ≡ z → P ps (n - price p) (spend (remaining ps e d) (n - price p)) → P (p ∷ ps) n (spend (remaining (p ∷ ps) e d) n)
        go true t ih = let w = leb-true (price p) n t in subst (P (p ∷ ps) n) (sym (spend_past p ps e d n w)) (past p ps n w ih)
        go false t ih =
            let w = leb-false (price p) n t in
            subst (P (p ∷ ps) n) (sym (spend_short n p.beyond p.text ps e d (omega arith))) (short p ps n w)

-- what is left of the price is the price next
pub left_is : (m : Remains) (n : ℕ) → left m n ≡ next_price (spend m n)
unfolding left
left_is m n = spend_cases m.ending m.due (λ ps k x. through_of ps m.due k - k ≡ next_price x)
    (λ k. refl)
    (λ p ps k w. let t : leb (price p) k ≡ false = lt-leb (price p) k w in simp t (omega arith))
    (λ p ps k w ih. let t : leb (price p) k ≡ true = le-leb (price p) k w in simp t (omega (arith, ih)))
    m.lines n

-- the prices that remain
pub total_spend : (m : Remains) (n : ℕ) → total (spend m n) ≡ total m - n
total_spend m n = spend_cases m.ending m.due (λ ps k x. total x ≡ cost ps + m.due - k)
    (λ k. omega arith)
    (λ p ps k w. omega arith)
    (λ p ps k w ih. omega (arith, ih))
    m.lines n

pub untold_spend : (m : Remains) (n : ℕ) → Untold m → n < total m → Untold (spend m n)
untold_spend m n h w = spend_cases m.ending m.due (λ ps k x. k < cost ps + m.due → Untold x)
    (λ k l. omega arith)
    (λ p ps k w l. h)
    (λ p ps k w ih l. ih (omega arith))
    m.lines n w

handed_short : (p : Priced) (ps : List Priced) (j k : ℕ) → j < price p
    → handed_by (p ∷ ps) (j + k) ≡ handed_by (p ∷ ps) j ++ handed_by (record { text = p.text; beyond = p.beyond - j } ∷ ps) k
handed_short p ps j k w =
    let t : leb (price p) j ≡ false = lt-leb (price p) j w in
    go (leb (price p) (j + k)) refl t
  where
    go : (z : Bool) → leb (price p) (j + k) ≡ z → leb (price p) j ≡ false
        → handed_by (p ∷ ps) (j + k) ≡ handed_by (p ∷ ps) j ++ handed_by (record { text = p.text; beyond = p.beyond - j } ∷ ps) k
    go true u t =
        let l = leb-true (price p) (j + k) u in
        let v : leb (suc (p.beyond - j)) k ≡ true = le-leb (suc (p.beyond - j)) k (omega arith) in
        let s : (j + k) - price p ≡ k - suc (p.beyond - j) = omega arith in
        simp (u, t, v, s)
    go false u t =
        let l = leb-false (price p) (j + k) u in
        let v : leb (suc (p.beyond - j)) k ≡ false = lt-leb (suc (p.beyond - j)) k (omega arith) in
        simp (u, t, v)

-- n steps and then k pay for what n pay for, and then for what k pay for
pub handed_joins : (m : Remains) (n k : ℕ) → handed_by m.lines (n + k) ≡ handed_by m.lines n ++ handed_by (spend m n).lines k
handed_joins m n k = spend_cases m.ending m.due (λ ps j x. handed_by ps (j + k) ≡ handed_by ps j ++ handed_by x.lines k)
    (λ j. refl)
    (λ p ps j w. handed_short p ps j k w)
    (λ p ps j w ih.
    let t : leb (price p) j ≡ true = le-leb (price p) j w in
    let u : leb (price p) (j + k) ≡ true = le-leb (price p) (j + k) (omega arith) in
    let s : (j + k) - price p ≡ (j - price p) + k = omega arith in
    simp (t, u, s) (ap (λ ts. p.text ∷ ts) ih))
    m.lines n

pub handed_none : (ps : List Priced) → handed_by ps 0 ≡ []
handed_none [] = refl
handed_none (p ∷ ps) = let t : leb (price p) 0 ≡ false = lt-leb (price p) 0 (omega arith) in simp t

-- how many lines n steps pay for
record Counted (ps : List Priced) (n : ℕ) : Type 0 where
  count : ℕ
  within : count ≤ length ps
  texts : handed_by ps n ≡ map (λ p. p.text) (take count ps)
  paid : cost (take count ps) ≤ n
  most : count < length ps → n < cost (take (suc count) ps)

counted : (ps : List Priced) (n : ℕ) → Counted ps n
counted [] n = record { count = 0; within = omega arith; texts = refl; paid = omega arith; most = λ h. absurd (omega arith) }
counted (p ∷ ps) n = go (leb (price p) n) refl (counted ps (n - price p))
  where
    go : (z : Bool) → leb (price p) n ≡ z → Counted ps (n - price p) → Counted (p ∷ ps) n
    go true t c =
        let w = leb-true (price p) n t in
        record { count = suc c.count; within = omega (arith, c.within); texts = simp t (ap (λ ts. p.text ∷ ts) c.texts); paid = omega (arith, c.paid); most = λ h. omega (arith, c.most (omega arith)) }
    go false t c =
        let w = leb-false (price p) n t in
        record { count = 0; within = omega arith; texts = simp t; paid = omega arith; most = λ h. omega arith }

pub longest_from : (m : Remains) (n : ℕ) → Longest m n (handed_by m.lines n)
longest_from m n =
    let c = counted m.lines n in
    record { count = c.count; within = c.within; texts = c.texts; paid = c.paid; most = c.most }

only : (ps : List Priced) (n c : ℕ) → c ≤ length ps → cost (take c ps) ≤ n → (c < length ps → n < cost (take (suc c) ps))
    → map (λ p. p.text) (take c ps) ≡ handed_by ps n
only [] n zero w paid most = refl
only [] n (suc c) w paid most = refl
only (p ∷ ps) n zero w paid most =
    let l = most (omega arith) in
    let t : leb (price p) n ≡ false = lt-leb (price p) n (omega arith) in
    simp t
only (p ∷ ps) n (suc c) w paid most =
    let t : leb (price p) n ≡ true = le-leb (price p) n (omega arith) in
    let ih = only ps (n - price p) c (omega arith) (omega arith) (λ h. let l = most (omega arith) in omega arith) in
    simp t (ap (λ ts. p.text ∷ ts) ih)

-- the longest beginning is the only one
pub longest_is : (m : Remains) (n : ℕ) (ts : List (List ℕ)) → Longest m n ts → ts ≡ handed_by m.lines n
longest_is m n ts l = l.texts ∙ only m.lines n l.count l.within l.paid l.most
