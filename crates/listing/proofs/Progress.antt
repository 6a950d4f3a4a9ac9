-- A listing in progress: what is printed so far, and what remains.
use Rattle.std.proofs.Common.{◌≡◌, ℕ, ◌+◌, ◌<◌, ◌≤◌, List, [], ◌∷◌, ◌++◌, length, sym, ap, ◌∙◌, subst, ap₂, append_assoc, append-nil, arith}
use Rattle.sources.specs.declared.line.Line.{Line}
use Rattle.sources.specs.declared.answers.Told.{Told}
use Rattle.sources.specs.declared.answers.Told.TheVariants as told
use Rattle.sources.specs.Faults.{Ending}
use Rattle.sources.specs.Hearings.{HearsOf, text_of}
use Rattle.sources.specs.Meaning.{Priced, Remains, remaining, first_price, spend, Paced, iterate}
use Rattle.sources.proofs.Paying.{paced_spend}
use Rattle.piles.specs.Prices.{cost, total}
use Rattle.piles.proofs.Sums.{spend_end, spend_short, spend_whole, total_spend}
use Rattle.listing.specs.Listing.{lines_shown, ending_shown, listed}

pub record Progress (m₀ m : Remains) (out : List ℕ) (lines steps : ℕ) : Type 0 where
  pub text : out ++ lines_shown m.lines ≡ lines_shown m₀.lines
  pub ending : m.ending ≡ m₀.ending
  pub counts : lines + length m.lines ≡ length m₀.lines
  pub pays : steps + total m ≡ total m₀

-- a line is printed
pub prints : (m₀ m m' : Remains) (out : List ℕ) (n s k g : ℕ) (l : Line) → Progress m₀ m out n s → HearsOf m g k (told.Line l) → m' ≡ spend m k
    → Progress m₀ m' (out ++ text_of l ++ 10 ∷ []) (n + 1) (s + k)
prints m₀ m m' out n s k g l p (b, ps, line, costs, fits) after =
    let is : m ≡ remaining (record { text = text_of l; beyond = b } ∷ ps) m.ending m.due = ap (λ qs. remaining qs m.ending m.due) line in
    let a : m' ≡ remaining ps m.ending m.due = after ∙ ap₂ spend is costs ∙ spend_whole b (text_of l) ps m.ending m.due in
    let shown : (out ++ text_of l ++ 10 ∷ []) ++ lines_shown ps ≡ out ++ lines_shown m.lines =
    append_assoc (out ++ text_of l) (10 ∷ []) (lines_shown ps) ∙ append_assoc out (text_of l) (10 ∷ lines_shown ps) ∙ ap (λ qs. out ++ lines_shown qs) (sym line) in
    let t = ap total a in
    let u = ap total is in
    let c = ap (λ x. length x.lines) a in
    let d = ap length line in
    record {
      text = ap (λ x. (out ++ text_of l ++ 10 ∷ []) ++ lines_shown x.lines) a ∙ shown ∙ p.text;
      ending = ap (λ x. x.ending) a ∙ p.ending;
      counts = omega (arith, p.counts);
      pays = omega (arith, p.pays);
    }

-- steps that pay for no line whole
short : (m₀ : Remains) (ps : List Priced) (e : Ending) (d : ℕ) (out : List ℕ) (n s k : ℕ) → Progress m₀ (remaining ps e d) out n s → k < first_price ps d
    → Progress m₀ (spend (remaining ps e d) k) out n (s + k)
short m₀ [] e d out n s k p few = rw (spend_end e d k) (record { text = p.text; ending = p.ending; counts = p.counts; pays = omega (arith, p.pays) })
short m₀ (q ∷ ps) e d out n s k p few =
    rw (spend_short k q.beyond q.text ps e d (omega arith)) (record { text = p.text; ending = p.ending; counts = p.counts; pays = omega (arith, p.pays) })

-- the request is held over
pub waits : (m₀ m m' : Remains) (out : List ℕ) (n s k g : ℕ) → Progress m₀ m out n s → HearsOf m g k told.Held → m' ≡ spend m k
    → Progress m₀ m' out n (s + k)
waits m₀ m m' out n s k g p (above, whole) after = rw after (short m₀ m.lines m.ending m.due out n s k p (omega arith))

-- the ending is printed
pub finishes : (m₀ m : Remains) (out : List ℕ) (n s k g : ℕ) (e : Ending) → Progress m₀ m out n s → HearsOf m g k (told.Ended e)
    → out ++ ending_shown e n (s + k) ≡ listed m₀
finishes m₀ m out n s k g e p (none, ends, due, fits) =
    let t = ap length none in
    let c = ap cost none in
    let w = ap lines_shown none in
    let lines : n ≡ length m₀.lines = omega (arith, p.counts) in
    let steps : s + k ≡ total m₀ = omega (arith, p.pays) in
    let text : out ≡ lines_shown m₀.lines = sym (append-nil out) ∙ ap (λ x. out ++ x) (sym w) ∙ p.text in
    ap₂ (λ x y. x ++ y) text (ap (λ x. ending_shown x n (s + k)) (sym ends ∙ p.ending) ∙ ap₂ (ending_shown m₀.ending) lines steps)

-- steps that were heard are within what remains
pub within : (m : Remains) (g k : ℕ) (h : Told Line) → HearsOf m g k h → k ≤ total m
within m g k (told.Line l) (b, ps, line, costs, fits) = let c = ap cost line in omega arith
within m g k told.Held (above, whole) = go m.lines above
  where
    go : (ps : List Priced) → g < first_price ps m.due → k ≤ cost ps + m.due
    go [] a = omega arith
    go (p ∷ ps) a = omega arith
within m g k (told.Ended e) (none, ends, due, fits) = let c = ap cost none in omega arith

-- there are at most as many lines as steps
count_cost : (ps : List Priced) → length ps ≤ cost ps
count_cost [] = omega arith
count_cost (p ∷ ps) = let ih = count_cost ps in omega arith

pub counts_on : (m₀ m : Remains) (out : List ℕ) (n s k g : ℕ) (l : Line) → Progress m₀ m out n s → HearsOf m g k (told.Line l) → n + 1 ≤ total m₀
counts_on m₀ m out n s k g l p (b, ps, line, costs, fits) =
    let d = ap length line in
    let c = count_cost m₀.lines in
    omega (arith, p.counts)

-- each request leaves less to pay
pub falls : (m m' : Remains) (g k : ℕ) (h : Told Line) → HearsOf m g k h → m' ≡ spend m k → 0 < k → total m' < total m
falls m m' g k h heard after some =
    let t = ap total after ∙ total_spend m k in
    let w = within m g k h heard in
    omega arith

pub got_some : (m : Remains) (g k : ℕ) (l : Line) → HearsOf m g k (told.Line l) → 0 < k
got_some m g k l (b, ps, line, costs, fits) = omega arith

-- the same, as the loop has it
module _ {K : Type 0} (meaning : K → Remains) (tick : K → K) (paced : Paced meaning tick) where
  pub after_by : (k k' : K) (n : ℕ) → k' ≡ iterate tick n k → meaning k' ≡ spend (meaning k) n
  after_by k k' n e = ap meaning e ∙ paced_spend meaning tick paced n k

  pub loop_line : (m₀ : Remains) (k k' : K) (out out' : List ℕ) (n s j i g : ℕ) (h : Told Line) (l : Line) → Progress m₀ (meaning k) out n s → HearsOf (meaning k) g j h → h ≡ told.Line l
      → k' ≡ iterate tick j k → out' ≡ out ++ text_of l ++ 10 ∷ [] → i ≡ j → Progress m₀ (meaning k') out' (n + 1) (s + i)
  loop_line m₀ k k' out out' n s j i g h l p heard is moved put counted =
      let P : Told Line → Type 0 = λ x. HearsOf (meaning k) g j x in
      let O : List ℕ → Type 0 = λ x. Progress m₀ (meaning k') x (n + 1) (s + i) in
      let N : ℕ → Type 0 = λ x. Progress m₀ (meaning k') (out ++ text_of l ++ 10 ∷ []) (n + 1) (s + x) in
      subst O (sym put) (subst N (sym counted) (prints m₀ (meaning k) (meaning k') out n s j g l p (subst P is heard) (after_by k k' j moved)))

  pub loop_wait : (m₀ : Remains) (k k' : K) (out : List ℕ) (n s j i g : ℕ) (h : Told Line) → Progress m₀ (meaning k) out n s → HearsOf (meaning k) g j h → h ≡ told.Held
      → k' ≡ iterate tick j k → i ≡ j → Progress m₀ (meaning k') out n (s + i)
  loop_wait m₀ k k' out n s j i g h p heard is moved counted =
      let P : Told Line → Type 0 = λ x. HearsOf (meaning k) g j x in
      let N : ℕ → Type 0 = λ x. Progress m₀ (meaning k') out n (s + x) in
      subst N (sym counted) (waits m₀ (meaning k) (meaning k') out n s j g p (subst P is heard) (after_by k k' j moved))

  pub loop_falls : (k k' : K) (g j : ℕ) (h : Told Line) → HearsOf (meaning k) g j h → k' ≡ iterate tick j k → 0 < j → total (meaning k') < total (meaning k)
  loop_falls k k' g j h heard moved some = falls (meaning k) (meaning k') g j h heard (after_by k k' j moved) some

-- a line or a wait takes at least a step
pub some_line : (m : Remains) (g k : ℕ) (h : Told Line) (l : Line) → HearsOf m g k h → h ≡ told.Line l → 0 < k
some_line m g k h l heard is = let P : Told Line → Type 0 = λ x. HearsOf m g k x in got_some m g k l (subst P is heard)

pub some_wait : (m : Remains) (g k : ℕ) (h : Told Line) → HearsOf m g k h → h ≡ told.Held → 0 < g → 0 < k
some_wait m g k h heard is some = let P : Told Line → Type 0 = λ x. HearsOf m g k x in let w = subst P is heard in omega (arith, w.1)

pub more_lines : (m₀ m : Remains) (out : List ℕ) (n s k g : ℕ) (h : Told Line) (l : Line) → Progress m₀ m out n s → HearsOf m g k h → h ≡ told.Line l → n + 1 ≤ total m₀
more_lines m₀ m out n s k g h l p heard is = let P : Told Line → Type 0 = λ x. HearsOf m g k x in counts_on m₀ m out n s k g l p (subst P is heard)
