-- From the contract of NEXT to what a layer hears, and back.
use Rattle.std.proofs.Common.{◌≡◌, ℕ, suc, ◌<◌, ◌≤◌, Bool, true, false, cond, ltb, leb, List, [], ◌∷◌, ◌++◌, length, take, drop, Some, None, Ok, Err, Result, sym, refl, ap, ◌∙◌, subst, append-nil, arith}
use Rattle.std.proofs.lemmas.Bool.{ltb-true, ltb-false, leb-true, leb-false, le-ltb, le-leb, lt-leb}
use Rattle.std.proofs.lemmas.List.{take-append-le, drop_all}
use Rattle.lines.specs.Characters.{characters}
use Rattle.sources.specs.declared.answers.Answer.{Answer}
use Rattle.sources.specs.declared.answers.Refusal.{Refusal}
use Rattle.sources.specs.declared.answers.Refusal.TheVariants.{ShortBuffer, LargeGrant}
use Rattle.sources.specs.declared.answers.Told.{Told}
use Rattle.sources.specs.declared.answers.Told.TheVariants as told
use Rattle.sources.specs.declared.line.Line.{Line}
use Rattle.sources.specs.Faults.{Ending}
use Rattle.sources.specs.Hearings.{Asked, text_of, HearsOf, Hears, tells_of, tells, delivers_of, delivers}
use Rattle.sources.specs.Lines.{filled, written}
use Rattle.sources.specs.Meaning.{iterate, Priced, Remains, price, first_price, spend}
use Rattle.sources.specs.Replies.{AtLine, LineIn, Mapped, Turn, turning, turn_of, refusal_of, replying, reply_of, Replies, StandsIn, Lawful, spent_by}
use Rattle.sources.proofs.Filling.{length_filled, take_filled}

-- what an answer says of what remained, over the parts of what remains
abbrev pub HeardAs : List Priced → Ending → ℕ → ℕ → List ℕ → ℕ → Told ℕ → List ℕ → Type 0
HeardAs ps e d g old n (told.Line k) new =
    (t : List ℕ) × (b : ℕ) × (qs : List Priced) × (ps ≡ record { text = t; beyond = b } ∷ qs) × (k ≡ length t) × (n ≡ suc b) × (n ≤ g) × (new ≡ written t old)
HeardAs ps e d g old n told.Held new = (g < first_price ps d) × (n ≡ g)
HeardAs ps e d g old n (told.Ended f) new = (ps ≡ []) × (e ≡ f) × (d ≡ n) × (n ≤ g)

abbrev pub Says : List Priced → Ending → ℕ → ℕ → List ℕ → Turn → Type 0
Says ps e d g old t = HeardAs ps e d g old t.spent t.told t.buffer

turn_says : (ps : List Priced) (e : Ending) (d : ℕ) (old : List ℕ) (g : ℕ) → Says ps e d g old (turn_of ps e d old g)
turn_says [] e d old g = go (leb d g) refl
  where
    go : (z : Bool) → leb d g ≡ z → Says [] e d g old (cond z (turning (told.Ended e) d old) (turning told.Held g old))
    go true h = (refl, refl, refl, leb-true d g h)
    go false h = (leb-false d g h, refl)
turn_says (p ∷ ps) e d old g = go (leb (price p) g) refl
  where
    go : (z : Bool) → leb (price p) g ≡ z
        → Says (p ∷ ps) e d g old (cond z (turning (told.Line (length p.text)) (price p) (written p.text old)) (turning told.Held g old))
    go true h = (p.text, p.beyond, ps, refl, refl, refl, leb-true (price p) g h, refl)
    go false h = (leb-false (price p) g h, refl)

pub no_refusal : (size g : ℕ) → 80 ≤ size → g ≤ 1000000 → refusal_of size g ≡ None
no_refusal size g h k = rw (le-ltb size 80 h, le-ltb 1000000 g k) refl

-- an answer that is no refusal
pub answer_says : (m : Remains) (old : List ℕ) (g : ℕ) (a : Answer (Told ℕ)) → 80 ≤ length old → Ok a ≡ (reply_of m old g).answer
    → (g ≤ 1000000) × HeardAs m.lines m.ending m.due g old a.spent a.told (reply_of m old g).buffer
unfolding reply_of
answer_says m old g a h = go (ltb 1000000 g) refl
  where
    go : (z : Bool) → ltb 1000000 g ≡ z → Ok a ≡ (replying (refusal_of (length old) g) m old g).answer
        → (g ≤ 1000000) × HeardAs m.lines m.ending m.due g old a.spent a.told (replying (refusal_of (length old) g) m old g).buffer
    go true t = rw (le-ltb (length old) 80 h, t) (λ e. let z : ◌≡◌ {A = ℕ} 0 1 = cc in absurd (omega arith))
    go false t = rw (le-ltb (length old) 80 h, t) (λ e.
        let turn = turn_of m.lines m.ending m.due old g in
        let same : a ≡ record { spent = turn.spent; told = turn.told } = cc in
        let P : Answer (Told ℕ) → Type 0 = λ x. HeardAs m.lines m.ending m.due g old x.spent x.told turn.buffer in
        (ltb-false 1000000 g t, subst P (sym same) (turn_says m.lines m.ending m.due old g)))

-- a refusal of a request with a large enough buffer
pub refusal_says : (m : Remains) (old : List ℕ) (g : ℕ) (r : Refusal) → 80 ≤ length old → Err r ≡ (reply_of m old g).answer
    → (1000000 < g) × (r ≡ LargeGrant)
unfolding reply_of
refusal_says m old g r h = go (ltb 1000000 g) refl
  where
    go : (z : Bool) → ltb 1000000 g ≡ z → Err r ≡ (replying (refusal_of (length old) g) m old g).answer → (1000000 < g) × (r ≡ LargeGrant)
    go true t = rw (le-ltb (length old) 80 h, t) (λ e. (ltb-true 1000000 g t, cc))
    go false t = rw (le-ltb (length old) 80 h, t) (λ e. let z : ◌≡◌ {A = ℕ} 0 1 = cc in absurd (omega arith))

-- what is told of what was heard is the turn
heard_turn : (m : Remains) (g n : ℕ) (h : Told Line) (old : List ℕ) → HearsOf m g n h
    → turn_of m.lines m.ending m.due old g ≡ record { told = tells_of h; spent = n; buffer = delivers_of h old }
heard_turn m g n (told.Line l) old (b, ps, e, k, w) =
    let t : leb (suc b) g ≡ true = le-leb (suc b) g (omega arith) in
    simp (e, t, k)
heard_turn m g n told.Held old (w, k) = go m.lines refl
  where
    go : (ps : List Priced) → m.lines ≡ ps → turn_of ps m.ending m.due old g ≡ record { told = told.Held; spent = n; buffer = old }
    go [] e = let t : leb m.due g ≡ false = lt-leb m.due g (rw e at w) in simp (t, k)
    go (p ∷ ps) e = let t : leb (price p) g ≡ false = lt-leb (price p) g (rw e at w) in simp (t, k)
heard_turn m g n (told.Ended f) old (e, k, d, w) =
    let t : leb n g ≡ true = le-leb n g w in
    simp (e, d, t, k)

-- a source that hears, pays and delivers replies as NEXT asks
pub replies_from : (m after : Remains) (old new : List ℕ) (g : ℕ) (h : Answer (Told Line)) (r : Result (Answer (Told ℕ)) Refusal) → 80 ≤ length old → g ≤ 1000000
    → Hears m g h → after ≡ spend m h.spent → r ≡ Ok (tells h) → new ≡ delivers h old → Replies m after old new g r
unfolding reply_of
replies_from m after old new g h r fits few hears paid said put =
    let none = no_refusal (length old) g fits few in
    let turn = heard_turn m g h.spent h.told old hears in
    let e : reply_of m old g ≡ record { answer = Ok (tells h); buffer = delivers h old; left = spend m h.spent } = simp (none, turn) in
    record { answer = said ∙ ap (λ x. x.answer) (sym e); buffer = put ∙ ap (λ x. x.buffer) (sym e); left = paid ∙ ap (λ x. x.left) (sym e) }

-- a refused call replies as NEXT asks
pub replies_refused : (m : Remains) (old : List ℕ) (g : ℕ) (r : Refusal) → refusal_of (length old) g ≡ Some r → Replies m m old old g (Err r)
unfolding reply_of
replies_refused m old g r e =
    let k : reply_of m old g ≡ record { answer = Err r; buffer = old; left = m } = simp e in
    record { answer = ap (λ x. x.answer) (sym k); buffer = ap (λ x. x.buffer) (sym k); left = ap (λ x. x.left) (sym k) }

-- a line that is delivered stands in the buffer
pub stands_from : (h : Told Line) (old : List ℕ) → StandsIn (tells_of h) (delivers_of h old)
stands_from (told.Line l) old =
    let small : length (text_of l) ≤ 80 = l.fits in
    let within : length (text_of l) ≤ length (filled (text_of l)) = omega (arith, length_filled (text_of l)) in
    let front : take (length (text_of l)) (written (text_of l) old) ≡ text_of l = take-append-le (length (text_of l)) (filled (text_of l)) (drop 80 old) within ∙ take_filled (text_of l) small in
    record { fits = small; clean = ap characters front ∙ l.clean }
stands_from told.Held old = tt
stands_from (told.Ended e) old = tt

-- what NEXT ensures of an answer, by what it told
pub heard_at : (m after : Remains) (old new : List ℕ) (g : ℕ) (a : Answer (Told ℕ)) (t : Told ℕ) → 80 ≤ length old → Replies m after old new g (Ok a) → a.told ≡ t
    → (g ≤ 1000000) × HeardAs m.lines m.ending m.due g old a.spent t new
heard_at m after old new g a t fits said is =
    let h = answer_says m old g a fits said.answer in
    let P : List ℕ → Type 0 = λ b. HeardAs m.lines m.ending m.due g old a.spent a.told b in
    let Q : Told ℕ → Type 0 = λ x. HeardAs m.lines m.ending m.due g old a.spent x new in
    (h.0, subst Q is (subst P (sym said.buffer) h.1))

-- a line that stands alone in a buffer of 80 bytes
pub alone : (t old : List ℕ) → length old ≡ 80 → written t old ≡ filled t
alone t old h = ap (λ r. filled t ++ r) (drop_all 80 old (omega arith)) ∙ append-nil (filled t)

-- what a line in a buffer of 80 bytes is
pub received_line : (t old new : List ℕ) (n : ℕ) → length old ≡ 80 → n ≡ length t → new ≡ written t old → n ≤ 80
    → (take n new ≡ t) × (new ≡ filled (take n new))
received_line t old new n h k e small =
    let whole : new ≡ filled t = e ∙ alone t old h in
    let fits : length t ≤ 80 = omega arith in
    let front : take n new ≡ t = ap (take n) whole ∙ ap (λ j. take j (filled t)) k ∙ take_filled t fits in
    (front, whole ∙ ap filled (sym front))

-- a call that is not refused
pub admitted : (size g : ℕ) → refusal_of size g ≡ None → (80 ≤ size) × (g ≤ 1000000)
admitted size g e = go (ltb size 80) (ltb 1000000 g) refl refl (sym e)
  where
    go : (y z : Bool) → ltb size 80 ≡ y → ltb 1000000 g ≡ z → None ≡ cond y (Some ShortBuffer) (cond z (Some LargeGrant) None) → (80 ≤ size) × (g ≤ 1000000)
    go true z p q k = let w : ◌≡◌ {A = ℕ} 0 1 = cc in absurd (omega arith)
    go false true p q k = let w : ◌≡◌ {A = ℕ} 0 1 = cc in absurd (omega arith)
    go false false p q k = (ltb-false size 80 p, ltb-false 1000000 g q)

-- what NEXT owes, from what was heard and paid and what DELIVER ensures
pub record Delivered (m after : Remains) (old new : List ℕ) (g : ℕ) (h : Answer (Told Line)) (r : Result (Answer (Told ℕ)) Refusal) : Type 0 where
  pub replies : Replies m after old new g r
  pub lawful : Lawful r new
  pub spent : spent_by r ≡ h.spent

pub delivered : (m after : Remains) (old new : List ℕ) (g : ℕ) (h : Answer (Told Line)) (r : Result (Answer (Told ℕ)) Refusal) → refusal_of (length old) g ≡ None
    → Hears m g h → after ≡ spend m h.spent
    → r ≡ cond (ltb (length old) 80) (Err ShortBuffer) (Ok (tells h)) → new ≡ cond (ltb (length old) 80) old (delivers h old)
    → Delivered m after old new g h r
delivered m after old new g h r free hears paid said put =
    let a = admitted (length old) g free in
    let big = le-ltb (length old) 80 a.0 in
    let ok : r ≡ Ok (tells h) = said ∙ simp big in
    let buf : new ≡ delivers h old = put ∙ simp big in
    let P : Result (Answer (Told ℕ)) Refusal → Type 0 = λ x. Lawful x new in
    let Q : List ℕ → Type 0 = λ x. StandsIn (tells_of h.told) x in
    record {
      replies = replies_from m after old new g h r a.0 a.1 hears paid ok buf;
      lawful = subst P (sym ok) (subst Q (sym buf) (stands_from h.told old));
      spent = ap spent_by ok;
    }

-- a line that is told in a buffer of 80 bytes is all of it, with blanks behind
pub received_whole : (m after : Remains) (old new : List ℕ) (g : ℕ) (a : Answer (Told ℕ)) (P : ℕ → Type 0) → length old ≡ 80
    → Replies m after old new g (Ok a) → StandsIn a.told new → ((n : ℕ) → LineIn n new → new ≡ filled (take n new) → P n) → AtLine P a.told
received_whole m after old new g a P own said stands owes = go a.told refl stands
  where
    go : (t : Told ℕ) → a.told ≡ t → StandsIn t new → AtLine P t
    go (told.Line n) is s =
        let h = (heard_at m after old new g a (told.Line n) (omega (arith, own)) said is).1 in
        owes n s (received_line h.0 old new n own h.4 h.7 s.fits).1
    go told.Held is s = tt
    go (told.Ended e) is s = tt

-- what a layer hears of an answer, its line taken out of the buffer
pub heard_from : (m after : Remains) (old new : List ℕ) (g : ℕ) (a : Answer (Told ℕ)) (R : ℕ → Line → Type 0) (u : Told Line) → length old ≡ 80
    → Replies m after old new g (Ok a) → StandsIn a.told new → ((k : ℕ) (l : Line) → R k l → text_of l ≡ take k new) → Mapped R a.told u
    → (g ≤ 1000000) × HearsOf m g a.spent u
heard_from m after old new g a R u own said stands reads maps = go a.told refl stands maps
  where
    go : (t : Told ℕ) → a.told ≡ t → StandsIn t new → Mapped R t u → (g ≤ 1000000) × HearsOf m g a.spent u
    go (told.Line k) is s (l, e, r) =
        let j = heard_at m after old new g a (told.Line k) (omega (arith, own)) said is in
        let h = j.1 in
        let text : h.0 ≡ text_of l = sym (reads k l r ∙ (received_line h.0 old new k own h.4 h.7 s.fits).0) in
        rw e (j.0, (h.1, h.2, h.3 ∙ ap (λ t. record { text = t; beyond = h.1 } ∷ h.2) text, h.5, h.6))
    go told.Held is s e = rw e (heard_at m after old new g a told.Held (omega (arith, own)) said is)
    go (told.Ended f) is s e = rw e (heard_at m after old new g a (told.Ended f) (omega (arith, own)) said is)

-- a request that is no refusal
pub heard_ok : (m : Remains) (g : ℕ) (r : Result (Answer (Told Line)) Refusal) (h : Answer (Told Line)) → r ≡ Ok h → Asked m g r → Hears m g h
heard_ok m g r h e a = let P : Result (Answer (Told Line)) Refusal → Type 0 = λ x. Asked m g x in (subst P e a).1

pub reached_ok : {K : Type 0} (tick : K → K) (k l : K) (r : Result (Answer (Told Line)) Refusal) (h : Answer (Told Line)) → r ≡ Ok h
    → l ≡ iterate tick (spent_by r) k → l ≡ iterate tick h.spent k
reached_ok tick k l r h e p = let P : Result (Answer (Told Line)) Refusal → Type 0 = λ x. l ≡ iterate tick (spent_by x) k in subst P e p
