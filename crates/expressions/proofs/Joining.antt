-- Parts one after the other: what is there is read, and only so.
use Rattle.std.proofs.Common.{◌≡◌, ℕ, ◌+◌, ◌<◌, ◌≤◌, Bool, true, false, ◌&&◌, List, [], ◌∷◌, ◌++◌, length, drop, Some, None, Ok, Err, Option, Result, sym, refl, ap, ◌∙◌, ap₂, append_assoc, arith, length-drop}
use Rattle.std.proofs.lemmas.List.{append-nil, append_cancel_left, drop-drop, drop_all}
use Rattle.std.proofs.lemmas.List.Folds.{list_all-append}
use Rattle.std.specs.List.{list_all}
use Rattle.expressions.specs.declared.flaws.Flaw.{Flaw}
use Rattle.expressions.specs.declared.flaws.Flaw.TheVariants.{NoForm}
use Rattle.expressions.specs.Joins.{join_of, lawful_of, PartsOf}
use Rattle.expressions.proofs.Starts.{both, and_true, FoundPart}

-- a way to read the first part of bytes: what is read is there, and what is there is read
pub record Reader (P : Type 0) : Type 0 where
  pub write : P → List ℕ
  pub may : P → List ℕ → Bool
  pub front : List ℕ → Option P
  pub empty : front [] ≡ None
  pub sound : (bs : List ℕ) (p : P) → front bs ≡ Some p → FoundPart write may bs p
  pub complete : (p : P) (rest : List ℕ) → may p rest ≡ true → front (write p ++ rest) ≡ Some p

some_same : {P : Type 0} (p q : P) → Some p ≡ Some q → p ≡ q
some_same p q e = cc

none_some : {P X : Type 0} (p : P) → None ≡ Some p → X
none_some p e = absurd (let z : ◌≡◌ {A = ℕ} 0 1 = cc in omega arith)

-- parts that are written as others begin are those others
pub follows : {P : Type 0} (x : Reader P) (ps qs : List P) (end : List ℕ) → lawful_of x.write x.may ps end ≡ true → lawful_of x.write x.may qs [] ≡ true
    → join_of x.write qs ≡ join_of x.write ps ++ end → (rs : List P) × (qs ≡ ps ++ rs) × PartsOf x.write x.may rs end
follows x [] qs end lp lq e = (qs, refl, (e, lq))
follows x (p ∷ ps) [] end lp lq e =
    let a = both (x.may p (join_of x.write ps ++ end)) (lawful_of x.write x.may ps end) lp in
    none_some p (sym x.empty ∙ (ap x.front (e ∙ append_assoc (x.write p) (join_of x.write ps) end) ∙ x.complete p (join_of x.write ps ++ end) a.0))
follows x (p ∷ ps) (q ∷ qs) end lp lq e =
    let a = both (x.may p (join_of x.write ps ++ end)) (lawful_of x.write x.may ps end) lp in
    let b = both (x.may q (join_of x.write qs ++ [])) (lawful_of x.write x.may qs []) lq in
    let f : x.may q (join_of x.write qs) ≡ true = ap (x.may q) (sym (append-nil (join_of x.write qs))) ∙ b.0 in
    let w : x.write q ++ join_of x.write qs ≡ x.write p ++ (join_of x.write ps ++ end) = e ∙ append_assoc (x.write p) (join_of x.write ps) end in
    let i : q ≡ p = some_same q p (sym (x.complete q (join_of x.write qs) f) ∙ (ap x.front w ∙ x.complete p (join_of x.write ps ++ end) a.0)) in
    let v : join_of x.write qs ≡ join_of x.write ps ++ end = append_cancel_left (x.write p) _ _ (ap (λ y. x.write y ++ join_of x.write qs) (sym i) ∙ w) in
    let r = follows x ps qs end a.1 b.1 v in
    (r.0, ap₂ (λ y ys. y ∷ ys) i r.1, r.2)

first_part : {P : Type 0} (x : Reader P) (r : P) (rs : List P) (bs : List ℕ) → PartsOf x.write x.may (r ∷ rs) bs → x.front bs ≡ Some r
first_part x r rs bs f =
    let b = both (x.may r (join_of x.write rs ++ [])) (lawful_of x.write x.may rs []) f.1 in
    ap x.front (sym f.0) ∙ x.complete r (join_of x.write rs) (ap (x.may r) (sym (append-nil (join_of x.write rs))) ∙ b.0)

-- bytes have at most one list of parts
pub one_join : {P : Type 0} (x : Reader P) (ps qs : List P) (bytes : List ℕ) → PartsOf x.write x.may ps bytes → PartsOf x.write x.may qs bytes → ps ≡ qs
one_join x ps qs bytes rp rq =
    let r = follows x ps qs [] rp.1 rq.1 (rq.0 ∙ (sym rp.0 ∙ sym (append-nil (join_of x.write ps)))) in
    go r.0 r.1 r.2
  where
    go : (rs : List _) → qs ≡ ps ++ rs → PartsOf x.write x.may rs [] → ps ≡ qs
    go [] e f = sym (e ∙ append-nil ps)
    go (r ∷ rs) e f = none_some r (sym x.empty ∙ first_part x r rs [] f)

join_push : {P : Type 0} (x : Reader P) (ps : List P) (p : P) (end : List ℕ) → join_of x.write (ps ++ (p ∷ [])) ++ end ≡ join_of x.write ps ++ (x.write p ++ end)
join_push x [] p end = ap (λ y. y ++ end) (append-nil (x.write p))
join_push x (q ∷ ps) p end =
    append_assoc (x.write q) (join_of x.write (ps ++ (p ∷ []))) end ∙ (ap (λ y. x.write q ++ y) (join_push x ps p end) ∙ sym (append_assoc (x.write q) (join_of x.write ps) (x.write p ++ end)))

lawful_push : {P : Type 0} (x : Reader P) (ps : List P) (p : P) (end : List ℕ) → lawful_of x.write x.may ps (x.write p ++ end) ≡ true → x.may p end ≡ true → lawful_of x.write x.may (ps ++ (p ∷ [])) end ≡ true
lawful_push x [] p end l f = and_true _ _ f refl
lawful_push x (q ∷ ps) p end l f =
    let a = both (x.may q (join_of x.write ps ++ (x.write p ++ end))) (lawful_of x.write x.may ps (x.write p ++ end)) l in
    and_true _ _ (ap (x.may q) (join_push x ps p end) ∙ a.0) (lawful_push x ps p end a.1 f)

-- one part more: all of them pass where those before it do, and it does
pub all_push : {P : Type 0} (test : P → Bool) (ps : List P) (p : P) → list_all test (ps ++ (p ∷ [])) ≡ list_all test ps && test p
all_push test ps p = list_all-append test ps (p ∷ []) ∙ ap (λ z. list_all test ps && z) (go (test p))
  where
    go : (z : Bool) → z && true ≡ z
    go true = refl
    go false = refl

-- a flaw is read only where no part stands, and it is of form
pub none_read : {P R : Type 0} (read : Option P → Result R Flaw) → read None ≡ Err NoForm → ((p : P) → (r : R) × (read (Some p) ≡ Ok r)) → (o : Option P) (f : Flaw) → Err f ≡ read o → (o ≡ None) × (f ≡ NoForm)
none_read read none some None f e = let g : Err f ≡ Err NoForm = e ∙ none in (refl, cc)
none_read read none some (Some p) f e = let g : Err f ≡ Ok (some p).0 = e ∙ (some p).1 in absurd (cc)

-- parts that are read up to a place
pub record Come {P : Type 0} (x : Reader P) (bytes : List ℕ) (here : ℕ) (ps : List P) : Type 0 where
  pub whole : join_of x.write ps ++ drop here bytes ≡ bytes
  pub lawful : lawful_of x.write x.may ps (drop here bytes) ≡ true

pub come_start : {P : Type 0} (x : Reader P) (bytes : List ℕ) → Come x bytes 0 []
come_start x bytes = record { whole = refl; lawful = refl }

pub come_more : {P : Type 0} (x : Reader P) (bytes : List ℕ) (i w : ℕ) (ps : List P) (p : P) → x.front (drop i bytes) ≡ Some p → w ≡ length (x.write p) → Come x bytes i ps → Come x bytes (i + w) (ps ++ (p ∷ []))
come_more x bytes i w ps p e width walk =
    let f = x.sound (drop i bytes) p e in
    let d : drop (length (x.write p)) (drop i bytes) ≡ drop (i + w) bytes = drop-drop (length (x.write p)) i bytes ∙ ap (λ k. drop (i + k) bytes) (sym width) in
    let h : x.write p ++ drop (i + w) bytes ≡ drop i bytes = ap (λ y. x.write p ++ y) (sym d) ∙ f.here in
    record {
      whole = join_push x ps p (drop (i + w) bytes) ∙ (ap (λ y. join_of x.write ps ++ y) h ∙ walk.whole);
      lawful = lawful_push x ps p (drop (i + w) bytes) (ap (lawful_of x.write x.may ps) h ∙ walk.lawful) (ap (x.may p) (sym d) ∙ f.fits);
    }

pub come_all : {P : Type 0} (x : Reader P) (bytes : List ℕ) (i : ℕ) (ps : List P) → length bytes ≤ i → Come x bytes i ps → PartsOf x.write x.may ps bytes
come_all x bytes i ps past walk =
    let n = drop_all i bytes past in
    (sym (append-nil (join_of x.write ps)) ∙ (ap (λ y. join_of x.write ps ++ y) (sym n) ∙ walk.whole), ap (lawful_of x.write x.may ps) (sym n) ∙ walk.lawful)

-- any parts of the bytes go on from those that are read
pub come_on : {P : Type 0} (x : Reader P) (bytes : List ℕ) (i : ℕ) (ps qs : List P) → Come x bytes i ps → PartsOf x.write x.may qs bytes → (rs : List P) × (qs ≡ ps ++ rs) × PartsOf x.write x.may rs (drop i bytes)
come_on x bytes i ps qs walk r = follows x ps qs (drop i bytes) walk.lawful r.1 (r.0 ∙ sym walk.whole)

-- where bytes are left, the parts go on with the first of them
pub come_next : {P : Type 0} (x : Reader P) (bytes : List ℕ) (i : ℕ) (ps qs : List P) → i < length bytes → Come x bytes i ps → PartsOf x.write x.may qs bytes
    → (p : P) × (rs : List P) × (x.front (drop i bytes) ≡ Some p) × (qs ≡ ps ++ (p ∷ rs))
come_next x bytes i ps qs more walk r = let t = come_on x bytes i ps qs walk r in go t.0 t.1 t.2
  where
    go : (rs : List _) → qs ≡ ps ++ rs → PartsOf x.write x.may rs (drop i bytes) → (p : _) × (ss : List _) × (x.front (drop i bytes) ≡ Some p) × (qs ≡ ps ++ (p ∷ ss))
    go [] e f = absurd (let n : 0 ≡ length (drop i bytes) = ap length f.0 in let d = length-drop i bytes in omega arith)
    go (p ∷ ss) e f = (p, ss, first_part x p ss (drop i bytes) f, e)
