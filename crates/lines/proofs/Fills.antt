-- A text written over bytes that are all alike, over any width and any byte.
use Rattle.std.proofs.Common.{◌≡◌, ℕ, ◌+◌, ◌-◌, ◌<◌, ◌≤◌, min, true, leb, ◌⊎◌, List, ◌++◌, length, take, drop, replicate, sym, refl, ap, ◌∙◌, inl, inr, arith}
use lib.Seq.{take-append-add}
use Rattle.std.proofs.lemmas.List.{take_at, drop-replicate, take-replicate, length-take, length-append, length-replicate, take-append-le, take-take, take_all}
use Rattle.std.proofs.lemmas.Bool.{le-leb, cases_lt}
use Rattle.lines.specs.Characters.{overwritten}

filling : (w b : ℕ) (t : List ℕ) → length t ≤ w → t ++ drop (length t) (replicate w b) ≡ take w (t ++ replicate w b)
filling w b t h =
    let e : length t + (w - length t) ≡ w = omega arith in
    let l : w - length t ≤ w = omega arith in
    ap (λ r. t ++ r) (drop-replicate (length t) w b ∙ sym (take-replicate (w - length t) w b l))
    ∙ sym (take-append-add t (replicate w b) (w - length t))
    ∙ ap (λ n. take n (t ++ replicate w b)) e

pub fills : (w b : ℕ) (t : List ℕ) → length t ≤ w → overwritten (replicate w b) t ≡ take w (t ++ replicate w b)
fills w b t h =
    let r = length-replicate w b in
    let i : leb (length t) (length (replicate w b)) ≡ true = le-leb (length t) (length (replicate w b)) (omega (arith, r)) in
    rw i (filling w b t h)

pub length_fills : (w b : ℕ) (t : List ℕ) → length (take w (t ++ replicate w b)) ≡ w
length_fills w b t =
    let r : length (replicate w b) ≡ w = length-replicate w b in
    length-take w (t ++ replicate w b) ∙ ap (min w) (length-append t (replicate w b)) ∙ omega (arith, r)

pub take_fills : (w b : ℕ) (t : List ℕ) → length t ≤ w → take (length t) (take w (t ++ replicate w b)) ≡ t
take_fills w b t h = ap (take (length t)) (sym (filling w b t h)) ∙ take_at t (drop (length t) (replicate w b)) _ refl

-- the front of a text is filled as the text is
pub fills_front : (w b : ℕ) (t : List ℕ) → overwritten (replicate w b) (take w t) ≡ take w (t ++ replicate w b)
fills_front w b t =
    let l : length (take w t) ≤ w = omega (arith, length-take w t) in
    fills w b (take w t) l ∙ go (cases_lt w (length t))
  where
    go : (w < length t) ⊎ (length t ≤ w) → take w (take w t ++ replicate w b) ≡ take w (t ++ replicate w b)
    go (inl h) =
        let a : w ≤ length t = omega arith in
        let c : w ≤ length (take w t) = omega (arith, length-take w t) in
        take-append-le w (take w t) (replicate w b) c ∙ take-take w w t (omega arith) ∙ sym (take-append-le w t (replicate w b) a)
    go (inr h) = ap (λ x. take w (x ++ replicate w b)) (take_all w t h)
