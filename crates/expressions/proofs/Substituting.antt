-- The steps of substitution.
use Rattle.std.proofs.Common.{◌≡◌, ℕ, ◌+◌, ◌<◌, Bool, true, false, ◌&&◌, List, [], ◌∷◌, ◌++◌, length, drop, Some, None, Ok, Err, Option, Result, sym, refl, ap, ◌∙◌, subst, append_assoc, arith, length-drop}
use Rattle.std.proofs.lemmas.List.{append-nil, drop-drop}
use Rattle.arrayvec.specs.ArrayVec.{ArrayVec}
use Rattle.expressions.specs.Words.{known_or}
use Rattle.expressions.specs.declared.flaws.Flaw.{Flaw}
use Rattle.expressions.specs.declared.flaws.Flaw.TheVariants.{UnknownSymbol}
use Rattle.expressions.specs.declared.piece.Gives.{Gives}
use Rattle.expressions.specs.declared.piece.Gives.TheVariants.{Byte, Named}
use Rattle.expressions.specs.declared.piece.Reading.{Reading}
use Rattle.expressions.specs.declared.symbol.Symbol.{Symbol}
use Rattle.expressions.specs.Pieces.{Piece, piece_written, gives_of, Table, shown_if, is_known, given_text, given_known, text_of_all, all_known, Refused}
use Rattle.expressions.specs.Firsts.{first, reading_of, Held}
use Rattle.expressions.proofs.Joining.{come_start, come_more, come_all, all_push, none_read}
use Rattle.expressions.proofs.Joining as joining
use Rattle.expressions.proofs.Chains.{piece_reader, walk_broken}

-- the text and the symbols of one piece more
text_push : (t : Table) (ps : List Piece) (p : Piece) → text_of_all t (ps ++ (p ∷ [])) ≡ text_of_all t ps ++ given_text t (gives_of p)
text_push t [] p = append-nil (given_text t (gives_of p))
text_push t (q ∷ ps) p = ap (λ x. given_text t (gives_of q) ++ x) (text_push t ps p) ∙ sym (append_assoc (given_text t (gives_of q)) (text_of_all t ps) (given_text t (gives_of p)))

unknown_text : (t : Table) (g : Gives) → given_known t g ≡ false → given_text t g ≡ []
unknown_text t (Byte b) e = absurd (cc)
unknown_text t (Named n) e = go (t n) e
  where
    go : (o : Option Symbol) → is_known o ≡ false → shown_if o ≡ []
    go None f = refl
    go (Some s) f = absurd (cc)

-- the piece that was read
read_piece : (o : Option Piece) (r : Reading) → Ok r ≡ reading_of o → (p : Piece) × (o ≡ Some p) × (r.gives ≡ gives_of p) × (r.width ≡ length (piece_written p))
read_piece None r e = absurd (cc)
read_piece (Some p) r e =
    let i : r ≡ record { gives = gives_of p; width = length (piece_written p) } = cc in
    (p, refl, ap (λ x. x.gives) i, ap (λ x. x.width) i)

-- how far substitution has come: the pieces so far, whether all are known, and their text
pub record Come (t : Table) (field rest : List ℕ) (held : Option (ArrayVec ℕ)) (known : Result (Unit {0}) Flaw) : Type 0 where
  pub here : ℕ
  pub left : rest ≡ drop here field
  pub ps : List Piece
  pub walk : joining.Come piece_reader field here ps
  pub asked : known ≡ known_or (all_known t ps)
  pub holds : Held held (text_of_all t ps)

-- one piece more that is known
pub come_known : (t : Table) (field rest next text : List ℕ) (held after held' : Option (ArrayVec ℕ)) (known known' : Result (Unit {0}) Flaw) (r : Reading)
    → Ok r ≡ reading_of (first rest) → given_known t r.gives ≡ true → text ≡ given_text t r.gives
    → ((u : List ℕ) → Held held u → Held after (u ++ text)) → next ≡ drop r.width rest → held' ≡ after → known' ≡ known
    → Come t field rest held known → Come t field next held' known'
come_known t field rest next text held after held' known known' r e is_known is more cut held_is known_is come =
    let p = read_piece (first (drop come.here field)) r (e ∙ ap (λ x. reading_of (first x)) come.left) in
    let P : List ℕ → Type 0 = Held after in
    let Q : Option (ArrayVec ℕ) → Type 0 = λ h. Held h (text_of_all t (come.ps ++ (p.0 ∷ []))) in
    let k : all_known t (come.ps ++ (p.0 ∷ [])) ≡ all_known t come.ps && true = all_push (λ x. given_known t (gives_of x)) come.ps p.0 ∙ ap (λ x. all_known t come.ps && x) (ap (given_known t) (sym p.2) ∙ is_known) in
    record {
      here = come.here + r.width;
      left = cut ∙ (ap (drop r.width) come.left ∙ drop-drop r.width come.here field);
      ps = come.ps ++ (p.0 ∷ []);
      walk = come_more piece_reader field come.here r.width come.ps p.0 p.1 p.3 come.walk;
      asked = known_is ∙ (come.asked ∙ sym (ap known_or (k ∙ go (all_known t come.ps))));
      holds = subst Q (sym held_is) (subst P (ap (λ x. text_of_all t come.ps ++ x) (is ∙ ap (given_text t) p.2) ∙ sym (text_push t come.ps p.0)) (more (text_of_all t come.ps) come.holds));
    }
  where
    go : (z : Bool) → z && true ≡ z
    go true = refl
    go false = refl

-- one piece more whose symbol is unknown
pub come_unknown : (t : Table) (field rest next : List ℕ) (held held' : Option (ArrayVec ℕ)) (known known' : Result (Unit {0}) Flaw) (r : Reading)
    → Ok r ≡ reading_of (first rest) → given_known t r.gives ≡ false → next ≡ drop r.width rest → held' ≡ held → known' ≡ Err UnknownSymbol
    → Come t field rest held known → Come t field next held' known'
come_unknown t field rest next held held' known known' r e no_text cut held_is known_is come =
    let p = read_piece (first (drop come.here field)) r (e ∙ ap (λ x. reading_of (first x)) come.left) in
    let P : List ℕ → Type 0 = Held held in
    let Q : Option (ArrayVec ℕ) → Type 0 = λ h. Held h (text_of_all t (come.ps ++ (p.0 ∷ []))) in
    let no : given_known t (gives_of p.0) ≡ false = ap (given_known t) (sym p.2) ∙ no_text in
    let k : all_known t (come.ps ++ (p.0 ∷ [])) ≡ all_known t come.ps && false = all_push (λ x. given_known t (gives_of x)) come.ps p.0 ∙ ap (λ x. all_known t come.ps && x) no in
    record {
      here = come.here + r.width;
      left = cut ∙ (ap (drop r.width) come.left ∙ drop-drop r.width come.here field);
      ps = come.ps ++ (p.0 ∷ []);
      walk = come_more piece_reader field come.here r.width come.ps p.0 p.1 p.3 come.walk;
      asked = known_is ∙ sym (ap known_or (k ∙ go (all_known t come.ps)));
      holds = subst Q (sym held_is) (subst P (sym (append-nil (text_of_all t come.ps)) ∙ (ap (λ x. text_of_all t come.ps ++ x) (sym (unknown_text t (gives_of p.0) no)) ∙ sym (text_push t come.ps p.0))) come.holds);
    }
  where
    go : (z : Bool) → z && false ≡ false
    go true = refl
    go false = refl

-- where bytes are left, the place is within the field
within : (field rest : List ℕ) (i : ℕ) → rest ≡ drop i field → 0 < length rest → i < length field
within field rest i e h = let d = length-drop i field in let n = ap length e in omega arith

-- a place where no piece stands breaks the field
pub come_broken : (t : Table) (field rest : List ℕ) (held : Option (ArrayVec ℕ)) (known : Result (Unit {0}) Flaw) (f : Flaw) → 0 < length rest
    → Err f ≡ reading_of (first rest) → Come t field rest held known → Refused t field f
come_broken t field rest held known f more e come =
    let n = none_read reading_of refl (λ p. (_, refl)) (first (drop come.here field)) f (e ∙ ap (λ x. reading_of (first x)) come.left) in
    let P : Flaw → Type 0 = Refused t field in
    subst P (sym n.1) (walk_broken field come.here come.ps (within field rest come.here come.left more) n.0 come.walk)
