-- Pieces one after the other: what is there is read, and only so.
use Rattle.std.proofs.Common.{◌≡◌, ℕ, ◌<◌, Bool, true, false, cond, not, ◌&&◌, eqb, leb, List, [], ◌∷◌, ◌++◌, length, take, drop, Some, None, sym, refl, ap, ◌∙◌, subst, ap₂, append_assoc, arith}
use Rattle.std.specs.List.{list_all}
use Rattle.std.proofs.lemmas.List.{take_at, drop_at}
use Rattle.std.proofs.lemmas.Bool.Decides.{nat_tests}
use Rattle.expressions.specs.Classes.{letter_or_digit}
use Rattle.expressions.specs.Pieces.{Piece, plain, percent, colons, symbol, joined, piece_written, begins, single, letter_first, goes_on, named, fits, Reads, OneReading}
use Rattle.expressions.specs.Firsts.{name_length, symbol_of, after_percent, first}
use Rattle.expressions.proofs.Starts.{both, and_true, not_true, run_is}
use Rattle.expressions.proofs.Naming.{first_sound}
use Rattle.expressions.proofs.Joining.{Reader, Come, come_next, one_join}

letter_is_no_percent : (cs rest : List ℕ) → letter_first cs ≡ true → (begins 37 (cs ++ rest) ≡ false) × (letter_first (cs ++ rest) ≡ true)
letter_is_no_percent [] rest e = absurd (cc)
letter_is_no_percent (c ∷ cs) rest e =
    let b = both (leb 65 c) (leb c 90) e in
    (grind (arith, nat_tests), e)

-- a name and what does not go on with it make a symbol
after_is : (cs rest : List ℕ) → named cs ≡ true → goes_on rest ≡ false → after_percent (cs ++ rest) ≡ Some (cond (single rest) (joined cs) (symbol cs))
after_is cs rest e f =
    let a = both (letter_first cs) (list_all letter_or_digit cs && leb (length cs) 7) e in
    let b = both (list_all letter_or_digit cs) (leb (length cs) 7) a.1 in
    let l = letter_is_no_percent cs rest a.0 in
    let n : name_length (cs ++ rest) ≡ length cs = run_is letter_or_digit cs rest b.0 f in
    let few : leb (name_length (cs ++ rest)) 7 ≡ true = ap (λ k. leb k 7) n ∙ b.1 in
    let t : take (name_length (cs ++ rest)) (cs ++ rest) ≡ cs = ap (λ k. take k (cs ++ rest)) n ∙ take_at cs rest _ refl in
    let d : drop (name_length (cs ++ rest)) (cs ++ rest) ≡ rest = ap (λ k. drop k (cs ++ rest)) n ∙ drop_at cs rest _ refl in
    let s : symbol_of (name_length (cs ++ rest)) (cs ++ rest) ≡ cond (single rest) (joined cs) (symbol cs) = ap₂ (λ x y. cond (single x) (joined y) (symbol y)) d t in
    let test : letter_first (cs ++ rest) && leb (name_length (cs ++ rest)) 7 ≡ true = and_true _ _ l.1 few in
    let P : Bool → Type 0 = λ z. cond z (Some percent) (cond (letter_first (cs ++ rest) && leb (name_length (cs ++ rest)) 7) (Some (symbol_of (name_length (cs ++ rest)) (cs ++ rest))) None) ≡ Some (cond (single rest) (joined cs) (symbol cs)) in
    let Q : Bool → Type 0 = λ z. cond z (Some (symbol_of (name_length (cs ++ rest)) (cs ++ rest))) None ≡ Some (cond (single rest) (joined cs) (symbol cs)) in
    subst P (sym l.0) (subst Q (sym test) (ap Some s))

-- a piece that may stand before what follows is read first
pub first_complete : (p : Piece) (rest : List ℕ) → fits p rest ≡ true → first (piece_written p ++ rest) ≡ Some p
first_complete (plain b) rest e =
    let a = both (not (eqb b 37)) (not (eqb b 58 && begins 58 rest)) e in
    let n : eqb b 37 ≡ false = not_true _ a.0 in
    let m : eqb b 58 && begins 58 rest ≡ false = not_true _ a.1 in
    let P : Bool → Type 0 = λ z. cond z (after_percent rest) (Some (cond (eqb b 58 && begins 58 rest) colons (plain b))) ≡ Some (plain b) in
    let Q : Bool → Type 0 = λ z. Some (cond z colons (plain b)) ≡ Some (plain b) in
    subst P (sym n) (subst Q (sym m) refl)
first_complete percent rest e = refl
first_complete colons rest e = refl
first_complete (symbol cs) rest e =
    let a = both (named cs) (not (goes_on rest) && not (single rest)) e in
    let b = both (not (goes_on rest)) (not (single rest)) a.1 in
    after_is cs rest a.0 (not_true _ b.0) ∙ ap (λ z. Some (cond z (joined cs) (symbol cs))) (not_true _ b.1)
first_complete (joined cs) rest e =
    let a = both (named cs) (not (begins 58 rest)) e in
    ap after_percent (append_assoc cs (58 ∷ []) rest) ∙ (after_is cs (58 ∷ rest) a.0 refl ∙ ap (λ z. Some (cond z (joined cs) (symbol cs))) a.1)

-- pieces are read from the left
abbrev pub piece_reader : Reader Piece
piece_reader = record { write = piece_written; may = fits; front = first; empty = refl; sound = first_sound; complete = first_complete }

-- a field has at most one list of pieces
pub one_reading : OneReading
one_reading ps qs field rp rq = one_join piece_reader ps qs field rp rq

-- a field with a place where no piece stands has none
pub walk_broken : (field : List ℕ) (i : ℕ) (ps : List Piece) → i < length field → first (drop i field) ≡ None → Come piece_reader field i ps → (qs : List Piece) → Reads qs field → ⊥
walk_broken field i ps more none walk qs r =
    let c = come_next piece_reader field i ps qs more walk r in
    let e : None ≡ Some c.0 = sym none ∙ c.2 in
    let z : ◌≡◌ {A = ℕ} 0 1 = cc in
    omega arith
