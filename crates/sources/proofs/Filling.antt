-- A line filled with blanks.
use Rattle.std.proofs.Common.{◌≡◌, ℕ, ◌≤◌, List, ◌++◌, length, length-take-le, take, drop, ap, ◌∙◌, ap₂}
use Rattle.lines.specs.Names.{padded_to}
use Rattle.lines.proofs.Fills.{length_fills, take_fills}
use Rattle.sources.specs.Lines.{filled, written}

pub length_filled : (t : List ℕ) → length (filled t) ≡ 80
unfolding filled
length_filled t = length_fills 80 32 t

pub take_filled : (t : List ℕ) → length t ≤ 80 → take (length t) (filled t) ≡ t
unfolding filled
take_filled t h = take_fills 80 32 t h

-- a text is written over the first 80 bytes of a buffer
pub written_by : (bytes t text buffer : List ℕ) → 80 ≤ length buffer → bytes ≡ padded_to (length (take 80 buffer)) t → t ≡ text
    → bytes ++ drop 80 buffer ≡ written text buffer
unfolding filled
written_by bytes t text buffer big over same = ap (λ b. b ++ drop 80 buffer) (over ∙ ap₂ padded_to (length-take-le 80 buffer big) same)

-- bytes with blanks behind their first n are those filled
pub blank_filled : (n : ℕ) (bytes : List ℕ) → bytes ≡ padded_to 80 (take n bytes) → bytes ≡ filled (take n bytes)
unfolding filled
blank_filled n bytes e = e

pub filled_blank : (n : ℕ) (bytes : List ℕ) → bytes ≡ filled (take n bytes) → bytes ≡ padded_to 80 (take n bytes)
unfolding filled
filled_blank n bytes e = e
