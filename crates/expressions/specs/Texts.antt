-- A text by value.
use Rattle.std.specs.Prelude.{ℕ, List, take}
use Rattle.expressions.specs.declared.text.Text.{Text}

-- the bytes of a text
abbrev pub text_of : Text → List ℕ
text_of t = take t.bytes.len t.bytes.bytes
