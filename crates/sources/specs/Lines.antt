-- A line, and how it stands in a buffer.
use Rattle.std.specs.Prelude.{ℕ, List, ◌++◌, drop}
use Rattle.lines.specs.Names.{padded_to}

-- a line filled with blanks to 80 bytes
unfoldable pub filled : List ℕ → List ℕ
filled t = padded_to 80 t

-- a buffer with a line in its first 80 bytes; no other byte changes
abbrev pub written : List ℕ → List ℕ → List ℕ
written t buffer = filled t ++ drop 80 buffer
