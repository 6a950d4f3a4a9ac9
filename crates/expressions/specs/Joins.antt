-- Bytes as the join of parts, read from the left.
use Rattle.std.specs.Prelude.{◌≡◌, ℕ, Bool, true, ◌&&◌, List, [], ◌∷◌, ◌++◌}

-- how parts are written: the join of theirs
abbrev pub join_of : {P : Type 0} → (P → List ℕ) → List P → List ℕ
join_of write [] = []
join_of write (p ∷ ps) = write p ++ join_of write ps

-- each part may stand before what follows it, up to these last bytes
abbrev pub lawful_of : {P : Type 0} → (P → List ℕ) → (P → List ℕ → Bool) → List P → List ℕ → Bool
lawful_of write may [] end = true
lawful_of write may (p ∷ ps) end = may p (join_of write ps ++ end) && lawful_of write may ps end

-- the parts of bytes
abbrev pub PartsOf : {P : Type 0} → (P → List ℕ) → (P → List ℕ → Bool) → List P → List ℕ → Type 0
PartsOf write may ps bytes = (join_of write ps ≡ bytes) × (lawful_of write may ps [] ≡ true)
