-- Apostrophes and parentheses: where a byte stands outside them, what is closed, and the parts between commas.
use Rattle.std.specs.Prelude.{ℕ, suc, pred, ◌+◌, Bool, false, cond, not, ◌&&◌, List, [], ◌∷◌, ◌==◌}
use Rattle.lines.specs.declared.nest.Nest.{Nest}

-- between apostrophes or not, and so many parentheses open
abbrev pub nest : Bool → ℕ → Nest
nest q d = record { quoted = q; depth = d }

abbrev pub start : Nest
start = nest false 0

-- outside apostrophes and parentheses
abbrev pub outside : Nest → Bool
outside s = not s.quoted && s.depth == 0

-- one byte more: parentheses between apostrophes do not count, nor does a closing one with none open
abbrev pub nest_by : Bool → ℕ → ℕ → Nest
nest_by q d b =
    cond (b == 39) (nest (not q) d)
    (cond q (nest q d)
    (cond (b == 40) (nest q (d + 1))
    (cond (b == 41) (nest q (pred d)) (nest q d))))

abbrev pub past : Nest → ℕ → Nest
past s b = nest_by s.quoted s.depth b

-- after all bytes
abbrev pub past_all : Nest → List ℕ → Nest
past_all s [] = s
past_all s (b ∷ bs) = past_all (past s b) bs

-- apostrophes and parentheses are closed
abbrev pub closed : List ℕ → Bool
closed bs = outside (past_all start bs)

-- how many bytes stand before the first such byte that is outside
abbrev pub end_by : ℕ → Nest → List ℕ → ℕ
end_by stop s [] = 0
end_by stop s (b ∷ bs) = cond (b == stop && outside s) 0 (suc (end_by stop (past s b) bs))

-- how many bytes stand before the first comma outside, and before the first blank outside
abbrev pub first_comma : List ℕ → ℕ
first_comma bs = end_by 44 start bs

abbrev pub operand_end : List ℕ → ℕ
operand_end bs = end_by 32 start bs
