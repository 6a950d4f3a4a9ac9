-- A name written into the first row that is free.
use Rattle.std.proofs.Common.{ℕ, ◌+◌, ◌-◌, ◌<◌, List, drop, replicate, set, sym, ap, ◌∙◌, arith}
use Rattle.std.proofs.lemmas.List.{drop-set-lt, drop-drop, drop-replicate, length-set}
use Rattle.libraries.specs.Tables.{Table, blank_rows}

-- the table keeps what it has, with one name more
pub one_more : (n count : ℕ) (rows : List (List ℕ)) (name : List ℕ) → count < n → Table n count rows → Table n (count + 1) (set rows count name)
one_more n count rows name room h =
    record {
      fits = omega arith;
      sized = length-set rows count name ∙ h.sized;
      blank =
          drop-set-lt (count + 1) rows count name (omega arith)
          ∙ sym (drop-drop 1 count rows)
          ∙ ap (drop 1) h.blank
          ∙ drop-replicate 1 (n - count) (replicate 8 32)
          ∙ ap blank_rows (omega arith);
    }
