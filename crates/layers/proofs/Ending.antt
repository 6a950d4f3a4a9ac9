-- The END layer's rule gives the lines up to and with END.
use Rattle.std.proofs.Common.{◌≡◌, ℕ, Bool, true, false, List, [], ◌∷◌, refl, ap}
use Rattle.sources.specs.Faults.{Ending}
use Rattle.sources.specs.Meaning.{Priced, Remains}
use Rattle.layers.specs.Ends.{is_end, end_or, up_to_end, end_remains, end_rule}
use Rattle.layers.specs.Engine.{and_then, working, taking, layered}

end_taking : (ps : List Priced) (e : Ending) (d : ℕ) → taking end_rule ps e d false ≡ up_to_end ps e d
unfolding taking working
end_taking [] e d = refl
end_taking (p ∷ ps) e d = go (is_end p.text) (end_taking ps e d)
  where
    go : (z : Bool) → taking end_rule ps e d false ≡ up_to_end ps e d
        → and_then p.text p.beyond (working end_rule 1 (taking end_rule ps e d) z) ≡ end_or z p (up_to_end ps e d)
    go true ih = refl
    go false ih = ap (and_then p.text p.beyond) ih

pub end_layered : (m : Remains) → layered end_rule false m ≡ end_remains m
unfolding layered working end_remains
end_layered m = end_taking m.lines m.ending m.due
