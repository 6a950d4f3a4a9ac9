-- From a list of requests to any source to what is answered of its meaning.
use Rattle.std.proofs.Common.{ℕ, ◌+◌, List, [], ◌∷◌, subst}
use Rattle.sources.specs.Meaning.{Remains, Paced}
use Rattle.sources.proofs.Paying.{paced_spend}
use Rattle.piles.specs.declared.request.Request.{Request}
use Rattle.piles.specs.Requests.{Each, Served, steps_of}
use Rattle.polling.specs.Shapes.{Answered}

module _ {K : Type 0} (meaning : K → Remains) (tick : K → K) (paced : Paced meaning tick) where
  pub answered : (k : K) (n : ℕ) (bs cs : List Request) → Each meaning tick k n bs cs → Answered (meaning k) n bs cs
  answered k n [] [] e = tt
  answered k n [] (c ∷ cs) e = absurd e
  answered k n (b ∷ bs) [] e = absurd e
  answered k n (b ∷ bs) (c ∷ cs) (m, e) =
      let P : Remains → Type 0 = λ x. Served x b c in
      (subst P (paced_spend meaning tick paced n k) m.served, answered k (n + steps_of c) bs cs e)
