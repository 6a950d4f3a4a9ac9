-- Sources that mean the same answer the same.
use Rattle.std.proofs.Common.{◌≡◌, ℕ, ◌+◌, List, [], ◌∷◌, Some, sym, ap, ◌∙◌, ap₂}
use Rattle.sources.specs.Meaning.{Remains, Paced, iterate, spend}
use Rattle.sources.specs.Replies.{reply_of}
use Rattle.sources.proofs.Paying.{paced_spend}
use Rattle.piles.specs.declared.request.Request.{Request}
use Rattle.piles.specs.Requests.{bytes_of, Served, steps_in, steps_of, Each, SameRequests, SameAnswers}

served_same : (m m' : Remains) (b b' a a' : Request) → m ≡ m' → b.grant ≡ b'.grant → bytes_of b ≡ bytes_of b' → Served m b a → Served m' b' a'
    → (a.reply ≡ a'.reply) × (bytes_of a ≡ bytes_of a')
served_same m m' b b' a a' means grants bytes s s' =
    let same : reply_of m (bytes_of b) b.grant ≡ reply_of m' (bytes_of b') b'.grant = ap₂ (λ x g. reply_of x (bytes_of b) g) means grants ∙ ap (λ y. reply_of m' y b'.grant) bytes in
    (s.reply ∙ ap (λ r. Some r.answer) same ∙ sym s'.reply, s.buffer ∙ ap (λ r. r.buffer) same ∙ sym s'.buffer)

module _ {K L : Type 0} (meaning : K → Remains) (tick : K → K) (paced : Paced meaning tick) (means : L → Remains) (ticks : L → L) (paces : Paced means ticks) where
  pub each_same : (k : K) (l : L) (n n' : ℕ) (bs cs bs' cs' : List Request) → meaning k ≡ means l → n ≡ n' → SameRequests bs bs'
      → Each meaning tick k n bs cs → Each means ticks l n' bs' cs' → SameAnswers cs cs'
  each_same k l n n' [] [] [] [] e i q x y = tt
  each_same k l n n' [] [] [] (c ∷ cs) e i q x y = absurd y
  each_same k l n n' [] (c ∷ cs) [] cs' e i q x y = absurd x
  each_same k l n n' [] cs (b ∷ bs) cs' e i q x y = absurd q
  each_same k l n n' (b ∷ bs) cs [] cs' e i q x y = absurd q
  each_same k l n n' (b ∷ bs) [] (d ∷ ds) cs' e i q x y = absurd x
  each_same k l n n' (b ∷ bs) (c ∷ cs) (d ∷ ds) [] e i q x y = absurd y
  each_same k l n n' (b ∷ bs) (c ∷ cs) (d ∷ ds) (f ∷ fs) e i (g, o, q) (m, x) (m', y) =
      let at : meaning (iterate tick n k) ≡ means (iterate ticks n' l) =
      paced_spend meaning tick paced n k ∙ ap₂ spend e i ∙ sym (paced_spend means ticks paces n' l) in
      let s = served_same (meaning (iterate tick n k)) (means (iterate ticks n' l)) b d c f at g o m.served m'.served in
      let j : n + steps_of c ≡ n' + steps_of f = ap₂ (λ u v. u + v) i (ap steps_in s.0) in
      (s.0, s.1, each_same k l (n + steps_of c) (n' + steps_of f) bs cs ds fs e j q x y)
