-- From each request to the whole list.
use Rattle.std.proofs.Common.{◌≡◌, ℕ, ◌+◌, ◌<◌, ◌≤◌, ◌⊎◌, ◌↔◌, List, [], ◌∷◌, ◌++◌, length, get_or, take, drop, set, None, Option, Result, sym, ap, ◌∙◌, subst, ap₂, inl, inr, add-zero, add_assoc, zero-add, arith}
use Rattle.std.proofs.lemmas.List.{take_more, take_more_set, take_all, drop_more, drop-set-lt}
use Rattle.std.proofs.lemmas.Bool.{cases_eq}
use Rattle.sources.specs.declared.answers.Answer.{Answer}
use Rattle.sources.specs.declared.answers.Refusal.{Refusal}
use Rattle.sources.specs.declared.answers.Told.{Told}
use Rattle.sources.specs.Meaning.{Remains, Untold, next_price, pay, spend, iterate, Paced}
use Rattle.sources.specs.Replies.{refusal_of, reply_of}
use Rattle.sources.proofs.Paying.{iterate_joins, paced_spend}
use Rattle.piles.specs.declared.request.Request.{Request}
use Rattle.piles.specs.Prices.{total, left, Longest}
use Rattle.piles.specs.Requests.{bytes_of, Served, steps_in, steps_of, steps_by, lines_in, lines_by, EndsIn, EndsBy, HoldsIn, Met, Each, Promise}
use Rattle.piles.proofs.Sums.{handed_by, handed_none, handed_joins, left_is, total_spend, untold_spend, longest_from, longest_is}
use Rattle.piles.proofs.Facts.{ReplyFacts, reply_facts}

-- what holds of one served request
pub record RequestFacts (m : Remains) (before after : Request) : Type 0 where
  pub within : steps_of after ≤ total m
  pub lines : lines_in after.reply (bytes_of after) ≡ handed_by m.lines (steps_of after)
  pub ends : EndsIn after.reply → steps_of after ≡ total m
  pub ended : Untold m → steps_of after ≡ total m → EndsIn after.reply
  pub holds : refusal_of (length (bytes_of before)) before.grant ≡ None → HoldsIn after.reply ↔ (before.grant < next_price m)

pub request_facts : (m : Remains) (before after : Request) → Served m before after → RequestFacts m before after
request_facts m before after s =
    let f = reply_facts m (bytes_of before) before.grant in
    let r = (reply_of m (bytes_of before) before.grant).answer in
    let P : List ℕ → Type 0 = λ b. ReplyFacts m (bytes_of before) before.grant r b in
    let g = subst P (sym s.buffer) f in
    let same = sym s.reply in
    let W : Option (Result (Answer (Told ℕ)) Refusal) → Type 0 = λ o. steps_in o ≤ total m in
    let L : Option (Result (Answer (Told ℕ)) Refusal) → Type 0 = λ o. lines_in o (bytes_of after) ≡ handed_by m.lines (steps_in o) in
    let E : Option (Result (Answer (Told ℕ)) Refusal) → Type 0 = λ o. EndsIn o → steps_in o ≡ total m in
    let D : Option (Result (Answer (Told ℕ)) Refusal) → Type 0 = λ o. Untold m → steps_in o ≡ total m → EndsIn o in
    let H : Option (Result (Answer (Told ℕ)) Refusal) → Type 0 = λ o. refusal_of (length (bytes_of before)) before.grant ≡ None → HoldsIn o ↔ (before.grant < next_price m) in
    record {
      within = subst W same g.within;
      lines = subst L same (g.lines s.lawful);
      ends = subst E same g.ends;
      ended = subst D same g.ended;
      holds = subst H same g.holds;
    }

module _ {K : Type 0} (meaning : K → Remains) (tick : K → K) (paced : Paced meaning tick) where
  pub met_from : (k : K) (n : ℕ) (before after : Request) → Served (meaning (iterate tick n k)) before after → Met meaning tick k n before after
  met_from k n before after s =
      let f = request_facts (meaning (iterate tick n k)) before after s in
      let e : next_price (meaning (iterate tick n k)) ≡ left (meaning k) n = ap next_price (paced_spend meaning tick paced n k) ∙ sym (left_is (meaning k) n) in
      let P : ℕ → Type 0 = λ x. refusal_of (length (bytes_of before)) before.grant ≡ None → HoldsIn after.reply ↔ (before.grant < x) in
      record { served = s; holds = subst P e f.holds }

  -- one request more
  pub each_push : (k : K) (n : ℕ) (bs cs : List Request) (b a : Request) → Each meaning tick k n bs cs
      → Served (meaning (iterate tick (n + steps_by cs) k)) b a → Each meaning tick k n (bs ++ b ∷ []) (cs ++ a ∷ [])
  each_push k n [] [] b a e s =
      let P : ℕ → Type 0 = λ x. Served (meaning (iterate tick x k)) b a in (met_from k n b a (subst P (add-zero n) s), tt)
  each_push k n [] (c ∷ cs) b a e s = absurd e
  each_push k n (d ∷ bs) [] b a e s = absurd e
  each_push k n (d ∷ bs) (c ∷ cs) b a (m, e) s =
      let P : ℕ → Type 0 = λ x. Served (meaning (iterate tick x k)) b a in
      (m, each_push k (n + steps_of c) bs cs b a e (subst P (sym (add_assoc n (steps_of c) (steps_by cs))) s))

  pub steps_push : (cs : List Request) (a : Request) → steps_by (cs ++ a ∷ []) ≡ steps_by cs + steps_of a
  steps_push [] a = omega arith
  steps_push (c ∷ cs) a = let ih = steps_push cs a in omega arith

  -- the facts of one request, by what remained at the start
  facts_at : (k : K) (n : ℕ) (b a : Request) → Met meaning tick k n b a → RequestFacts (spend (meaning k) n) b a
  facts_at k n b a m =
      let P : Remains → Type 0 = λ x. RequestFacts x b a in
      subst P (paced_spend meaning tick paced n k) (request_facts (meaning (iterate tick n k)) b a m.served)

  -- the lines that a list of requests hands out
  pub each_lines : (k : K) (n : ℕ) (bs cs : List Request) → Each meaning tick k n bs cs → lines_by cs ≡ handed_by (spend (meaning k) n).lines (steps_by cs)
  each_lines k n [] [] e = sym (handed_none (spend (meaning k) n).lines)
  each_lines k n [] (c ∷ cs) e = absurd e
  each_lines k n (b ∷ bs) [] e = absurd e
  each_lines k n (b ∷ bs) (c ∷ cs) (m, e) =
      let x = spend (meaning k) n in
      ap₂ (λ p q. p ++ q) (facts_at k n b c m).lines (each_lines k (n + steps_of c) bs cs e ∙ ap (λ y. handed_by y.lines (steps_by cs)) (sym (iterate_joins pay n (steps_of c) (meaning k))))
      ∙ sym (handed_joins x (steps_of c) (steps_by cs))

  -- the steps of a list of requests do not pass all prices
  pub each_within : (k : K) (n : ℕ) (bs cs : List Request) → Each meaning tick k n bs cs → n ≤ total (meaning k) → n + steps_by cs ≤ total (meaning k)
  each_within k n [] [] e h = omega arith
  each_within k n [] (c ∷ cs) e h = absurd e
  each_within k n (b ∷ bs) [] e h = absurd e
  each_within k n (b ∷ bs) (c ∷ cs) (m, e) h =
      let w = (facts_at k n b c m).within in
      let t = total_spend (meaning k) n in
      let ih = each_within k (n + steps_of c) bs cs e (omega arith) in
      omega (arith, ih)

  pub each_ends : (k : K) (n : ℕ) (bs cs : List Request) → Each meaning tick k n bs cs → n ≤ total (meaning k) → EndsBy cs → n + steps_by cs ≡ total (meaning k)
  each_ends k n [] [] e h t = absurd t
  each_ends k n [] (c ∷ cs) e h t = absurd e
  each_ends k n (b ∷ bs) [] e h t = absurd e
  each_ends k n (b ∷ bs) (c ∷ cs) (m, e) h (inl t) =
      let s = (facts_at k n b c m).ends t in
      let w = total_spend (meaning k) n in
      let l = each_within k n (b ∷ bs) (c ∷ cs) (m, e) h in
      omega arith
  each_ends k n (b ∷ bs) (c ∷ cs) (m, e) h (inr t) =
      let l = (facts_at k n b c m).within in
      let w = total_spend (meaning k) n in
      let ih = each_ends k (n + steps_of c) bs cs e (omega arith) t in
      omega (arith, ih)

  pub each_ended : (k : K) (n : ℕ) (bs cs : List Request) → Each meaning tick k n bs cs → Untold (meaning k) → n < total (meaning k)
      → n + steps_by cs ≡ total (meaning k) → EndsBy cs
  each_ended k n [] [] e u h s = absurd (omega arith)
  each_ended k n [] (c ∷ cs) e u h s = absurd e
  each_ended k n (b ∷ bs) [] e u h s = absurd e
  each_ended k n (b ∷ bs) (c ∷ cs) (m, e) u h s =
      go (cases_eq (steps_of c) (total (spend (meaning k) n))) (λ l. each_ended k (n + steps_of c) bs cs e u l (add_assoc n (steps_of c) (steps_by cs) ∙ s))
    where
      go : (steps_of c ≡ total (spend (meaning k) n)) ⊎ (steps_of c ≡ total (spend (meaning k) n) → ⊥) → (n + steps_of c < total (meaning k) → EndsBy cs) → EndsBy (c ∷ cs)
      go (inl same) rest = inl ((facts_at k n b c m).ended (untold_spend (meaning k) n u h) same)
      go (inr other) rest =
          let w = (facts_at k n b c m).within in
          let t = total_spend (meaning k) n in
          inr (rest (omega arith))

  pub promise_from : (k k' : K) (bs cs : List Request) → Each meaning tick k 0 bs cs → k' ≡ iterate tick (steps_by cs) k → Promise meaning tick k k' bs cs
  promise_from k k' bs cs e reached =
      let m = meaning k in
      let n = steps_by cs in
      let handed : lines_by cs ≡ handed_by m.lines n = each_lines k 0 bs cs e in
      let P : List (List ℕ) → Type 0 = λ ts. Longest m n ts in
      record {
        each = e;
        reached = reached;
        lines = subst P (sym handed) (longest_from m n);
        more = λ extra us l. (handed_by (spend m n).lines extra, longest_is m (n + extra) us l ∙ handed_joins m n extra ∙ ap (λ ts. ts ++ handed_by (spend m n).lines extra) (sym handed));
        ending = λ u. ((λ t. sym (zero-add n) ∙ each_ends k 0 bs cs e (omega arith) t), (λ s. each_ended k 0 bs cs e u (omega arith) (zero-add n ∙ s)));
      }

  -- one request more is made, and the others are as they were
  pub made_more : (k now now' : K) (i : ℕ) (old cur : List Request) (d a : Request) → i < length old → length cur ≡ length old
      → Each meaning tick k 0 (take i old) (take i cur) → drop i cur ≡ drop i old → now ≡ iterate tick (steps_by (take i cur)) k
      → Served (meaning now) (get_or cur i d) a → now' ≡ iterate tick (steps_of a) now
      → Each meaning tick k 0 (take (i + 1) old) (take (i + 1) (set cur i a)) × (drop (i + 1) (set cur i a) ≡ drop (i + 1) old)
      × (now' ≡ iterate tick (steps_by (take (i + 1) (set cur i a))) k)
  made_more k now now' i old cur d a w same each rest reached served moved =
      let w' : i < length cur = omega arith in
      let p = drop_more cur i d w' in
      let q = drop_more old i d w in
      let head : get_or cur i d ≡ get_or old i d = cc in
      let tail : drop (i + 1) cur ≡ drop (i + 1) old = cc in
      let olds : take (i + 1) old ≡ take i old ++ get_or old i d ∷ [] = take_more old i d w in
      let news : take (i + 1) (set cur i a) ≡ take i cur ++ a ∷ [] = take_more_set cur i a w' in
      let S : K → Type 0 = λ x. Served (meaning x) (get_or cur i d) a in
      let R : Request → Type 0 = λ b. Served (meaning (iterate tick (steps_by (take i cur)) k)) b a in
      let N : ℕ → Type 0 = λ n. Served (meaning (iterate tick n k)) (get_or old i d) a in
      let s = subst N (sym (zero-add (steps_by (take i cur)))) (subst R head (subst S reached served)) in
      let pushed = each_push k 0 (take i old) (take i cur) (get_or old i d) a each s in
      let E : List Request → Type 0 = λ xs. Each meaning tick k 0 xs (take i cur ++ a ∷ []) in
      let F : List Request → Type 0 = λ ys. Each meaning tick k 0 (take (i + 1) old) ys in (
        subst F (sym news) (subst E (sym olds) pushed),
        drop-set-lt (i + 1) cur i a (omega arith) ∙ tail,
        moved ∙ ap (iterate tick (steps_of a)) reached ∙ iterate_joins tick (steps_by (take i cur)) (steps_of a) k
            ∙ ap (λ n. iterate tick n k) (sym (ap steps_by news ∙ steps_push (take i cur) a)),
      )

  pub made_all : (k now : K) (i : ℕ) (old cur : List Request) → length old ≤ i → length cur ≡ length old
      → Each meaning tick k 0 (take i old) (take i cur) → now ≡ iterate tick (steps_by (take i cur)) k → Promise meaning tick k now old cur
  made_all k now i old cur w same each reached =
      let a = take_all i old w in
      let b = take_all i cur (omega arith) in
      let E : List Request → Type 0 = λ xs. Each meaning tick k 0 xs (take i cur) in
      let F : List Request → Type 0 = λ ys. Each meaning tick k 0 old ys in
      promise_from k now old cur (subst F b (subst E a each)) (reached ∙ ap (λ xs. iterate tick (steps_by xs) k) b)
