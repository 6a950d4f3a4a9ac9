-- What holds of any list of requests to any source.
use Rattle.std.specs.Prelude.{◌≡◌, ℕ, ◌+◌, ◌<◌, ◌⊎◌, ◌↔◌, List, [], ◌∷◌, ◌++◌, length, take, Some, None, Ok, Err, vec_items, Option, Result}
use Rattle.sources.specs.declared.answers.Answer.{Answer}
use Rattle.sources.specs.declared.answers.Refusal.{Refusal}
use Rattle.sources.specs.declared.answers.Told.{Told}
use Rattle.sources.specs.declared.answers.Told.TheVariants.{Line, Held, Ended}
use Rattle.sources.specs.Meaning.{Remains, Untold, iterate}
use Rattle.sources.specs.Replies.{Lawful, refusal_of, reply_of, spent_by}
use Rattle.piles.specs.declared.request.Request.{Request}
use Rattle.piles.specs.Prices.{Begins, Longest, left, total}

-- the bytes of a request's buffer
abbrev pub bytes_of : Request → List ℕ
bytes_of q = vec_items q.buffer

-- a request is served from what remained: its reply is stored, its buffer holds what the reply says, its grant stays
pub record Served (m : Remains) (before after : Request) : Type 0 where
  pub grant : after.grant ≡ before.grant
  pub reply : after.reply ≡ Some (reply_of m (bytes_of before) before.grant).answer
  pub buffer : bytes_of after ≡ (reply_of m (bytes_of before) before.grant).buffer
  -- a line that is handed out has 0 to 80 characters
  pub lawful : Lawful (reply_of m (bytes_of before) before.grant).answer (bytes_of after)

-- the steps that a reply tells
abbrev pub steps_in : Option (Result (Answer (Told ℕ)) Refusal) → ℕ
steps_in None = 0
steps_in (Some r) = spent_by r

abbrev pub steps_of : Request → ℕ
steps_of q = steps_in q.reply

-- the steps that some replies tell together
abbrev pub steps_by : List Request → ℕ
steps_by [] = 0
steps_by (q ∷ qs) = steps_of q + steps_by qs

-- the lines that some replies hand out, in order
abbrev pub told_lines : Told ℕ → List ℕ → List (List ℕ)
told_lines (Line n) buffer = take n buffer ∷ []
told_lines Held buffer = []
told_lines (Ended e) buffer = []

abbrev pub lines_in : Option (Result (Answer (Told ℕ)) Refusal) → List ℕ → List (List ℕ)
lines_in None buffer = []
lines_in (Some (Ok a)) buffer = told_lines a.told buffer
lines_in (Some (Err r)) buffer = []

abbrev pub lines_by : List Request → List (List ℕ)
lines_by [] = []
lines_by (q ∷ qs) = lines_in q.reply (bytes_of q) ++ lines_by qs

-- a reply tells the ending
abbrev pub EndsTold : Told ℕ → Type 0
EndsTold (Line n) = ⊥
EndsTold Held = ⊥
EndsTold (Ended e) = Unit {0}

abbrev pub EndsIn : Option (Result (Answer (Told ℕ)) Refusal) → Type 0
EndsIn None = ⊥
EndsIn (Some (Ok a)) = EndsTold a.told
EndsIn (Some (Err r)) = ⊥

-- one of some replies tells the ending
abbrev pub EndsBy : List Request → Type 0
EndsBy [] = ⊥
EndsBy (q ∷ qs) = EndsIn q.reply ⊎ EndsBy qs

-- a reply holds the request over
abbrev pub HoldsTold : Told ℕ → Type 0
HoldsTold (Line n) = ⊥
HoldsTold Held = Unit {0}
HoldsTold (Ended e) = ⊥

abbrev pub HoldsIn : Option (Result (Answer (Told ℕ)) Refusal) → Type 0
HoldsIn None = ⊥
HoldsIn (Some (Ok a)) = HoldsTold a.told
HoldsIn (Some (Err r)) = ⊥

-- one request when n steps are spent: it finds the pile as the rules reach it by n steps, and, if it is not refused,
-- it is held over exactly when what is left of the price is above its grant
pub record Met {K : Type 0} (meaning : K → Remains) (tick : K → K) (k : K) (n : ℕ) (before after : Request) : Type 0 where
  pub served : Served (meaning (iterate tick n k)) before after
  pub holds : refusal_of (length (bytes_of before)) before.grant ≡ None → HoldsIn after.reply ↔ (before.grant < left (meaning k) n)

-- the same of each request in turn
abbrev pub Each : {K : Type 0} → (K → Remains) → (K → K) → K → ℕ → List Request → List Request → Type 0
Each meaning tick k n [] [] = Unit {0}
Each meaning tick k n [] (a ∷ cs) = ⊥
Each meaning tick k n (b ∷ bs) [] = ⊥
Each meaning tick k n (b ∷ bs) (a ∷ cs) = Met meaning tick k n b a × Each meaning tick k (n + steps_of a) bs cs

-- what holds of a list of requests, made to a source that kept k before and keeps k' after
pub record Promise {K : Type 0} (meaning : K → Remains) (tick : K → K) (k k' : K) (before after : List Request) : Type 0 where
  -- each request, by the steps spent before it
  pub each : Each meaning tick k 0 before after
  -- every layer is as the rules reach it by exactly the steps told
  pub reached : k' ≡ iterate tick (steps_by after) k
  -- the lines handed out are the longest beginning that the steps pay for
  pub lines : Longest (meaning k) (steps_by after) (lines_by after)
  -- more steps only add lines
  pub more : (extra : ℕ) (us : List (List ℕ)) → Longest (meaning k) (steps_by after + extra) us → Begins (lines_by after) us
  -- the ending is told exactly when all prices, its own too, are paid
  pub ending : Untold (meaning k) → EndsBy after ↔ (steps_by after ≡ total (meaning k))

-- two lists ask the same: the same grants and the same bytes in the buffers
abbrev pub SameRequests : List Request → List Request → Type 0
SameRequests [] [] = Unit {0}
SameRequests [] (y ∷ ys) = ⊥
SameRequests (x ∷ xs) [] = ⊥
SameRequests (x ∷ xs) (y ∷ ys) = (x.grant ≡ y.grant) × (bytes_of x ≡ bytes_of y) × SameRequests xs ys

-- two lists are answered the same: the same replies and the same bytes in the buffers
abbrev pub SameAnswers : List Request → List Request → Type 0
SameAnswers [] [] = Unit {0}
SameAnswers [] (y ∷ ys) = ⊥
SameAnswers (x ∷ xs) [] = ⊥
SameAnswers (x ∷ xs) (y ∷ ys) = (x.reply ≡ y.reply) × (bytes_of x ≡ bytes_of y) × SameAnswers xs ys
