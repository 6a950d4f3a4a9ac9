-- Replies as POLL prints them.
use Rattle.std.specs.Prelude.{ℕ, List, [], ◌∷◌, ◌++◌, take, Some, None, Ok, Err, codes, decimal, Option, Result}
use Rattle.sources.specs.declared.answers.Answer.{Answer}
use Rattle.sources.specs.declared.answers.Refusal.{Refusal}
use Rattle.sources.specs.declared.answers.Told.{Told}
use Rattle.sources.specs.declared.answers.Told.TheVariants.{Line, Held, Ended}
use Rattle.listing.specs.declared.parts.FaultParts.{FaultParts}
use Rattle.listing.specs.Listing.{parts_of, parts_shown}
use Rattle.piles.specs.declared.request.Request.{Request}
use Rattle.piles.specs.Requests.{bytes_of}
use Rattle.sources.specs.Faults.{Ending, refusal_number}

-- "line SPENT LENGTH text"
abbrev pub head_shown : ℕ → ℕ → List ℕ
head_shown spent size = codes "line " ++ (decimal spent ++ (codes " " ++ (decimal size ++ codes " ")))

abbrev pub line_shown : ℕ → ℕ → List ℕ → List ℕ
line_shown spent size buffer = head_shown spent size ++ take size buffer ++ 10 ∷ []

-- "fault SPENT number depth line definition statement"
abbrev pub fault_told : ℕ → FaultParts → List ℕ
fault_told spent p = codes "fault " ++ (decimal spent ++ (codes " " ++ parts_shown p))

-- "end SPENT", or the fault
abbrev pub end_shown : Ending → ℕ → List ℕ
end_shown (Ok u) spent = codes "end " ++ (decimal spent ++ (10 ∷ []))
end_shown (Err f) spent = fault_told spent (parts_of f)

-- "held SPENT"
abbrev pub answer_shown : Told ℕ → ℕ → List ℕ → List ℕ
answer_shown (Line n) spent buffer = line_shown spent n buffer
answer_shown Held spent buffer = codes "held " ++ (decimal spent ++ (10 ∷ []))
answer_shown (Ended e) spent buffer = end_shown e spent

-- "refused NUMBER", or "pending" where the request is not made yet
abbrev pub reply_shown : Option (Result (Answer (Told ℕ)) Refusal) → List ℕ → List ℕ
reply_shown None buffer = codes "pending\n"
reply_shown (Some (Err r)) buffer = codes "refused " ++ (decimal (refusal_number r) ++ (10 ∷ []))
reply_shown (Some (Ok a)) buffer = answer_shown a.told a.spent buffer

-- the replies of a list of requests, one after the other
abbrev pub replies_shown : List Request → List ℕ
replies_shown [] = []
replies_shown (q ∷ qs) = reply_shown q.reply (bytes_of q) ++ replies_shown qs
