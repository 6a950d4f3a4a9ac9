use Rattle.std.proofs.Common.{◌≡◌, take, drop}
use Rattle.sources.specs.Meaning.{iterate}
use Rattle.piles.specs.Requests.{Each, steps_by}
use Rattle.piles.proofs.requests.make_requests.Given as goal

abbrev pub invariant-loop-request : goal.invariant-loop-request
invariant-loop-request g l =
    Each g.S.Source.meaning g.S.Source.tick (g.S.Source.kept l.initial.pile) 0 (take l.request-index l.initial.requests) (take l.request-index l.requests)
    × (drop l.request-index l.requests ≡ drop l.request-index l.initial.requests)
    × (g.S.Source.kept l.pile ≡ iterate g.S.Source.tick (steps_by (take l.request-index l.requests)) (g.S.Source.kept l.initial.pile))
