-- Piles of END layers over a text, and what a list of requests to one is answered.
use Rattle.std.specs.Prelude.{◌≡◌, ℕ, ◌+◌, List, [], ◌∷◌, None, codes, All}
use Rattle.sources.specs.Meaning.{Remains, spend}
use Rattle.sources.specs.Texts.{text_remains}
use Rattle.layers.specs.Ends.{end_remains}
use Rattle.piles.specs.declared.request.Request.{Request}
use Rattle.piles.specs.Requests.{Served, steps_of}
use Rattle.polling.specs.declared.shape.Shape.{Shape}
use Rattle.polling.specs.declared.shape.Shape.TheVariants.{Bare, OneEnd, TwoEnds, ThreeEnds, FourEnds}

-- the word for a shape: its layers, the bottom one first
abbrev pub name_of : Shape → List ℕ
name_of Bare = codes "-"
name_of OneEnd = codes "E"
name_of TwoEnds = codes "EE"
name_of ThreeEnds = codes "EEE"
name_of FourEnds = codes "EEEE"

-- what remains in a fresh pile of this shape over a text
abbrev pub shape_remains : Shape → List ℕ → Remains
shape_remains Bare text = text_remains text
shape_remains OneEnd text = end_remains (text_remains text)
shape_remains TwoEnds text = end_remains (end_remains (text_remains text))
shape_remains ThreeEnds text = end_remains (end_remains (end_remains (text_remains text)))
shape_remains FourEnds text = end_remains (end_remains (end_remains (end_remains (text_remains text))))

-- each request is served from what remains after the steps told before it
abbrev pub Answered : Remains → ℕ → List Request → List Request → Type 0
Answered m n [] [] = Unit {0}
Answered m n [] (a ∷ cs) = ⊥
Answered m n (b ∷ bs) [] = ⊥
Answered m n (b ∷ bs) (a ∷ cs) = Served (spend m n) b a × Answered m (n + steps_of a) bs cs

-- no request is made yet
abbrev pub Unmade : List Request → Type 0
Unmade qs = All (λ q. q.reply ≡ None) qs
