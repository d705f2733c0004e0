-- Stacks, from the top on.
use Rattle.std.specs.Prelude.{◌≡◌, List, [], ◌∷◌, Option, Some, None}

-- what taking the top of a stack gives, and what stays
abbrev pub Popped : {X : Type 0} → List X → Option X → List X → Type 0
Popped old None new = (old ≡ []) × (new ≡ [])
Popped old (Some top) new = old ≡ top ∷ new

module _ {X : Type 0} where
  -- this one is on top
  abbrev pub HasTop : X → List X → Type 0
  HasTop top all = (below : List X) × (all ≡ top ∷ below)
