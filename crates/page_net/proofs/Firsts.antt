-- What holds of each value holds of the first one.
use Rattle.std.proofs.Common.{◌≡◌, List, ◌∷◌, subst}
use Rattle.std.specs.List.{All}
use Rattle.std.proofs.lemmas.List.Elements.{All-head}

pub first_has : {X : Type 0} (P : X → Type 0) (all rest : List X) (first : X) → all ≡ first ∷ rest → All P all → P first
first_has P all rest first e h = All-head P first rest (subst (All P) e h)
