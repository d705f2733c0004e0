-- A chain of sanitizers by the list of them. It has room for three: past those that count the last one stands again.
use Rattle.std.specs.Prelude.{List, [], ◌∷◌}
use Rattle.place_core.specs.declared.chain.Chain.{Chain}
use Rattle.place_core.specs.declared.san.San.{San}
use Rattle.place_core.specs.declared.san.San.TheVariants as san

abbrev pub chain_of : List San → Chain
chain_of [] = record { count = 0; sans = san.Drop ∷ san.Drop ∷ san.Drop ∷ [] }
chain_of (s ∷ []) = record { count = 1; sans = s ∷ s ∷ s ∷ [] }
chain_of (s ∷ t ∷ []) = record { count = 2; sans = s ∷ t ∷ t ∷ [] }
chain_of (s ∷ t ∷ u ∷ more) = record { count = 3; sans = s ∷ t ∷ u ∷ [] }
