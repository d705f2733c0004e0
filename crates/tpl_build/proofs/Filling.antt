-- The definition with a number gets its tree.
use Rattle.std.proofs.Common.{◌≡◌, ℕ, zero, suc, ◌<◌, ◌≤◌, Bool, List, [], ◌∷◌, length, slice_index_or, slice_set, refl, ap, arith}
use Rattle.tpl_build.specs.Building.{frame_filled, filled_one}
use Rattle.tpl_build.specs.declared.definition.FoundDefinition.{FoundDefinition}
use Rattle.tpl_tree.specs.Trees.{TreeData}

pub filled_past : (slot : ℕ) (blank : Bool) (tree : TreeData) (found : List FoundDefinition) → length found ≤ slot → frame_filled slot blank tree found ≡ found
filled_past slot blank tree [] h = refl
filled_past zero blank tree (f ∷ found) h = absurd (omega (arith, h))
filled_past (suc slot) blank tree (f ∷ found) h = ap (λ (xs : List FoundDefinition). f ∷ xs) (filled_past slot blank tree found (omega (arith, h)))

pub filled_at : (slot : ℕ) (blank : Bool) (tree : TreeData) (found : List FoundDefinition) (f : FoundDefinition) → slot < length found → f ≡ slice_index_or found slot f → slice_set found slot (filled_one blank tree f) ≡ frame_filled slot blank tree found
filled_at slot blank tree [] f h e = absurd (omega (arith, h))
filled_at zero blank tree (x ∷ found) f h e = ap (λ (y : FoundDefinition). filled_one blank tree y ∷ found) e
filled_at (suc slot) blank tree (x ∷ found) f h e = ap (λ (xs : List FoundDefinition). x ∷ xs) (filled_at slot blank tree found f (omega (arith, h)) e)
