-- The tree with the number of a name is the tree with that name.
use Rattle.std.proofs.Common.{◌≡◌, ℕ, Bool, suc, List, [], ◌∷◌, true, false, bytes_eq, Option, Some, None, option_map, option_and_then, refl, ◌∙◌}
use Rattle.tpl_tree.specs.Forests.{tree_named, number_named, tree_at}
use Rattle.tpl_tree.specs.Trees.{TreeData}

abbrev pub Named : Type 0
Named = List ℕ × TreeData

later : (t : Named) (ts : List Named) (o : Option ℕ) → option_and_then (tree_at (t ∷ ts)) (option_map suc o) ≡ option_and_then (tree_at ts) o
later t ts None = refl
later t ts (Some n) = refl

at_head : (name : List ℕ) (t : Named) (ts : List Named) (b : Bool) → bytes_eq t.0 name ≡ b → option_and_then (tree_at ts) (number_named name ts) ≡ tree_named name ts
    → option_and_then (tree_at (t ∷ ts)) (number_named name (t ∷ ts)) ≡ tree_named name (t ∷ ts)
at_head name t ts true e h = rw e refl
at_head name t ts false e h = rw e (later t ts (number_named name ts) ∙ h)

pub tree_at-number_named : (name : List ℕ) (ts : List Named) → option_and_then (tree_at ts) (number_named name ts) ≡ tree_named name ts
tree_at-number_named name [] = refl
tree_at-number_named name (t ∷ ts) = at_head name t ts (bytes_eq t.0 name) refl (tree_at-number_named name ts)
