-- A template whose number is less than the number of templates has a name.
use Rattle.std.proofs.Common.{◌≡◌, ℕ, zero, suc, ◌<◌, [], ◌∷◌, length, Some, refl, arith}
use Rattle.place_trace.specs.Replays.{name_or_none}
use Rattle.tpl_tree.specs.Forests.{ForestData, tree_name_at}

pub has-name : (forest : ForestData) (t : ℕ) → t < length forest → tree_name_at forest t ≡ Some (name_or_none (tree_name_at forest t))
has-name [] t lt = absurd (omega (arith, lt))
has-name (x ∷ forest) zero lt = refl
has-name (x ∷ forest) (suc t) lt = has-name forest t (omega (arith, lt))
