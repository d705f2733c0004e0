-- Whether a variable is declared, by the number of its first declaration.
use Rattle.std.specs.Prelude.{◌≡◌, ℕ, nat_eq, suc, if◌then◌else◌, List, [], ◌∷◌, Option, Some, None, option_map}
use Rattle.std.specs.BTreeMap.{BTreeMap, get}
use Rattle.std.specs.Cmp.Lexicographic.{pointwise, slice_cmp}
use Rattle.std.specs.Ordering.{nat_cmp}

-- the number of the first of these names that is this one
abbrev pub variable_number : List ℕ → List (List ℕ) → Option ℕ
variable_number name [] = None
variable_number name (x ∷ xs) = if pointwise nat_eq x name then Some 0 else option_map suc (variable_number name xs)

-- A map has the number of each of these names; of others it may say anything.
abbrev pub AreNumbered : List (List ℕ) → BTreeMap (List ℕ) ℕ → Type 0
AreNumbered names numbers = (name : List ℕ) (i : ℕ) → variable_number name names ≡ Some i → get (slice_cmp nat_cmp) numbers name ≡ Some i
