-- The newest variable of a name, by its number, which is counted from the oldest one.
use Rattle.std.specs.Prelude.{◌≡◌, ℕ, List, [], ◌∷◌, length, Option, Some, None, if◌then◌else◌, bytes_eq, ⊤}
use Rattle.std.specs.Borrow.{Bor}
use Rattle.std.specs.BTreeMap.{BTreeMap, get_by}
use Rattle.std.specs.Cmp.Lexicographic.{slice_cmp}
use Rattle.std.specs.Ordering.{nat_cmp}
use Rattle.page_datum.specs.Data.{Data}
use Rattle.tpl_eval.specs.Values.{value_view}
use Rattle.tpl_eval.specs.declared.variable_stack.Variable.{Variable}

-- the number of the newest one of a name; each name stands with something, the newest first
abbrev pub newest_at : {A : Type 0} → List ℕ → List (List ℕ × A) → Option ℕ
newest_at name [] = None
newest_at name (v ∷ vs) = if bytes_eq v.0 name then Some (length vs) else newest_at name vs

-- what contracts see of a variable of the code
abbrev pub variable_view : Variable → List ℕ × Data
variable_view v = (v.name.now, value_view v.value)

-- its name, with the number of the variable that it hides
abbrev pub label : Variable → List ℕ × Option ℕ
label v = (v.name.now, v.hidden)

-- A map has the number of the newest variable of each name that has one; of other names it may say anything.
abbrev pub HasNewest : List (List ℕ × Option ℕ) → BTreeMap (Bor (List ℕ)) ℕ → Type 0
HasNewest labels newest = (name : List ℕ) (i : ℕ) → newest_at name labels ≡ Some i → get_by (λ (key : Bor (List ℕ)). slice_cmp nat_cmp name key.now) newest ≡ Some i

-- Each variable, the newest first, has the number of the newest older one of its name.
abbrev pub HaveHidden : List (List ℕ × Option ℕ) → Type 0
HaveHidden [] = ⊤
HaveHidden (l ∷ ls) = (l.1 ≡ newest_at l.0 ls) × HaveHidden ls

-- the names of variables with what they hide, the newest first, and the map
pub record AreFound (labels : List (List ℕ × Option ℕ)) (newest : BTreeMap (Bor (List ℕ)) ℕ) : Type 0 where
  pub has : HasNewest labels newest
  pub hidden : HaveHidden labels
