-- The forests of templates: trees with names, in byte order of the names, each name once.
use Rattle.std.specs.Prelude.{ℕ, List, [], ◌∷◌, Option, Some, None, if◌then◌else◌, bytes_eq, option_map, slice_get}
use Rattle.page_io.specs.Keys.{HaveAscendingKeys, key_number}
use Rattle.tpl_tree.specs.Trees.{TreeData}

-- trees with their names
abbrev pub ForestData : Type 0
ForestData = List (List ℕ × TreeData)

-- the names ascend in byte order, each once
abbrev pub HasAscendingNames : ForestData → Type 0
HasAscendingNames trees = HaveAscendingKeys trees

-- the tree with a name
abbrev pub tree_named : List ℕ → ForestData → Option TreeData
tree_named name [] = None
tree_named name (t ∷ trees) = if bytes_eq t.0 name then Some t.1 else tree_named name trees

-- the number of the tree with a name: its offset, from 0
abbrev pub number_named : List ℕ → ForestData → Option ℕ
number_named name trees = key_number name trees

-- the name of the tree with a number
abbrev pub tree_name_at : ForestData → ℕ → Option (List ℕ)
tree_name_at trees n = option_map (λ t. t.0) (slice_get trees n)

-- the tree with a number
abbrev pub tree_at : ForestData → ℕ → Option TreeData
tree_at trees n = option_map (λ t. t.1) (slice_get trees n)
