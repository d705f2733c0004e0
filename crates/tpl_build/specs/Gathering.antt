-- Which of the definitions of all files count.
use Rattle.std.specs.Prelude.{◌≡◌, ℕ, Bool, not, ◌&&◌, List, ◌++◌, Option, None, option_map, bytes_eq}
use Rattle.std.specs.List.{filter, find, flat_map, last_or}
use Rattle.std.specs.Option.{option_or}
use Rattle.tpl_build.specs.declared.definition.Def.{Def}
use Rattle.tpl_build.specs.declared.definition.File.{File}
use Rattle.tpl_tree.specs.Forests.{ForestData, tree_named}
use Rattle.tpl_tree.specs.Trees.{TreeData}

-- the definitions of all files, in order
abbrev pub all_defs : List File → List Def
all_defs files = flat_map (λ f. f.defs) files

-- whether a definition has this name
abbrev pub has_name : List ℕ → Def → Bool
has_name name def = bytes_eq def.name name

-- whether it has this name and is not blank
abbrev pub is_full : List ℕ → Def → Bool
is_full name def = has_name name def && not def.blank

-- the first definition of a name
abbrev pub first_named : List ℕ → List Def → Option Def
first_named name defs = find (has_name name) defs

-- the last definition of a name that is not blank
abbrev pub last_full : List ℕ → List Def → Option Def
last_full name defs = last_or None (filter (is_full name) defs)

-- the tree of a name: that of the last definition that is not blank, and else of the first
abbrev pub standing_definitions : List ℕ → List Def → Option TreeData
standing_definitions name defs = option_map (λ d. d.tree) (option_or (last_full name defs) (first_named name defs))

-- for each name a forest has this tree, and it has no others
abbrev pub HasStanding : List Def → ForestData → Type 0
HasStanding defs forest = (name : List ℕ) → tree_named name forest ≡ standing_definitions name defs

-- with these definitions more, whichever came before them
abbrev pub AddsDefs : List Def → ForestData → ForestData → Type 0
AddsDefs defs old new = (before : List Def) → HasStanding before old → HasStanding (before ++ defs) new
