-- Forests of which each `break` and `continue` stands in a range, as in those of files that are parsed.
use Rattle.std.specs.Prelude.{◌≡◌, ℕ, Bool, true, false, List, Some, ⊤}
use Rattle.tpl_tree.specs.Forests.{ForestData, tree_named}
use Rattle.tpl_tree.specs.Trees.{NodesData, TreeData, no_nodes, node}
use Rattle.tpl_tree.specs.declared.node_kind.NodeKind.{NodeKind}
use Rattle.tpl_tree.specs.declared.node_kind.NodeKind.TheVariants as kind

-- a `break` and a `continue` stand only where a turn of a range may end
abbrev pub MayStand : Bool → NodeKind → Type 0
MayStand in_range kind.Break = in_range ≡ true
MayStand in_range kind.Continue = in_range ≡ true
MayStand in_range _ = ⊤

-- whether a turn of a range may end in the first part of a node
abbrev pub part_in_range : Bool → NodeKind → Bool
part_in_range in_range (kind.Range index element pipe) = true
part_in_range in_range _ = in_range

-- each of some nodes may stand there, and so may those of their parts
abbrev pub BreaksStand : Bool → NodesData → Type 0
BreaksStand in_range no_nodes = ⊤
BreaksStand in_range (node what line seams first other rest) =
    MayStand in_range what × BreaksStand (part_in_range in_range what) first × BreaksStand in_range other × BreaksStand in_range rest

-- each `break` and `continue` of each template stands in the first part of a range
abbrev pub HasBreaksInRanges : ForestData → Type 0
HasBreaksInRanges forest = (name : List ℕ) (tree : TreeData) → tree_named name forest ≡ Some tree → BreaksStand false tree.nodes
