-- The templates of a forest by their numbers: their nodes, where they begin, and their edges.
use Rattle.std.specs.Prelude.{Bool, true, false, ℕ, ◌+◌, ◌*◌, List, Option, Some, None}
use Rattle.tpl_tree.specs.Forests.{ForestData, tree_at}
use Rattle.tpl_tree.specs.Trees.{NodesData, nodes_size}
use Rattle.tpl_paths.specs.Edges.{Edge, Point, part_begins, calls, edges_of, fills, finish_point, path_nodes_of_tree, passes, picks, writes}
use Rattle.tpl_paths.specs.declared.choice.Way.{Way}
use Rattle.tpl_paths.specs.declared.point.Point.TheVariants as point

abbrev pub nodes_at : ForestData → ℕ → NodesData
nodes_at forest t = path_nodes_of_tree (tree_at forest t)

abbrev pub start_at : ForestData → ℕ → Point
start_at forest t = part_begins (nodes_at forest t) 0 finish_point

abbrev pub edges_at : ForestData → ℕ → List Edge
edges_at forest t = edges_of (nodes_at forest t) 0 finish_point finish_point finish_point

-- the points of a template by numbers: its end is 0, and each node has four
abbrev pub point_number : Point → ℕ
point_number point.Finish = 0
point_number (point.Before n) = 4 * n + 1
point_number (point.Again n) = 4 * n + 2
point_number (point.Head n) = 4 * n + 3
point_number (point.Past n) = 4 * n + 4

abbrev pub points_of : NodesData → ℕ
points_of nodes = 4 * nodes_size nodes + 1

abbrev pub is_call_edge : Edge → Bool
is_call_edge (writes n bytes to) = false
is_call_edge (fills n pipe to) = false
is_call_edge (calls n name to) = true
is_call_edge (picks from choice to) = false
is_call_edge (passes from to) = false

abbrev pub choice_of : Edge → Option Way
choice_of (writes n bytes to) = None
choice_of (fills n pipe to) = None
choice_of (calls n name to) = None
choice_of (picks from choice to) = Some choice
choice_of (passes from to) = None
