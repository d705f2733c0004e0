-- The edges of templates as the code keeps them.
use Rattle.std.specs.Prelude.{◌≡◌, ℕ, List, map, Option, Some, ⊤}
use Rattle.std.specs.Global.{Vec}
use Rattle.tpl_paths.specs.EdgeViews.{read_edges}
use Rattle.tpl_paths.specs.Edges.{Edge, calls, edges_of, fills, finish_point, passes, picks, writes}
use Rattle.tpl_paths.specs.declared.edge.Edge.{Edge as ReadEdge}
use Rattle.tpl_tree.specs.Forests.{ForestData}
use Rattle.tpl_tree.specs.Trees.{NodesData, TreeData, head_kind, nodes_from}
use Rattle.tpl_tree.specs.declared.node_kind.NodeKind.TheVariants as kind
use Rattle.tpl_tree.specs.declared.pipe.Pipe.{Pipe}

abbrev pub edges_of_tree : List ℕ × TreeData → List ReadEdge
edges_of_tree entry = read_edges (edges_of entry.1.nodes 0 finish_point finish_point finish_point)

-- each template's edges
abbrev pub AreEdgesOf : ForestData → List (Vec ReadEdge) → Type 0
AreEdgesOf forest edges = map (λ v. v.items) edges ≡ map edges_of_tree forest

-- what stands at an edge: a text, a hole and a call are the nodes that there are by their numbers
abbrev pub IsNodeNumber : NodesData → Edge → Type 0
IsNodeNumber nodes (writes n bytes to) = head_kind (nodes_from nodes n) ≡ Some (kind.Text bytes)
IsNodeNumber nodes (fills n pipe to) = ⊤
IsNodeNumber nodes (calls n name to) = (pipe : Option Pipe) × (head_kind (nodes_from nodes n) ≡ Some (kind.Template name pipe))
IsNodeNumber nodes (picks from choice to) = ⊤
IsNodeNumber nodes (passes from to) = ⊤
