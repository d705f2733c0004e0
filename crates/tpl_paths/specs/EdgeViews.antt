-- Edges as the code has them: without what stands in their nodes.
use Rattle.std.specs.Prelude.{ℕ, ◌+◌, List, [], ◌∷◌, ◌++◌, Option, Some, None, map}
use Rattle.tpl_paths.specs.declared.choice.Way.TheVariants as chosen
use Rattle.tpl_tree.specs.Trees.{NodesData, child_number, no_nodes, node, nodes_from, nodes_size}
use Rattle.tpl_paths.specs.Edges.{Edge, Point, again, before, part_begins, calls, edges_of, fills, head, node_edges, passes, past_point, picks, writes}
use Rattle.tpl_paths.specs.declared.edge.Edge.{Edge as ReadEdge}
use Rattle.tpl_paths.specs.declared.edge.Edge.TheVariants as edge

abbrev pub edge_at : Edge → ReadEdge
edge_at (writes n bytes to) = edge.Writes n to
edge_at (fills n pipe to) = edge.Fills n to
edge_at (calls n name to) = edge.Calls n to
edge_at (picks from choice to) = edge.Picks from choice to
edge_at (passes from to) = edge.Passes from to

abbrev pub read_edges : List Edge → List ReadEdge
read_edges es = map edge_at es

-- where nodes begin, by the number of the first
abbrev pub begin_at : Option ℕ → Point → Point
begin_at None to = to
begin_at (Some n) to = before n

-- the nodes from a number on
abbrev pub nodes_view_at : NodesData → Option ℕ → NodesData
nodes_view_at nodes None = no_nodes
nodes_view_at nodes (Some n) = nodes_from nodes n

-- the edges of the nodes from a number on
abbrev pub edges_view_at : NodesData → Option ℕ → Point → Point → Point → List Edge
edges_view_at nodes None to out on = []
edges_view_at nodes (Some n) to out on = edges_of (nodes_from nodes n) n to out on

-- the edges of the first node, which goes on at a point
abbrev pub own_edges : NodesData → ℕ → Point → Point → Point → List Edge
own_edges no_nodes n to out on = []
own_edges (node kind line seams first other rest) n to out on =
    node_edges kind n (part_begins first (n + 1)) (part_begins other (n + 1 + nodes_size first)) (edges_of first (n + 1)) (edges_of other (n + 1 + nodes_size first)) to out on

-- the edges of an `if` or a `with`, and of a range, by the numbers of their parts
abbrev pub control_edges : NodesData → ℕ → Point → Point → Point → List Edge
control_edges nodes n to out on =
    picks (before n) chosen.Then (begin_at (child_number nodes n 0) (past_point n)) ∷ picks (before n) chosen.Else (begin_at (child_number nodes n 1) (past_point n)) ∷ passes (past_point n) to
    ∷ (edges_view_at nodes (child_number nodes n 0) (past_point n) out on ++ edges_view_at nodes (child_number nodes n 1) (past_point n) out on)

abbrev pub range_edges : NodesData → ℕ → Point → Point → Point → List Edge
range_edges nodes n to out on =
    passes (before n) (head n) ∷ passes (again n) (head n) ∷ picks (head n) chosen.Turn (begin_at (child_number nodes n 0) (again n))
    ∷ picks (before n) chosen.Done (begin_at (child_number nodes n 1) (past_point n)) ∷ picks (again n) chosen.Done (past_point n) ∷ passes (past_point n) to
    ∷ (edges_view_at nodes (child_number nodes n 0) (again n) (past_point n) (again n) ++ edges_view_at nodes (child_number nodes n 1) (past_point n) out on)
