use Rattle.std.proofs.Common.{◌≡◌, ◌<◌, ◌++◌, IfSome, ◌+◌, ◌*◌, ◌≤◌}
use Rattle.tpl_tree.specs.Trees.{nodes_from, nodes_size}
use Rattle.tpl_paths.specs.EdgeViews.{read_edges, edges_view_at, nodes_view_at}
use Rattle.tpl_paths.proofs.edges.+add.Given as goal

abbrev pub decreases-add_edges : goal.decreases-add_edges
decreases-add_edges l = 4 * nodes_size (nodes_view_at l.tree.now.nodes l.start) + 3

abbrev pub decreases-add_node : goal.decreases-add_node
decreases-add_node l = 4 * nodes_size (nodes_from l.tree.now.nodes l.n) + 2

abbrev pub decreases-add_control : goal.decreases-add_control
decreases-add_control l = 4 * nodes_size (nodes_from l.tree.now.nodes l.n) + 1

abbrev pub decreases-add_range : goal.decreases-add_range
decreases-add_range l = 4 * nodes_size (nodes_from l.tree.now.nodes l.n) + 1

abbrev pub invariant-add_edges-loop-node : goal.invariant-add_edges-loop-node
invariant-add_edges-loop-node l = record {
  inside : IfSome l.node (λ n. n < nodes_size l.tree.nodes);
  small : nodes_size (nodes_view_at l.tree.nodes l.node) ≤ nodes_size (nodes_view_at l.tree.nodes l.fn.start);
  rest : l.edges.items ++ read_edges (edges_view_at l.tree.nodes l.node l.to l.out l.on) ≡ l.fn.edges.items ++ read_edges (edges_view_at l.tree.nodes l.fn.start l.to l.out l.on);
}

abbrev pub decreases-add_edges-loop-node : goal.decreases-add_edges-loop-node
decreases-add_edges-loop-node l = nodes_size (nodes_view_at l.tree.nodes l.node)
