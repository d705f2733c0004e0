use Rattle.std.proofs.Common.{◌≡◌, ◌++◌, ◌<◌, ◌≤◌, ◌+◌, ◌*◌, IfSome}
use Rattle.tpl_print.specs.Spelling.{nodes_text, part_at}
use Rattle.tpl_tree.specs.Trees.{nodes_size, nodes_from}
use Rattle.tpl_print.proofs.tree.+part.Given as goal

abbrev pub decreases-push_node : goal.decreases-push_node
decreases-push_node l = 2 * nodes_size (nodes_from l.tree.now.nodes l.node)

abbrev pub decreases-push_part : goal.decreases-push_part
decreases-push_part l = 2 * nodes_size (part_at l.tree.now.nodes l.first) + 1

abbrev pub invariant-push_part-loop-number : goal.invariant-push_part-loop-number
invariant-push_part-loop-number l = record {
  inside : IfSome l.number (λ n. n < nodes_size l.tree.nodes);
  size : nodes_size (part_at l.tree.nodes l.number) ≤ nodes_size (part_at l.tree.nodes l.fn.first);
  rest : l.out ++ nodes_text l.followed (part_at l.tree.nodes l.number) ≡ l.fn.out ++ nodes_text l.followed (part_at l.tree.nodes l.fn.first);
}

abbrev pub decreases-push_part-loop-number : goal.decreases-push_part-loop-number
decreases-push_part-loop-number l = nodes_size (part_at l.tree.nodes l.number)
