use Rattle.std.proofs.Common.{◌≡◌, ◌<◌, IfSome}
use Rattle.place_show.proofs.LastNodes.{left_at}
use Rattle.place_show.specs.Ends.{last_number, last_on}
use Rattle.tpl_tree.specs.Trees.{nodes_size}
use Rattle.place_show.proofs.ending.last_node.Given as goal

abbrev pub invariant-loop-next : goal.invariant-loop-next
invariant-loop-next l = record {
  inside : IfSome l.next (λ n. n < nodes_size l.tree.nodes);
  last : last_on l.tree.nodes l.last l.next ≡ last_number l.tree.nodes;
}

abbrev pub decreases-loop-next : goal.decreases-loop-next
decreases-loop-next l = left_at l.tree.nodes l.next
