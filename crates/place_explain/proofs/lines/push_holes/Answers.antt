use Rattle.place_explain.proofs.NodeLines.{node_more}
use Rattle.place_explain.proofs.lines.push_holes.Goals as goal
use Rattle.place_explain.specs.PairText.{pair_node_text}

pub loop-node-preserved : goal.loop-node-preserved
loop-node-preserved c = node_more (pair_node_text c.args.chart.now c.args.n c.args.tree.now.nodes) c.args.out.now c.loop-node.out c.push_node.new.out c.loop-node.node c.loop-node.invariant c.in_ok-push_node.ensures
