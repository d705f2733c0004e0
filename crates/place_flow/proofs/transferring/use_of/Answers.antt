use Rattle.std.proofs.Common.{sym, ap, arith}
use Rattle.tpl_tree.specs.Trees.{NodesData, head_kind}
use Rattle.place_flow.proofs.AtNodes.{nodes-past}
use Rattle.place_flow.specs.Transfer.{use_of_node}
use Rattle.place_flow.proofs.transferring.use_of.Goals as goal

pub returns-then-node-count : goal.returns-then-node-count
returns-then-node-count c = sym (ap (λ (m : NodesData). use_of_node (head_kind m)) (nodes-past c.args.tree.now.nodes c.args.node (omega (arith, c.count.ensures.count, c.if-node-count.true))))
