use Rattle.std.proofs.Common.{sym, ap, arith}
use Rattle.place_flow.proofs.AtNodes.{nodes-past}
use Rattle.tpl_tree.specs.Trees.{NodesData, head_line}
use Rattle.place_show.proofs.seen.line_in.Goals as goal

pub returns-then-node-count : goal.returns-then-node-count
returns-then-node-count c = sym (ap (λ (m : NodesData). head_line m) (nodes-past c.args.tree.now.nodes c.args.node (omega (arith, c.count.ensures.count, c.if-node-count.true))))
