use Rattle.std.proofs.Common.{arith}
use Rattle.place_flow.proofs.AtNodes.{none-past}
use Rattle.tpl_tree.specs.declared.node_kind.NodeKind.TheVariants as kind
use Rattle.place_flow.proofs.transferring.call_leads.Goals as goal

pub returns-then-node-count : goal.returns-then-node-count
returns-then-node-count c = λ name pipe h. absurd (none-past c.args.tree.now.nodes c.args.node (kind.Template name pipe) (omega (arith, c.count.ensures.count, c.if-node-count.true)) h)
