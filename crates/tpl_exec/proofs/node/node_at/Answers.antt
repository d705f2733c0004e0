use Rattle.std.proofs.Common.{arith}
use Rattle.tpl_exec.proofs.Spots.{nowhere_past}
use Rattle.tpl_exec.proofs.node.node_at.Goals as goal

pub returns-then-number-count : goal.returns-then-number-count
returns-then-number-count c = rw (c.in-Some-Some.is-0, c.in-Some-Some.is-1) (nowhere_past c.in-Some-Some.tree.now.nodes c.in-Some-Some.number (omega (arith, c.if-number-count.true, c.count.ensures.count)))
