use Rattle.std.proofs.Common.{arith}
use Rattle.place_chart.proofs.SummaryPointStates.{before_put}
use Rattle.place_chart.proofs.summary.put_before.Goals as goal

pub returns-clause-put : goal.returns-clause-put
returns-clause-put c = before_put c.args.before.now.items c.args.node c.args.point_state (omega (arith, c.if-node-len.false, c.len.ensures))
