use Rattle.place_flow.proofs.Counts.{one_piped, one_written}
use Rattle.place_flow.proofs.uses.has_one.Goals as goal

pub returns-then-piped : goal.returns-then-piped
returns-then-piped c = rw c.if-piped.true (one_piped c.args.operands.now)

pub returns : goal.returns
returns c = rw c.if-piped.false (one_written c.args.operands.now)
