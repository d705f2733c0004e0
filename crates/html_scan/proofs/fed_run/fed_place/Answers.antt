use Rattle.std.proofs.Common.{arith}
use Rattle.html_scan.proofs.FedRuns.{char_read, past_read, written_read}
use Rattle.html_scan.proofs.fed_run.fed_place.Goals as goal

pub returns-then-number-run-clause-place : goal.returns-then-number-run-clause-place
returns-then-number-run-clause-place c = past_read c.args.run c.args.index c.args.number (omega (arith, c.if-number-run.true))

pub returns-then-run-clause-place : goal.returns-then-run-clause-place
returns-then-run-clause-place c = written_read c.args.run c.args.index c.args.number c.if-run.true (omega (arith, c.if-number-run.false))

pub returns-else-run-clause-place : goal.returns-else-run-clause-place
returns-else-run-clause-place c = char_read c.args.run c.args.index c.args.number c.if-run.false (omega (arith, c.if-number-run.false))
