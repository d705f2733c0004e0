use Rattle.tpl_token.proofs.Runs.{run_none, run_some}
use Rattle.memchr.specs.Find.{is_byte}
use Rattle.tpl_token.proofs.bytes.bytes_until.Goals as goal

pub returns-in-Some-clause-len : goal.returns-in-Some-clause-len
returns-in-Some-clause-len c = run_some (is_byte c.args.byte) c.args.bytes.now c.in-Some.run' (rw c.in-Some.is at c.memchr.ensures)

pub returns-in-None-clause-len : goal.returns-in-None-clause-len
returns-in-None-clause-len c = run_none (is_byte c.args.byte) c.args.bytes.now (rw c.in-None.is at c.memchr.ensures)
