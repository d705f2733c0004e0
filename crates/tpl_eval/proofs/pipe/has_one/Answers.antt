use Rattle.tpl_eval.specs.Values.{value_view}
use Rattle.tpl_eval.proofs.Piped.{one_piped, one_written}
use Rattle.tpl_eval.proofs.pipe.has_one.Goals as goal

pub returns-in-Some : goal.returns-in-Some
returns-in-Some c = rw c.in-Some.is (one_piped c.args.operands.now (value_view c.in-Some.field-0))

pub returns-in-None : goal.returns-in-None
returns-in-None c = rw c.in-None.is (one_written c.args.operands.now)
