use Rattle.page_set.proofs.OneExecution.{one-execution}
use Rattle.page_set.proofs.laws.executions_are_one.Goals as goal

pub returns : goal.returns
returns c = one-execution
