use Rattle.tpl_exec.specs.Executing.{run_of}
use Rattle.tpl_events.proofs.Keeping.{allows_all}
use Rattle.tpl_exec.proofs.Lists.{lists_run}
use Rattle.tpl_exec.proofs.into_list.execute_into.Goals as goal

pub execute-requires-clause-may : goal.execute-requires-clause-may
execute-requires-clause-may c = allows_all _ _ (λ s e. tt) _ _

pub returns-clause-events : goal.returns-clause-events
returns-clause-events c = lists_run (run_of c.args.forest.now c.args.root c.args.datum.now) _ _ _ c.execute.ensures
