use Rattle.tpl_events.proofs.Keeping.{allows_all}
use Rattle.measure.proofs.counter.run.Goals as goal

pub execute-requires-clause-may : goal.execute-requires-clause-may
execute-requires-clause-may c = allows_all _ _ (λ s e. tt) _ _
