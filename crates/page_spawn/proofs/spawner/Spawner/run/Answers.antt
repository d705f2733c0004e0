use Rattle.page_spawn.proofs.Completing.{length-ends}
use Rattle.page_spawn.proofs.spawner.Spawner.run.Goals as goal

pub returns-in-Ok-run_in_turn-clause-len : goal.returns-in-Ok-run_in_turn-clause-len
returns-in-Ok-run_in_turn-clause-len g c = length-ends _ _ _ c.in-Ok-run_in_turn.ensures.ends

pub returns-in-Ok-run_in_threads-clause-len : goal.returns-in-Ok-run_in_threads-clause-len
returns-in-Ok-run_in_threads-clause-len g c = length-ends _ _ _ c.in-Ok-run_in_threads.ensures
