use Rattle.page_serve.proofs.ForgottenClerks.{workers_end_by}
use Rattle.page_serve.proofs.workers.run_workers.Goals as goal

-- all workers have ended
pub returns-in-Ok-run-clause-ends : goal.returns-in-Ok-run-clause-ends
returns-in-Ok-run-clause-ends g c =
    workers_end_by _ _ _ _ _ _ _ _ _ _ _ _ _ _ c.into_vec-doors.ensures c.into_vec.ensures c.from-2.ensures c.put_workers.ensures.workers
    c.in-Ok-run.ensures.ends
