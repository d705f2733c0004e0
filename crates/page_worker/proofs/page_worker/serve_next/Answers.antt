use Rattle.page_worker.proofs.DoorWorks.{one_served}
use Rattle.page_worker.proofs.page_worker.serve_next.Goals as goal

-- a link came, was served, and went back
pub returns-in-Ok-Link-clause-next : goal.returns-in-Ok-Link-clause-next
returns-in-Ok-Link-clause-next g c =
    one_served _ _ _ _ _ _ _ _ _ _ _ _ _ (rw c.in-Ok-Link.field-0-is at c.in-Ok-Link.ensures.came) c.accept.ensures.cause.later c.serve.ensures.served
