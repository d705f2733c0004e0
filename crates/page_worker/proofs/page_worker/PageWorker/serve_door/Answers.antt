use Rattle.std.proofs.Common.{rules, arith, ap, refl, ◌∙◌}
use Rattle.page_worker.proofs.DoorWorks.{served_before, served_more}
use Rattle.page_worker.proofs.page_worker.PageWorker.serve_door.Goals as goal

pub loop-end-init : goal.loop-end-init
loop-end-init g c = record {
  desk = search rules;
  served = served_before _ _ _ _ _ _ g.C.Clerk.given _ _ _ _ _ _ c.self.view_is c.new-end.ensures;
  most = search rules;
  within = search rules;
  requests = search rules;
}

pub loop-end-preserved : goal.loop-end-preserved
loop-end-preserved g c = record {
  desk = c.serve_next.ensures.desk ∙ c.loop-end.invariant.desk;
  served = served_more _ _ _ _ _ _ _ _ _ _ _ _ _ _ _ c.loop-end.invariant.served
      (rw c.in-Ok-Some.field-0-is at c.in-Ok-Some.ensures.next) c.add.ensures;
  most = c.loop-end.invariant.most;
  within = search rules;
  requests = search rules;
}
