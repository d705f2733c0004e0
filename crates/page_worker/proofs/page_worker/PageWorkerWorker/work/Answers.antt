use Rattle.std.proofs.Common.{ap, rules}
use Rattle.page_worker.proofs.page_worker.PageWorkerWorker.work.Goals as goal

-- the worker as `serve_door` left it
pub returns : goal.returns
returns g c = record {
  left_off = c.serve_door-end.new.self;
  serves = c.serve_door-end.ensures;
  door_is = ap (λ w. w.door) c.self.view_is;
}
