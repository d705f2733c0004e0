use Rattle.std.proofs.Common.{ℕ, ◌-◌, ◌*◌, ◌≤◌, ◌≡◌}
use Rattle.page_server.specs.Answering.{AnswersBySet}
use Rattle.page_worker.specs.DoorSteps.{HasServedLinks}
use Rattle.page_worker.specs.LinksServed.{carried}
use Rattle.page_worker.proofs.page_worker.PageWorker.serve_door.Given as goal

abbrev pub invariant-loop-end : goal.invariant-loop-end
invariant-loop-end g l = record {
  desk : l.self-inside.viewer.book ≡ g.J.Named.desk;
  served : HasServedLinks (AnswersBySet g.P.Pages.execution g.P.Pages.made_of g.P.Pages.is_execution g.P.Pages.is_sound)
      g.D.Door.told g.D.Door.faults g.D.Link.Link.left g.D.Link.Link.taken g.D.Link.Link.faults
      l.fn.self.door l.self-inside.door
      (carried l.fn.self.viewer (g.C.Clerk.given l.fn.self.clerk)) (carried l.self-inside.viewer (g.C.Clerk.given l.self-inside.clerk)) l.end;
  most : l.self-inside.links ≡ l.fn.self.links;
  within : l.end.links ≤ l.self-inside.links;
  -- each link has at most as many requests as a u32 counts
  requests : l.end.requests ≤ l.end.links * 4294967295;
}

abbrev pub decreases-loop-end : goal.decreases-loop-end
decreases-loop-end g l = l.self-inside.links - l.end.links
