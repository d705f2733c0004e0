use Rattle.std.proofs.Common.{true, ◌-◌, ◌<◌, ◌≤◌, ◌≡◌}
use Rattle.page_server.specs.Answering.{AnswersBySet}
use Rattle.page_server.specs.Held.{held_in}
use Rattle.page_server.specs.Sessions.{session_with}
use Rattle.page_server.specs.Turns.{HasServed}
use Rattle.page_server.proofs.serve.serve_with.Given as goal

abbrev pub invariant-loop-number : goal.invariant-loop-number
invariant-loop-number g l = record {
  below : l.requests < 10000;
  served : HasServed g.G.Pager.pages
      (AnswersBySet g.P.Pages.execution g.P.Pages.made_of g.P.Pages.is_execution g.P.Pages.is_sound)
      (session_with (g.L.Link.left l.fn.link) (g.L.Link.taken l.fn.link) (g.C.Clerk.given l.fn.clerk) l.fn.viewer
      (g.G.Pager.state l.fn.pager))
      (session_with (g.L.Link.left l.link) (g.L.Link.taken l.link) (g.C.Clerk.given l.clerk) l.viewer (g.G.Pager.state l.pager))
      (held_in l.room.buffer) l.requests l.last true;
  desk : l.viewer.book ≡ l.fn.viewer.book;
  stands : g.G.Pager.stands (g.G.Pager.state l.pager) l.viewer.sets;
  later : g.L.Link.faults l.fn.link ≤ g.L.Link.faults l.link;
}

abbrev pub decreases-loop-number : goal.decreases-loop-number
decreases-loop-number g l = 10000 - l.requests
