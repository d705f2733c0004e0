use Rattle.std.proofs.Common.{◌≡◌}
use Rattle.page_server.proofs.threads.serve_links.Given as goal

-- the viewer is one of the desk
abbrev pub invariant-loop : goal.invariant-loop
invariant-loop g l = l.viewer.book ≡ l.fn.viewer.book
