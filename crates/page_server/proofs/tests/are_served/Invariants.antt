use Rattle.std.proofs.Common.{◌≡◌}
use Rattle.page_server.proofs.tests.are_served.Given as goal

-- the viewer is one of the desk
abbrev pub invariant-loop-case : goal.invariant-loop-case
invariant-loop-case g l = l.viewer.book ≡ l.fn.viewer.book
