use Rattle.std.proofs.Common.{◌≡◌}
use Rattle.set_publisher.proofs.tests.publish_all.Given as goal

-- the desk stays, and the viewer is one of it
abbrev pub invariant-loop-number : goal.invariant-loop-number
invariant-loop-number g l = (l.desk.book ≡ l.fn.desk.book) × (l.viewer.book ≡ l.fn.viewer.book)
