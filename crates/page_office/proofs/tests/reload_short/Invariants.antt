use Rattle.std.proofs.Common.{◌≡◌}
use Rattle.page_office.proofs.tests.reload_short.Given as goal

-- the viewer is one of the desk
abbrev pub invariant-loop : goal.invariant-loop
invariant-loop g l = l.one.book ≡ l.fn.one.book
