use Rattle.std.proofs.Common.{◌≡◌}
use Rattle.page_office.proofs.tests.reload_all.Given as goal

-- the viewer is one of the desk
abbrev pub invariant-loop : goal.invariant-loop
invariant-loop g l = l.one.book ≡ l.fn.one.book

-- the viewer is one of the desk
abbrev pub invariant-loop-2 : goal.invariant-loop-2
invariant-loop-2 g l = l.one.book ≡ l.fn.one.book
