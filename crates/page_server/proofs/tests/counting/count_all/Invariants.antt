use Rattle.std.proofs.Common.{◌≡◌, ◌≤◌, length}
use Rattle.page_server.proofs.tests.counting.count_all.Given as goal

-- the viewer is one of the desk, and no set has a greater number than its last one
abbrev pub invariant-loop-case : goal.invariant-loop-case
invariant-loop-case g l = record {
  desk : l.viewer.book ≡ l.fn.viewer.book;
  stands : l.pager.last ≤ length l.viewer.sets;
}
