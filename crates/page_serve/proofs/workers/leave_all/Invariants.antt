use Rattle.std.proofs.Common.{◌≡◌, ◌≤◌, ◌+◌, ◌++◌, map, reverse, vec_len, vec_capacity}
use Rattle.page_serve.proofs.workers.leave_all.Given as goal

abbrev pub invariant-loop-worker : goal.invariant-loop-worker
invariant-loop-worker g l = record {
  doors_are : l.doors.items ++ map g.W.AtDoor.door (reverse l.workers.items) ≡ map g.W.AtDoor.door l.fn.workers;
  room : vec_len l.doors + vec_len l.workers ≤ vec_capacity l.doors;
}

abbrev pub decreases-loop-worker : goal.decreases-loop-worker
decreases-loop-worker g l = vec_len l.workers
