use Rattle.std.proofs.Common.{◌≤◌, ◌+◌, reverse, vec_len}
use Rattle.std.specs.Vec.{vec_capacity}
use Rattle.page_spawn.proofs.Completing.{Complete}
use Rattle.page_spawn.proofs.in_turn.work_all.Given as goal

abbrev pub invariant-loop-worker : goal.invariant-loop-worker
invariant-loop-worker g l = record {
  ends : Complete g.W.Worker.fulfils l.fn.workers.items (reverse l.workers.items) l.ends.items;
  room : vec_len l.workers + vec_len l.ends ≤ vec_capacity l.ends;
}

abbrev pub decreases-loop-worker : goal.decreases-loop-worker
decreases-loop-worker g l = vec_len l.workers
