use Rattle.std.proofs.Common.{◌≡◌, ◌≤◌, ◌+◌, ◌++◌, reverse, map, vec_len}
use Rattle.std.specs.Vec.{vec_capacity}
use Rattle.page_spawn.specs.Gates.{Each}
use Rattle.page_spawn.proofs.start.start_each.Given as goal

abbrev pub invariant-loop-worker : goal.invariant-loop-worker
invariant-loop-worker g l = record {
  gates : Each (λ thread. thread.promise.gate.now.id ≡ l.gate.id) l.threads.items;
  all : l.fn.workers.items ≡ l.workers.items ++ reverse (map (λ thread. thread.promise.worker.value) l.threads.items);
  room : vec_len l.workers + vec_len l.threads ≤ vec_capacity l.workers;
  space : vec_len l.workers + vec_len l.threads ≤ vec_capacity l.threads;
}

abbrev pub decreases-loop-worker : goal.decreases-loop-worker
decreases-loop-worker g l = vec_len l.workers
