use Rattle.std.proofs.Common.{◌≡◌, ◌≤◌, ◌+◌, ◌++◌, reverse, map, vec_len}
use Rattle.std.specs.Vec.{vec_capacity}
use Rattle.page_spawn.specs.Gates.{Each}
use Rattle.page_spawn.proofs.joining.put_back.Given as goal

abbrev pub invariant-loop-thread : goal.invariant-loop-thread
invariant-loop-thread g l = record {
  gates : Each (λ thread. thread.promise.gate.now.id ≡ l.shut.of) l.threads.items;
  back : l.workers.items ++ reverse (map (λ thread. thread.promise.worker.value) l.threads.items)
      ≡ l.fn.workers.items ++ reverse (map (λ thread. thread.promise.worker.value) l.fn.threads.items);
  room : vec_len l.workers + vec_len l.threads ≤ vec_capacity l.workers;
}

abbrev pub decreases-loop-thread : goal.decreases-loop-thread
decreases-loop-thread g l = vec_len l.threads
