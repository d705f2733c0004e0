use Rattle.std.proofs.Common.{◌≡◌, ◌≤◌, ◌+◌, reverse, map, vec_len}
use Rattle.std.specs.Vec.{vec_capacity}
use Rattle.page_spawn.specs.Gates.{Each}
use Rattle.page_spawn.proofs.Completing.{Complete}
use Rattle.page_spawn.proofs.joining.join_ends.Given as goal

abbrev pub invariant-loop-thread : goal.invariant-loop-thread
invariant-loop-thread g l = record {
  gates : Each (λ thread. thread.promise.gate.now.id ≡ l.opened.of) l.threads.items;
  ends : Complete g.W.Worker.fulfils (reverse (map (λ thread. thread.promise.worker.value) l.fn.threads.items))
      (reverse (map (λ thread. thread.promise.worker.value) l.threads.items)) l.ends.items;
  room : vec_len l.threads + vec_len l.ends ≤ vec_capacity l.ends;
}

abbrev pub decreases-loop-thread : goal.decreases-loop-thread
decreases-loop-thread g l = vec_len l.threads
