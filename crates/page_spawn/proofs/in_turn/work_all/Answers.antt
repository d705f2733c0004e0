use Rattle.std.proofs.Common.{rules, ◌≡◌, [], ap, reverse}
use Rattle.page_spawn.proofs.Completing.{complete-nothing}
use Rattle.page_spawn.proofs.in_turn.work_all.Goals as goal

pub returns : goal.returns
returns g c =
    let none : c.loop-worker.workers.items ≡ [] = search rules in
    complete-nothing _ _ _ _ (ap reverse none) c.loop-worker.invariant.ends
