use Rattle.std.proofs.Common.{arith}
use Rattle.page_spawn.proofs.EachLaws.{each_pushed}
use Rattle.page_spawn.proofs.Stacks.{stack_started}
use Rattle.page_spawn.proofs.start.start_each.Goals as goal

pub loop-worker-preserved : goal.loop-worker-preserved
loop-worker-preserved g c = record {
  gates = each_pushed _ _ _ _ c.loop-worker.invariant.gates c.in-Ok-push.ensures.items c.in-Ok.ensures.gate;
  all = stack_started _ _ _ _ _ _ _ _ c.loop-worker.invariant.all c.in-Some.ensures.items c.in-Ok-push.ensures.items c.in-Ok.ensures.worker;
  room = omega (arith, c.in-Some.ensures.len, c.pop.ensures.capacity, c.in-Ok-push.ensures.len, c.loop-worker.invariant.room);
  space = omega (arith, c.in-Some.ensures.len, c.in-Ok-push.ensures.len, c.in-Ok-push.ensures.capacity, c.loop-worker.invariant.space);
}
