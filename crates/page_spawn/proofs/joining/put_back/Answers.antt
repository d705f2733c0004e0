use Rattle.std.proofs.Common.{arith}
use Rattle.page_spawn.proofs.EachLaws.{each_popped}
use Rattle.page_spawn.proofs.Stacks.{stack_returned}
use Rattle.page_spawn.proofs.joining.put_back.Goals as goal

pub loop-thread-preserved : goal.loop-thread-preserved
loop-thread-preserved g c = record {
  gates = each_popped _ _ _ _ c.loop-thread.invariant.gates c.in-Some.ensures.items;
  back = stack_returned _ _ _ _ _ _ _ _ c.loop-thread.invariant.back c.in-Some.ensures.items c.in-Ok.ensures.items c.join_back.ensures;
  room = omega (arith, c.in-Some.ensures.len, c.in-Ok.ensures.len, c.in-Ok.ensures.capacity, c.loop-thread.invariant.room);
}
