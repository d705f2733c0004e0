use Rattle.std.proofs.Common.{rules, arith, ◌≡◌, []}
use Rattle.page_spawn.proofs.Completing.{complete-nothing}
use Rattle.page_spawn.proofs.EachLaws.{each_popped, each_of_popped}
use Rattle.page_spawn.proofs.Stacks.{stack_ended, reverse_none}
use Rattle.page_spawn.proofs.joining.join_ends.Goals as goal

pub join_end-requires-clause-gate : goal.join_end-requires-clause-gate
join_end-requires-clause-gate g c κs lives = each_of_popped _ _ _ _ c.loop-thread.invariant.gates c.in-Some.ensures.items

pub loop-thread-preserved : goal.loop-thread-preserved
loop-thread-preserved g c = record {
  gates = each_popped _ _ _ _ c.loop-thread.invariant.gates c.in-Some.ensures.items;
  ends = stack_ended _ _ _ _ _ _ _ _ _ c.loop-thread.invariant.ends c.in-Some.ensures.items c.in-Ok.ensures.items c.join_end.ensures;
  room = omega (arith, c.in-Some.ensures.len, c.in-Ok.ensures.len, c.in-Ok.ensures.capacity, c.loop-thread.invariant.room);
}

pub returns : goal.returns
returns g c =
    let none : c.loop-thread.threads.items ≡ [] = search rules in
    complete-nothing _ _ _ _ (reverse_none _ _ none) c.loop-thread.invariant.ends
