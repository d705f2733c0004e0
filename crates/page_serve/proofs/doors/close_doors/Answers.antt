use Rattle.std.proofs.Common.{arith}
use Rattle.page_serve.proofs.DoorMoving.{closing_more, counting_more, less_out, popped_first}
use Rattle.page_serve.proofs.doors.close_doors.Goals as goal

-- one door more went back
pub loop-door-preserved : goal.loop-door-preserved
loop-door-preserved g c = record {
  out = less_out _ _ _ _ (rw c.in-Some.ensures.len c.loop-door.invariant.out) c.close.ensures.back;
  back = closing_more _ _ _ _ _ _ _ c.loop-door.invariant.back (popped_first _ _ _ c.in-Some.ensures.items) c.close.ensures.back;
  later = omega (arith, c.loop-door.invariant.later, c.close.ensures.faults.later);
  failed = counting_more _ _ _ _ _ _ _ _ c.loop-door.invariant.later c.loop-door.invariant.failed
      (popped_first _ _ _ c.in-Some.ensures.items) c.close.ensures.faults;
}
