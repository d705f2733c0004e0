use Rattle.std.proofs.Common.{List, ap, arith}
use Rattle.page_serve.specs.Workers.{doors_of_ends}
use Rattle.page_serve.proofs.DoorMoving.{closing_more, counting_more, less_out, popped_first}
use Rattle.page_serve.proofs.ends.close_ends.Goals as goal

-- one door more went back
pub loop-ended-preserved : goal.loop-ended-preserved
loop-ended-preserved g c = record {
  out = less_out _ _ _ _ (rw c.in-Some.ensures.len c.loop-ended.invariant.out) c.close.ensures.back;
  back = closing_more _ _ _ _ _ _ _ c.loop-ended.invariant.back (ap doors_of_ends (popped_first _ _ _ c.in-Some.ensures.items)) c.close.ensures.back;
  later = omega (arith, c.loop-ended.invariant.later, c.close.ensures.faults.later);
  failed = counting_more _ _ _ _ _ _ _ _ c.loop-ended.invariant.later c.loop-ended.invariant.failed
      (ap doors_of_ends (popped_first _ _ _ c.in-Some.ensures.items)) c.close.ensures.faults;
}
