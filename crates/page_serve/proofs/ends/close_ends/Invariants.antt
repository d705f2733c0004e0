use Rattle.std.proofs.Common.{◌≡◌, ◌≤◌, reverse, vec_len}
use Rattle.page_serve.specs.DoorMoves.{HaveDoorsOut}
use Rattle.page_serve.specs.Workers.{doors_of_ends}
use Rattle.page_serve.proofs.DoorMoving.{Closing, Counting}
use Rattle.page_serve.proofs.ends.close_ends.Given as goal

abbrev pub invariant-loop-ended : goal.invariant-loop-ended
invariant-loop-ended g l = record {
  out : HaveDoorsOut (vec_len l.ends) (g.N.Net.told l.net);
  back : Closing (g.N.Net.told l.fn.net) (doors_of_ends l.fn.ends) (g.N.Net.told l.net) (doors_of_ends (reverse l.ends.items));
  later : g.N.Net.faults l.fn.net ≤ g.N.Net.faults l.net;
  failed : Counting g.N.Door.Door.faults (g.N.Net.faults l.fn.net) (doors_of_ends l.fn.ends) (g.N.Net.faults l.net) (doors_of_ends (reverse l.ends.items));
}

abbrev pub decreases-loop-ended : goal.decreases-loop-ended
decreases-loop-ended g l = vec_len l.ends
