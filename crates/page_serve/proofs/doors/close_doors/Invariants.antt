use Rattle.std.proofs.Common.{◌≡◌, ◌≤◌, reverse, vec_len}
use Rattle.page_serve.specs.DoorMoves.{HaveDoorsOut}
use Rattle.page_serve.proofs.DoorMoving.{Closing, Counting}
use Rattle.page_serve.proofs.doors.close_doors.Given as goal

abbrev pub invariant-loop-door : goal.invariant-loop-door
invariant-loop-door g l = record {
  out : HaveDoorsOut (vec_len l.doors) (g.N.Net.told l.net);
  back : Closing (g.N.Net.told l.fn.net) l.fn.doors (g.N.Net.told l.net) (reverse l.doors.items);
  later : g.N.Net.faults l.fn.net ≤ g.N.Net.faults l.net;
  failed : Counting g.N.Door.Door.faults (g.N.Net.faults l.fn.net) l.fn.doors (g.N.Net.faults l.net) (reverse l.doors.items);
}

abbrev pub decreases-loop-door : goal.decreases-loop-door
decreases-loop-door g l = vec_len l.doors
