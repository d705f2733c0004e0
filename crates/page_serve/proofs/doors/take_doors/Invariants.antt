use Rattle.std.proofs.Common.{◌≡◌, ◌≤◌, [], vec_len, vec_capacity}
use Rattle.page_net.specs.Tellings.{BothTold}
use Rattle.page_serve.specs.DoorMoves.{AreFreshDoors, MovesDoors}
use Rattle.page_serve.proofs.doors.take_doors.Given as goal

abbrev pub invariant-loop : goal.invariant-loop
invariant-loop g l = record {
  given : BothTold (g.N.Net.told l.fn.net) (g.N.Net.told l.net) (λ o n. MovesDoors o n l.counter []);
  count : vec_len l.doors ≡ l.counter;
  fresh : AreFreshDoors g.N.Door.Door.faults g.N.Door.Door.told l.doors.items;
  room : l.count ≤ vec_capacity l.doors;
  later : g.N.Net.faults l.fn.net ≤ g.N.Net.faults l.net;
}
