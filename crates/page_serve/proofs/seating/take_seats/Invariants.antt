use Rattle.std.proofs.Common.{◌≡◌, ◌≤◌, vec_len, vec_capacity}
use Rattle.page_spawn.specs.Gates.{Each}
use Rattle.set_publisher.specs.Publishing.{Seats}
use Rattle.page_serve.proofs.seating.take_seats.Given as goal

abbrev pub invariant-loop : goal.invariant-loop
invariant-loop g l = record {
  seated : Each (Seats l.fn.desk) l.viewers.items;
  count : vec_len l.viewers ≡ l.counter;
  room : l.count ≤ vec_capacity l.viewers;
  desk : l.desk ≡ l.fn.desk;
  later : g.Q.Seats.faults l.fn.seats ≤ g.Q.Seats.faults l.seats;
}
