use Rattle.std.proofs.Common.{◌-◌, ◌≤◌, ◌≡◌, length}
use Rattle.page_server.specs.Buffers.{IsReadBehind}
use Rattle.page_server.specs.Held.{held_in}
use Rattle.page_server.proofs.incoming.read_incoming.Given as goal

abbrev pub invariant-loop-incoming : goal.invariant-loop-incoming
invariant-loop-incoming g l = record {
  read : IsReadBehind (g.L.Link.left l.fn.link) (g.L.Link.left l.link) (held_in l.fn.buffer) (held_in l.buffer);
  taken : g.L.Link.taken l.link ≡ g.L.Link.taken l.fn.link;
  later : g.L.Link.faults l.fn.link ≤ g.L.Link.faults l.link;
}

abbrev pub decreases-loop-incoming : goal.decreases-loop-incoming
decreases-loop-incoming g l = 1064960 - length (held_in l.buffer)
