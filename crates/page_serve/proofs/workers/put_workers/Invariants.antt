use Rattle.std.proofs.Common.{◌≡◌, ◌≤◌, ◌+◌, ◌++◌, map, reverse, vec_len, vec_capacity}
use Rattle.page_spawn.specs.Gates.{Each}
use Rattle.page_serve.specs.Workers.{doors_of_workers}
use Rattle.page_serve.proofs.workers.put_workers.Given as goal

abbrev pub invariant-loop-door : goal.invariant-loop-door
invariant-loop-door g l = record {
  doors_are : doors_of_workers l.workers.items ++ reverse l.doors.items ≡ l.fn.doors.items;
  viewers_are : map (λ w. w.viewer) l.workers.items ++ reverse l.viewers.items ≡ l.fn.viewers.items;
  links_are : Each (λ w. w.links ≡ l.links) l.workers.items;
  same : vec_len l.viewers ≡ vec_len l.doors;
  desk : Each (λ viewer. viewer.book ≡ g.J.Named.desk) (reverse l.viewers.items);
  room : vec_len l.doors + vec_len l.workers ≤ vec_capacity l.workers;
  kept : vec_len l.fn.doors ≤ vec_capacity l.doors;
}

abbrev pub decreases-loop-door : goal.decreases-loop-door
decreases-loop-door g l = vec_len l.doors
