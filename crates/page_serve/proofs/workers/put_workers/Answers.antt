use Rattle.std.proofs.Common.{ap, arith, rules}
use Rattle.page_spawn.proofs.EachLaws.{each_pushed}
use Rattle.page_serve.proofs.Queues.{each_begun, each_taken, queue_begun, queue_length, queue_more}
use Rattle.page_serve.proofs.workers.put_workers.Goals as goal

pub loop-door-init : goal.loop-door-init
loop-door-init g c = record {
  doors_are = queue_begun (λ w. w.door) _ _ _ c.requires.none c.turn_round.ensures.items;
  viewers_are = queue_begun (λ w. w.viewer) _ _ _ c.requires.none c.turn_round-2.ensures.items;
  links_are = search rules;
  same = omega (arith, c.turn_round.ensures.len, c.turn_round-2.ensures.len, c.requires.same);
  desk = each_begun _ _ _ c.requires.desk c.turn_round-2.ensures.items;
  room = search rules;
  kept = search rules;
}

-- the viewer is of the desk
pub new-worker-requires : goal.new-worker-requires
new-worker-requires g c = (each_taken _ _ _ _ c.loop-door.invariant.desk c.in-Some-pop.ensures.items).0

pub loop-door-preserved : goal.loop-door-preserved
loop-door-preserved g c = record {
  doors_are = queue_more (λ w. w.door) _ _ _ _ _ _ _ c.loop-door.invariant.doors_are c.in-Some.ensures.items c.in-Ok.ensures.items (ap (λ w. w.door) c.new-worker.ensures);
  viewers_are = queue_more (λ w. w.viewer) _ _ _ _ _ _ _ c.loop-door.invariant.viewers_are c.in-Some-pop.ensures.items c.in-Ok.ensures.items
      (ap (λ w. w.viewer) c.new-worker.ensures);
  links_are = each_pushed _ _ _ _ c.loop-door.invariant.links_are c.in-Ok.ensures.items (ap (λ w. w.links) c.new-worker.ensures);
  same = omega (arith, c.in-Some.ensures.len, c.in-Some-pop.ensures.len, c.loop-door.invariant.same);
  desk = (each_taken _ _ _ _ c.loop-door.invariant.desk c.in-Some-pop.ensures.items).1;
  room = omega (arith, c.in-Some.ensures.len, c.in-Ok.ensures.len, c.in-Ok.ensures.capacity, c.loop-door.invariant.room);
  kept = search rules;
}
