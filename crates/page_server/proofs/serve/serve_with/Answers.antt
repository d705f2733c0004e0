use Rattle.std.proofs.Common.{arith, refl, ◌∙◌}
use Rattle.page_server.proofs.Turning.{served_none, served_open, stays_below, ended_closing, ended_stopped}
use Rattle.page_server.proofs.serve.serve_with.Goals as goal

pub loop-number-init : goal.loop-number-init
loop-number-init g c = record {
  below = omega arith;
  served = served_none _ _ _ _ c.begin.ensures;
  desk = refl;
  stands = c.requires.stands;
  later = omega arith;
}

pub loop-number-preserved : goal.loop-number-preserved
loop-number-preserved g c = record {
  below = stays_below _ _ _ _ _ _ _ _ (rw c.is_last.ensures at c.in-Replied.ensures.turn) c.loop-number.invariant.below;
  served = served_open _ _ _ _ _ _ _ _ _ _ c.loop-number.invariant.served (rw c.is_last.ensures at c.in-Replied.ensures.turn);
  desk = c.serve_one.ensures.desk ∙ c.loop-number.invariant.desk;
  stands = c.serve_one.ensures.stands;
  later = omega (arith, c.serve_one.ensures.later, c.loop-number.invariant.later);
}

pub returns-in-Closing-clause-serves : goal.returns-in-Closing-clause-serves
returns-in-Closing-clause-serves g c =
    ended_closing _ _ _ _ _ _ _ _ _ _ _ c.loop-number.invariant.served (rw c.is_last.ensures at c.in-Closing.ensures.turn)
    c.loop-number.invariant.below c.closed.ensures.requests c.closed.ensures.last c.closed.ensures.why

pub returns-in-Stopped-clause-serves : goal.returns-in-Stopped-clause-serves
returns-in-Stopped-clause-serves g c =
    ended_stopped _ _ _ _ _ _ _ _ _ _ c.loop-number.invariant.served (rw c.is_last.ensures at c.in-Stopped.ensures.turn)
