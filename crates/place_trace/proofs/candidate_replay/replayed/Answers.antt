use Rattle.place_trace.proofs.candidate_replay.replayed.Goals as goal

pub loop-step-preserved : goal.loop-step-preserved
loop-step-preserved c = (c.in_ok-take.ensures.path c.loop-step.invariant.1 (c.return_from_ends.ensures c.loop-step.invariant.0), c.in_ok-take.ensures.ways c.loop-step.invariant.1)

pub returns : goal.returns
returns c = c.return_from_ends-2.ensures c.loop-step.invariant.0
