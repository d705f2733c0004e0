use Rattle.place_trace.specs.Replays.{IsPathReplay}
use Rattle.place_trace.specs.UnchosenWays.{AreUnchosenWays}
use Rattle.place_trace.proofs.candidate_replay.replayed.Given as goal

abbrev pub invariant-loop-step : goal.invariant-loop-step
invariant-loop-step l = IsPathReplay l.flows l.replay × AreUnchosenWays l.flows l.ways
