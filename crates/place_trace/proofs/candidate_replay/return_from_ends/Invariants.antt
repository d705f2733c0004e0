use Rattle.place_trace.specs.Replays.{IsPathReplay}
use Rattle.place_trace.proofs.candidate_replay.return_from_ends.Given as goal

abbrev pub invariant-loop-turn : goal.invariant-loop-turn
invariant-loop-turn l = IsPathReplay l.flows l.initial.replay → IsPathReplay l.flows l.replay
