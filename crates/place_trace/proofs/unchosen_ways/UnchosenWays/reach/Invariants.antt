use Rattle.std.proofs.Common.{All}
use Rattle.place_trace.specs.UnchosenWays.{AreUnchosenWays, IsGoingUnchosen}
use Rattle.place_trace.proofs.unchosen_ways.UnchosenWays.reach.Given as goal

abbrev pub invariant-loop-turn : goal.invariant-loop-turn
invariant-loop-turn l =
    AreUnchosenWays l.flows l.initial.self
    → AreUnchosenWays l.flows l.self × All (IsGoingUnchosen l.flows) l.callers.items × IsGoingUnchosen l.flows l.at
