use Rattle.std.proofs.Common.{All}
use Rattle.place_show.specs.WaysTogether.{AreWaysTogether, IsGoingTogether}
use Rattle.place_show.proofs.ways_together.WaysTogether.reach.Given as goal

abbrev pub invariant-loop-turn : goal.invariant-loop-turn
invariant-loop-turn l =
    AreWaysTogether l.flows l.initial.self
    → AreWaysTogether l.flows l.self × All (IsGoingTogether l.flows) l.callers.items × IsGoingTogether l.flows l.at
