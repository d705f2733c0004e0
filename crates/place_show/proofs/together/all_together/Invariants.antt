use Rattle.place_show.specs.Together.{GoOnTogether}
use Rattle.place_show.specs.WaysTogether.{AreWaysTogether}
use Rattle.place_trace.specs.declared.replay.PathReplay.{PathReplay}
use Rattle.place_show.proofs.together.all_together.Given as goal

abbrev pub invariant-loop-step : goal.invariant-loop-step
invariant-loop-step l = AreWaysTogether l.flows l.ways
    × ((w0 v0 : PathReplay) → GoOnTogether l.flows w0 v0 l.initial.one l.initial.other l.fn.last → GoOnTogether l.flows w0 v0 l.one l.other l.last)
