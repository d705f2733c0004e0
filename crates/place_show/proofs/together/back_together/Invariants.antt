use Rattle.place_show.specs.Together.{GoOnTogether, LastPlaces}
use Rattle.place_trace.specs.declared.replay.PathReplay.{PathReplay}
use Rattle.place_show.proofs.together.back_together.Given as goal

abbrev pub invariant-loop-turn : goal.invariant-loop-turn
invariant-loop-turn l = (w0 v0 : PathReplay) (last : LastPlaces) → GoOnTogether l.flows w0 v0 l.initial.one l.initial.other last
    → GoOnTogether l.flows w0 v0 l.one l.other last
