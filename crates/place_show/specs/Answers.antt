-- What the calls answer of a path, and of two that meet.
use Rattle.std.specs.Prelude.{Option, Result, IfOk, IfSome}
use Rattle.page_io.specs.declared.stop.Memory.{Memory}
use Rattle.place_trace.specs.Replays.{IsPathReplay}
use Rattle.place_trace.specs.declared.replay.PathReplay.{PathReplay}
use Rattle.place_show.specs.Showings.{ShowsOne, ShowsTwo}
use Rattle.place_show.specs.declared.showing.Showing.{Showing}
use Rattle.tpl_tree.specs.Forests.{ForestData}

-- what is found is so, if something is
abbrev pub IfFound : (Showing → Type 0) → Result (Option Showing) Memory → Type 0
IfFound Is result = IfOk result (λ found. IfSome found Is)

-- a showing that is found shows an error of the path
abbrev pub ShowsOn : ForestData → PathReplay → Result (Option Showing) Memory → Type 0
ShowsOn forest w result = IfFound (λ sh. IsPathReplay forest w → ShowsOne forest sh) result

-- likewise, of the two paths
abbrev pub ShowsOnBoth : ForestData → PathReplay → PathReplay → Result (Option Showing) Memory → Type 0
ShowsOnBoth forest w v result =
    IfFound (λ sh. IsPathReplay forest w → IsPathReplay forest v → ShowsTwo forest sh) result
