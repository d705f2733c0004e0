-- What is found on paths that are candidates.
use Rattle.std.specs.Prelude.{◌≡◌, Option, Result}
use Rattle.page_io.specs.declared.stop.Memory.{Memory}
use Rattle.place_trace.specs.Replays.{IsPathReplay}
use Rattle.place_trace.specs.declared.replay.PathReplay.{PathReplay}
use Rattle.place_show.specs.Answers.{IfFound}
use Rattle.place_show.specs.Showings.{Shows}
use Rattle.place_show.specs.declared.showing.Showing.{Showing}
use Rattle.tpl_tree.specs.Forests.{ForestData}

-- a showing that is found shows an error of two paths, or of one of them
abbrev pub ShowsOnEither : ForestData → PathReplay → PathReplay → Result (Option Showing) Memory
    → Type 0
ShowsOnEither forest w v result =
    IfFound (λ sh. IsPathReplay forest w → IsPathReplay forest v → Shows forest sh) result

-- likewise, an error of a forest, where the flows are those of it
abbrev pub ShowsIn : ForestData → ForestData → Result (Option Showing) Memory → Type 0
ShowsIn flows forest result = IfFound (λ sh. flows ≡ forest → Shows forest sh) result
