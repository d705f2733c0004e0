-- What is shown of flows is shown of the forest that they are of.
use Rattle.std.proofs.Common.{◌≡◌, Option, Some, None, Result, Ok, Err}
use Rattle.page_io.specs.declared.stop.Memory.{Memory}
use Rattle.place_show.specs.Answers.{IfFound}
use Rattle.place_show.specs.Conflicts.{ShowsIn}
use Rattle.place_show.specs.Showings.{Shows}
use Rattle.place_show.specs.declared.showing.Showing.{Showing}
use Rattle.tpl_tree.specs.Forests.{ForestData}

pub shown-same : (flows forest : ForestData) (shown : Result (Option Showing) Memory) → ShowsIn flows forest shown → flows ≡ forest
    → IfFound (Shows forest) shown
shown-same flows forest (Ok None) h e = tt
shown-same flows forest (Ok (Some sh)) h e = h e
shown-same flows forest (Err m) h e = tt
