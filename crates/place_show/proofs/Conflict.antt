-- Two paths that meet in places that do not join are shown.
use Rattle.std.proofs.Common.{◌≡◌, ℕ, false, Option, Some, None, is_some, refl, inr}
use Rattle.place_core.specs.place.Places.{joined}
use Rattle.place_core.specs.declared.code.Code.{Code}
use Rattle.place_core.specs.declared.place.Place.{Place}
use Rattle.place_trace.specs.Replays.{IsPathReplay}
use Rattle.place_trace.specs.declared.replay.PathReplay.{PathReplay}
use Rattle.place_show.proofs.Makings.{shown-by, shown-by-other}
use Rattle.place_show.proofs.TwoShown.{two-shown}
use Rattle.place_show.specs.Made.{IsMadeTwo}
use Rattle.place_show.specs.Showings.{DoNotJoin, IsShownBy, JoinsAt, Meet, ShowsTwo, line_of_node}
use Rattle.place_show.specs.declared.showing.Showing.{Showing}
use Rattle.tpl_tree.specs.Forests.{ForestData}

pub none-joined : (o : Option Place) → false ≡ is_some o → o ≡ None
none-joined (Some p) h = cc
none-joined None h = refl

pub conflict-shown : (forest : ForestData) (w v : PathReplay) (c : Code) (n : ℕ) (sh : Showing) → Meet w v → joined w.place v.place ≡ None → JoinsAt c w.point n
    → IsMadeTwo forest w v c (line_of_node forest w.template n) n 0 w.place v.place sh → IsPathReplay forest w → IsPathReplay forest v → ShowsTwo forest sh
conflict-shown forest w v c n sh meet conflict at m is other =
    let by : IsShownBy forest sh m.seen w = shown-by forest w c (line_of_node forest w.template n) n 0 w.place sh m.seen m.made m.is is in
    let other_by : IsShownBy forest sh m.other v = shown-by-other forest w v v.place sh m.seen m.other by meet m.other_is other in
    let error : DoNotJoin forest sh m.seen m.other w v = record {
      point = rw (m.made.code, m.made.node_is) at;
      at = m.is.place;
      other_at = m.other_is.place;
      conflict = conflict;
      line = rw m.made.node_is m.made.line_is;
      byte = m.made.byte_is;
    } in
    two-shown forest sh w v m.seen m.other meet by other_by m.paths (inr (inr (inr error)))
