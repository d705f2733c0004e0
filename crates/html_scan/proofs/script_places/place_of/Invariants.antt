use Rattle.std.proofs.Common.{◌≡◌, ◌≤◌, ◌++◌}
use Rattle.std.specs.Prelude.{get_or}
use Rattle.html_scan.specs.ScanViews.{open_reference_at, reference_from}
use Rattle.html_scan.specs.ScriptPlaces.{fed_at, fed_of, fed_text, places_fed}
use Rattle.html_scan.specs.Slices.{pending}
use Rattle.html_scan.proofs.script_places.place_of.Given as goal

abbrev pub invariant-loop-at : goal.invariant-loop-at
invariant-loop-at l = record {
  place : get_or (places_fed (fed_of l.at (open_reference_at l.text l.at l.reference) (pending l.text l.at l.index)) ++ fed_at l.current l.index) l.left l.index
      ≡ get_or (places_fed (fed_text l.text l.fn.begins l.index) ++ fed_at l.fn.current l.index) l.fn.number l.index;
  from : reference_from l.reference ≤ l.at;
}
