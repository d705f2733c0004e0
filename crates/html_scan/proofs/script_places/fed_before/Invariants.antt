use Rattle.std.proofs.Common.{◌≡◌, ◌≤◌, ◌+◌, length}
use Rattle.html_scan.specs.ScanViews.{open_reference_at, reference_from}
use Rattle.html_scan.specs.ScriptPlaces.{fed_of, fed_room, fed_text}
use Rattle.html_scan.specs.Slices.{pending}
use Rattle.html_scan.proofs.script_places.fed_before.Given as goal

abbrev pub invariant-loop-at : goal.invariant-loop-at
invariant-loop-at l = record {
  count : l.fed + length (fed_of l.at (open_reference_at l.text l.at l.reference) (pending l.text l.at l.index)) ≡ length (fed_text l.text l.fn.begins l.index);
  room : l.fed ≤ fed_room l.at l.reference;
  from : reference_from l.reference ≤ l.at;
}
