use Rattle.std.proofs.Common.{◌≡◌, ◌≤◌, drop}
use Rattle.place_core.specs.place.Errors.{fed_error}
use Rattle.html_scan.specs.Scans.{parts_feeding}
use Rattle.html_scan.proofs.url_refusals.of_bytes.Given as goal

abbrev pub invariant-loop-byte : goal.invariant-loop-byte
invariant-loop-byte l = record {
  error : fed_error parts_feeding l.fed (drop l.byte-index l.bytes) l.written l.left ≡ fed_error parts_feeding l.fn.parts l.fn.bytes l.fn.written l.fn.back;
  bound : l.left ≤ l.fn.back;
}
