use Rattle.std.proofs.Common.{◌≡◌, ◌≤◌, drop}
use Rattle.css_step.specs.StyleScanViews.{style_scan_at}
use Rattle.place_core.specs.place.Errors.{fed_error}
use Rattle.html_scan.specs.Scans.{style_feeding}
use Rattle.html_scan.proofs.style_refusals.of_bytes.Given as goal

abbrev pub invariant-loop-byte : goal.invariant-loop-byte
invariant-loop-byte l = record {
  error : fed_error style_feeding (style_scan_at l.fed) (drop l.byte-index l.bytes) l.written l.left
      ≡ fed_error style_feeding (style_scan_at l.fn.style) l.fn.bytes l.fn.written l.fn.back;
  bound : l.left ≤ l.fn.back;
}
