use Rattle.std.proofs.Common.{◌≡◌, ◌≤◌, ◌+◌, drop, length}
use Rattle.js_step.specs.ScriptScanViews.{script_scan_at}
use Rattle.place_core.specs.place.Errors.{read_error}
use Rattle.html_scan.specs.ScanViews.{script_reach}
use Rattle.html_scan.specs.Scans.{all_element_scripts}
use Rattle.html_scan.proofs.script_element_refusals.of_bytes.Given as goal

abbrev pub invariant-loop-byte : goal.invariant-loop-byte
invariant-loop-byte l = record {
  error : read_error all_element_scripts (script_scan_at l.fed) (drop l.byte-index l.bytes) l.fn.behind
      ≡ read_error all_element_scripts (script_scan_at l.fn.script) l.fn.bytes l.fn.behind;
  left : l.left + l.byte-index ≡ length l.bytes + l.fn.behind;
  reach : script_reach l.fed ≤ script_reach l.fn.script + l.byte-index;
}
