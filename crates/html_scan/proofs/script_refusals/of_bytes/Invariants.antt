use Rattle.std.proofs.Common.{◌≡◌, ◌≤◌, ◌+◌, drop}
use Rattle.js_step.specs.ScriptScanViews.{script_scan_at}
use Rattle.html_scan.specs.ScanViews.{script_count}
use Rattle.html_scan.specs.ScriptPlaces.{first_refused}
use Rattle.html_scan.proofs.script_refusals.of_bytes.Given as goal

abbrev pub invariant-loop-byte : goal.invariant-loop-byte
invariant-loop-byte l = record {
  refused : first_refused (script_scan_at l.fed) l.number (drop l.byte-index l.bytes) ≡ first_refused (script_scan_at l.fn.script) l.fn.first l.fn.bytes;
  count : script_count l.fed ≤ script_count l.fn.script + l.byte-index;
  number : l.number ≡ l.fn.first + l.byte-index;
}
