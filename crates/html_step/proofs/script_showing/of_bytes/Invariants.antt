use Rattle.std.proofs.Common.{◌≡◌, ◌≤◌, ◌+◌, drop}
use Rattle.js_step.specs.ScriptScanViews.{script_scan_at}
use Rattle.html_scan.specs.ScanViews.{script_count}
use Rattle.html_step.specs.ScriptShowing.{script_fed_shown}
use Rattle.html_step.proofs.script_showing.of_bytes.Given as goal

abbrev pub invariant-loop-byte : goal.invariant-loop-byte
invariant-loop-byte l = record {
  shown : script_fed_shown l.fn.element (drop l.byte-index l.bytes) (script_scan_at l.fed)
      ≡ script_fed_shown l.fn.element l.fn.bytes (script_scan_at l.fn.script);
  count : script_count l.fed ≤ script_count l.fn.script + l.byte-index;
}
