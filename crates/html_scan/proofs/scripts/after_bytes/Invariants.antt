use Rattle.std.proofs.Common.{◌≡◌, ◌≤◌, ◌+◌, drop}
use Rattle.js_step.specs.ScriptScanViews.{script_scan_at}
use Rattle.place_core.specs.page.Tags.{feed_bytes}
use Rattle.html_scan.specs.ScanViews.{script_count, script_reach}
use Rattle.html_scan.specs.Scans.{script_feeding}
use Rattle.html_scan.proofs.scripts.after_bytes.Given as goal

abbrev pub invariant-loop-byte : goal.invariant-loop-byte
invariant-loop-byte l = record {
  fed : feed_bytes script_feeding (script_scan_at l.fed) (drop l.byte-index l.bytes) ≡ feed_bytes script_feeding (script_scan_at l.fn.script) l.fn.bytes;
  count : script_count l.fed ≤ script_count l.fn.script + l.byte-index;
  reach : script_reach l.fed ≤ script_reach l.fn.script + l.byte-index;
}
