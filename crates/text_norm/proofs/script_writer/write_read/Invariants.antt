use Rattle.std.proofs.Common.{◌≡◌, ◌≤◌, ◌-◌, ◌++◌}
use Rattle.js_step.specs.ScriptScans.{script_shared}
use Rattle.js_step.specs.ScriptScanViews.{script_scan_at}
use Rattle.place_core.specs.page.Tags.{feed_bytes}
use Rattle.html_scan.specs.Scans.{script_feeding}
use Rattle.html_scan.specs.ScanViews.{script_reach}
use Rattle.html_scan.specs.Slices.{pending}
use Rattle.text_norm.specs.Kept.{IsScriptKept}
use Rattle.text_norm.specs.Scanned.{scripts_writing}
use Rattle.text_norm.specs.Written.{script_bytes_out}
use Rattle.text_norm.proofs.script_writer.write_read.Given as goal

abbrev pub invariant-loop-at : goal.invariant-loop-at
invariant-loop-at l = record {
  from : l.fn.from ≤ l.at;
  to : l.at ≤ l.fn.to;
  reach : script_reach l.read ≤ l.at;
  fed : feed_bytes script_feeding (script_scan_at l.read) (pending l.text l.at l.fn.to) ≡ feed_bytes script_feeding (script_scan_at l.fn.script) (pending l.text l.fn.from l.fn.to);
  written : (kept : IsScriptKept l.text l.fn.from (script_shared (script_scan_at l.fn.script)) l.fn.done)
      → (k : IsScriptKept l.text l.at (script_shared (script_scan_at l.read)) l.written)
      × (l.out ++ (k.free ++ script_bytes_out scripts_writing (script_scan_at l.read) (pending l.text l.at l.fn.to))
      ≡ l.fn.out ++ (kept.free ++ script_bytes_out scripts_writing (script_scan_at l.fn.script) (pending l.text l.fn.from l.fn.to)));
}

abbrev pub decreases-loop-at : goal.decreases-loop-at
decreases-loop-at l = l.to - l.at
