use Rattle.std.proofs.Common.{◌≡◌, drop}
use Rattle.html_scan.specs.ScanViews.{triple_at}
use Rattle.html_scan.specs.Scans.{triple_behind}
use Rattle.html_scan.proofs.urls.triple_after_bytes.Given as goal

abbrev pub invariant-loop-byte : goal.invariant-loop-byte
invariant-loop-byte l = triple_behind (triple_at l.read) (drop l.byte-index l.bytes) ≡ triple_behind (triple_at l.fn.triple) l.fn.bytes
