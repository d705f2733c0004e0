use Rattle.std.proofs.Common.{◌≡◌, ◌≤◌, drop}
use Rattle.html_scan.specs.ScanViews.{scan_at, pending_from}
use Rattle.html_scan.specs.Scans.{At}
use Rattle.html_step.specs.OriginViews.{evidence_at, evidence_through, origin_at}
use Rattle.html_step.specs.Origins.{shows}
use Rattle.html_step.proofs.showing.evidence.Given as goal

abbrev pub invariant-loop-index : goal.invariant-loop-index
invariant-loop-index l = (evidence_through (origin_at l.origins) (evidence_at l.apart) (shows (drop l.index l.text) (scan_at l.text l.index l.scan)) ≡ shows l.text (At l.fn.place)) × (pending_from l.scan ≤ l.index)
