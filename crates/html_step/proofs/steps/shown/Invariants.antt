use Rattle.std.proofs.Common.{◌≡◌, ◌≤◌, ◌-◌, Some, drop}
use Rattle.html_scan.specs.ScanViews.{scan_at, pending_from}
use Rattle.html_scan.specs.Scans.{At, scan_shown}
use Rattle.html_step.specs.Steps.{shown_scan}
use Rattle.html_step.proofs.steps.shown.Given as goal

abbrev pub invariant-loop-index : goal.invariant-loop-index
invariant-loop-index l =
    (shown_scan (l.at - l.index) (drop l.index l.text) (scan_at l.text l.index l.scan) (scan_shown (scan_at l.text l.end l.last) (drop l.end l.text))
    ≡ shown_scan l.at l.text (At l.fn.place) (Some l.fn.place))
    × (pending_from l.scan ≤ l.index) × (pending_from l.last ≤ l.end) × (l.end ≤ l.index)
