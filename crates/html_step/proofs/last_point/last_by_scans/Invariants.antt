use Rattle.std.proofs.Common.{◌≤◌}
use Rattle.html_scan.specs.ScanViews.{pending_from, scan_at}
use Rattle.html_scan.specs.Scans.{At}
use Rattle.html_step.specs.ApartScans.{AnswersLast}
use Rattle.html_step.proofs.LastApartScans.{AreAt}
use Rattle.html_step.proofs.last_point.last_by_scans.Given as goal

abbrev pub invariant-loop-index : goal.invariant-loop-index
invariant-loop-index l =
    (pending_from l.one ≤ l.index) × (pending_from l.other ≤ l.index)
    × AreAt l.index l.text (At l.fn.one) (At l.fn.other) (scan_at l.text l.index l.one) (scan_at l.text l.index l.other)
    × AnswersLast l.index l.text (At l.fn.one) (At l.fn.other) l.last
