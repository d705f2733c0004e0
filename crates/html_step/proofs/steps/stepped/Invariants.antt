use Rattle.std.proofs.Common.{◌≤◌}
use Rattle.std.specs.Prelude.{IfSome}
use Rattle.html_scan.specs.ScanViews.{scan_at, pending_from}
use Rattle.html_scan.specs.Scans.{At}
use Rattle.place_core.specs.place.Errors.{nothing_read}
use Rattle.html_step.specs.Steps.{stepped}
use Rattle.html_step.proofs.TextReads.{TextReads}
use Rattle.html_step.proofs.steps.stepped.Given as goal

abbrev pub invariant-loop-index : goal.invariant-loop-index
invariant-loop-index l =
    TextReads l.text l.known.begins l.index (scan_at l.text l.index l.scan) l.known.since l.known.deep (stepped 0 nothing_read l.text (At l.fn.place))
    × (pending_from l.scan ≤ l.index) × (l.known.since ≤ l.index) × (l.known.begins ≤ l.index) × IfSome l.known.deep (λ shown. shown ≤ l.index)
