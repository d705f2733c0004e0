use Rattle.std.proofs.Common.{◌≡◌, ◌≤◌, drop}
use Rattle.place_core.specs.declared.member.Member.{Member}
use Rattle.html_scan.specs.ScanViews.{scan_at, pending_from}
use Rattle.html_scan.specs.Scans.{At}
use Rattle.html_step.specs.OriginViews.{origin_at}
use Rattle.html_step.specs.Origins.{origin}
use Rattle.html_step.proofs.showing.origin.Given as goal

abbrev pub invariant-loop-index : goal.invariant-loop-index
invariant-loop-index l = ((y : Member) → origin_at l.origins (origin (drop l.index l.text) (scan_at l.text l.index l.scan) y) ≡ origin l.text (At l.fn.place) y) × (pending_from l.scan ≤ l.index)
