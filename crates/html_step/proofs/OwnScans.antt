-- The scan states of single paths.
use Rattle.std.proofs.Common.{◌≡◌, Some}
use Rattle.place_core.specs.page.States.{LexState}
use Rattle.place_core.specs.page.Tags.{ValueState}
use Rattle.html_scan.specs.Scans.{Scan}
use Rattle.html_step.proofs.PathScans.{scanned}

-- a scan state of a path
abbrev pub IsOwn : Scan → Type 0
IsOwn f = (s : LexState ValueState) × (scanned s ≡ Some f)
