-- The reference of the code: its form, and where its bytes begin in the text.
use Rattle.std.specs.Prelude.{ℕ, List, Option, Some, None}
use Rattle.place_core.specs.page.References.{Reference, Closed, Open}
use Rattle.html_scan.specs.ScanViews.{open_form_at}
use Rattle.html_scan.specs.Slices.{pending}
use Rattle.text_norm.specs.declared.reference.Opened.{Opened}

abbrev pub reference_view : List ℕ → Option Opened → Reference
reference_view text None = Closed
reference_view text (Some o) = Open (open_form_at o.form) (pending text o.from o.to)
