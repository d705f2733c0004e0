use Rattle.std.proofs.Common.{ap, ◌∙◌}
use Rattle.css_step.specs.StyleScanViews.{style_scan_at}
use Rattle.place_core.specs.page.References.{ReferenceStep}
use Rattle.place_core.specs.place.Errors.{turned_error}
use Rattle.html_scan.specs.ClassViews.{class_at}
use Rattle.html_scan.specs.ScanViews.{open_form_at}
use Rattle.html_scan.specs.Scans.{style_feeding}
use Rattle.html_scan.proofs.style_refusals.in_reference.Goals as goal

pub returns-in-Closes-clause-error : goal.returns-in-Closes-clause-error
returns-in-Closes-clause-error c =
    c.of_closed.ensures.error (class_at c.args.class) c.args.byte
    ∙ ap (λ (s : ReferenceStep). turned_error style_feeding (style_scan_at c.args.style) s (open_form_at c.args.form) c.args.read.now (class_at c.args.class) c.args.byte)
    (rw c.in-Closes.is at c.turn.ensures)
