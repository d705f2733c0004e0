use Rattle.std.proofs.Common.{◌∙◌, ◌+◌}
use Rattle.css_step.specs.StyleScanViews.{style_scan_at}
use Rattle.html_scan.specs.ClassViews.{class_at}
use Rattle.html_scan.specs.ScanViews.{open_form_at}
use Rattle.html_scan.proofs.StylesFed.{style_breaks, style_goes_on}
use Rattle.html_scan.proofs.styles.in_reference.Goals as goal

pub returns-in-Grows-clause-scan : goal.returns-in-Grows-clause-scan
returns-in-Grows-clause-scan c = λ text inside here read.
    c.at_scan.ensures.scan text (c.args.index + 1)
    ∙ style_goes_on c.args.place (style_scan_at c.args.style) (open_form_at c.args.open.form) (open_form_at c.in-Grows.form) text c.args.read.now
    (c.args.open.from + 1) c.args.index c.args.byte (class_at c.args.class) c.requires.from inside here read (rw c.in-Grows.is at c.turn.ensures)

pub returns-in-Breaks-clause-scan : goal.returns-in-Breaks-clause-scan
returns-in-Breaks-clause-scan c = λ text inside here read.
    c.at_plain_byte.ensures.scan text inside
    ∙ style_breaks c.args.place (style_scan_at c.args.style) (style_scan_at c.broken-style.result) (open_form_at c.args.open.form) c.args.read.now
    (class_at c.args.class) c.args.byte c.is_equals.result (rw c.in-Breaks.is at c.turn.ensures) c.is_equals.ensures c.broken-style.ensures
