use Rattle.std.proofs.Common.{◌∙◌, ap, sym}
use Rattle.css_step.specs.StyleScanViews.{style_scan_at}
use Rattle.html_scan.specs.ClassViews.{class_at}
use Rattle.html_scan.specs.ScanViews.{open_form_at, outcome_at}
use Rattle.html_step.proofs.StyleOriginSteps.{style-breaks-origin, style-closes-origin}
use Rattle.html_step.specs.OriginViews.{origin_at}
use Rattle.html_step.proofs.style_fed_origins.in_reference.Goals as goal

pub returns-in-Breaks : goal.returns-in-Breaks
returns-in-Breaks c = λ y.
    c.behind_plain.ensures y
    ∙ style-breaks-origin (origin_at c.args.origins) (origin_at c.behind_broken-broken.result) (style_scan_at c.args.style) (style_scan_at c.broken.result)
    (open_form_at c.args.form) c.args.read.now (class_at c.args.class) c.args.byte
    c.is_equals-equals.result y
    (sym c.turn.ensures ∙ ap outcome_at c.in-Breaks.is) c.is_equals-equals.ensures c.broken.ensures c.behind_broken-broken.ensures

pub returns-in-Closes : goal.returns-in-Closes
returns-in-Closes c = λ y.
    c.behind_char.ensures y
    ∙ style-closes-origin (origin_at c.args.origins) (style_scan_at c.args.style) (open_form_at c.args.form) c.args.read.now (class_at c.args.class) c.args.byte
    c.meaning.result y
    (sym c.turn.ensures ∙ ap outcome_at c.in-Closes.is) c.meaning.ensures
