use Rattle.std.proofs.Common.{◌∙◌}
use Rattle.css_step.specs.StyleScanViews.{style_scan_at}
use Rattle.html_step.proofs.StyleOriginSteps.{less-origin}
use Rattle.html_step.specs.OriginViews.{origin_at}
use Rattle.html_step.proofs.element_origins.after_less.Goals as goal

pub returns-in_default : goal.returns-in_default
returns-in_default c = λ y.
    c.in_element.ensures y
    ∙ less-origin (origin_at c.args.origins) (origin_at c.then_style-behind.result) (style_scan_at c.args.style)
    (style_scan_at c.behind_less.result)
    c.args.class c.args.byte y c.in_default.not-Solidus c.behind_less.ensures c.then_style-behind.ensures
