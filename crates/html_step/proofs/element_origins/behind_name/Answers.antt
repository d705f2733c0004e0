use Rattle.std.proofs.Common.{◌∙◌}
use Rattle.css_step.specs.StyleScanViews.{style_scan_at}
use Rattle.html_step.proofs.StyleOriginSteps.{opened-origin}
use Rattle.html_step.specs.OriginViews.{origin_at}
use Rattle.html_step.proofs.element_origins.behind_name.Goals as goal

pub returns : goal.returns
returns c = λ y.
    c.behind_bytes.ensures y
    ∙ opened-origin (origin_at c.args.origins) (origin_at c.then_style-less.result) (origin_at c.then_style-solidus.result)
    (style_scan_at c.args.style)
    (style_scan_at c.behind_less-opened.result) (style_scan_at c.next.result) c.args.letters.now y
    c.behind_less-opened.ensures c.next.ensures c.then_style-less.ensures c.then_style-solidus.ensures
