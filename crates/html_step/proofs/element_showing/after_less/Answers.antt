use Rattle.std.proofs.Common.{◌∙◌, option_map}
use Rattle.css_step.specs.StyleScanViews.{style_scan_at}
use Rattle.html_step.proofs.StyleOriginSteps.{less-shown}
use Rattle.html_step.specs.OriginViews.{evidence_at}
use Rattle.html_step.proofs.element_showing.after_less.Goals as goal

pub returns-in_default : goal.returns-in_default
returns-in_default c =
    c.before-in_default.ensures
    ∙ less-shown (option_map evidence_at c.of_byte.result) (option_map evidence_at c.of_loose-later.result)
    (option_map evidence_at c.first_shown.result)
    (style_scan_at c.args.style) (style_scan_at c.behind_less.result) c.args.class c.args.byte
    c.in_default.not-Solidus c.behind_less.ensures c.of_byte.ensures c.of_loose-later.ensures c.first_shown.ensures
