use Rattle.std.proofs.Common.{◌∙◌, ◌+◌}
use Rattle.css_step.specs.StyleScanViews.{style_scan_at}
use Rattle.html_scan.proofs.StylesFed.{style_plain}
use Rattle.html_scan.proofs.styles.at_plain_byte.Goals as goal

pub returns-in_default-clause-scan : goal.returns-in_default-clause-scan
returns-in_default-clause-scan c = λ text inside.
    c.at_scan-in_default.ensures.scan text (c.args.index + 1)
    ∙ style_plain c.args.place (style_scan_at c.args.style) (style_scan_at c.next.result) c.args.class c.args.byte c.in_default.not-Ampersand c.next.ensures
