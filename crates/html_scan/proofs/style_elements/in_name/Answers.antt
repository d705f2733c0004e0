use Rattle.std.proofs.Common.{◌∙◌, ◌+◌, sym}
use Rattle.css_step.specs.StyleScanViews.{style_scan_at}
use Rattle.html_scan.proofs.StyleElements.{name_broken_next}
use Rattle.html_scan.proofs.style_elements.in_name.Goals as goal

pub returns-then-not-end_tag_goes_on-clause-scan : goal.returns-then-not-end_tag_goes_on-clause-scan
returns-then-not-end_tag_goes_on-clause-scan c = λ text k from_le k_less here read.
    c.in_element.ensures.scan text (k + 1)
    ∙ name_broken_next (style_scan_at c.args.style) (style_scan_at c.behind_name.result) c.args.grows c.args.whole c.args.class c.args.byte c.args.letters.now
    (sym c.if-not-end_tag_goes_on.ensures) c.behind_name.ensures
