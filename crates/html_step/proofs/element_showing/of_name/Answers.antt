use Rattle.std.proofs.Common.{◌∙◌, ap, option_map}
use Rattle.css_step.specs.StyleScanViews.{style_scan_at}
use Rattle.html_step.proofs.StyleOriginSteps.{opened-shown}
use Rattle.html_step.specs.OriginViews.{evidence_at}
use Rattle.html_step.specs.Origins.{first_shown}
use Rattle.html_step.proofs.element_showing.of_name.Goals as goal

pub returns : goal.returns
returns c =
    c.first_shown.ensures
    ∙ ap (first_shown (option_map evidence_at c.of_byte-2.result)) c.first_shown-later.ensures
    ∙ opened-shown (option_map evidence_at c.of_byte-2.result) (option_map evidence_at c.of_byte.result)
    (option_map evidence_at c.of_bytes-name.result)
    (style_scan_at c.args.style) (style_scan_at c.behind_less-opened.result) (style_scan_at c.next.result) c.args.letters.now
    c.behind_less-opened.ensures c.next.ensures c.of_byte-2.ensures c.of_byte.ensures c.of_bytes-name.ensures
