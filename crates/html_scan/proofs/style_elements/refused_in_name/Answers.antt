use Rattle.css_step.specs.StyleScanViews.{style_scan_at}
use Rattle.html_scan.proofs.StyleElements.{name_refused, name_released_byte}
use Rattle.html_scan.proofs.style_elements.refused_in_name.Goals as goal
use Rattle.std.proofs.Common.{◌∙◌, sym}

pub returns-in-Some-clause-error : goal.returns-in-Some-clause-error
returns-in-Some-clause-error c =
    name_refused (style_scan_at c.args.style) c.args.grows c.args.whole c.args.class c.args.byte c.args.letters.now _
    (sym c.end_tag_goes_on.ensures ∙ c.if-end_tag_goes_on.false) c.in-Some.ensures.error

pub returns-in-None-clause-error : goal.returns-in-None-clause-error
returns-in-None-clause-error c =
    name_released_byte (style_scan_at c.args.style) (style_scan_at c.behind_name.result) c.args.grows c.args.whole c.args.class c.args.byte
    c.args.letters.now c.refused.result _ (sym c.end_tag_goes_on.ensures ∙ c.if-end_tag_goes_on.false) c.in-None.ensures.error c.behind_name.ensures c.refused.ensures
    c.at_hand.ensures.error
