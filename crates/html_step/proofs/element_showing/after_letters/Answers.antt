use Rattle.std.proofs.Common.{◌∙◌, List, ℕ, ap, option_map, sym}
use Rattle.css_step.specs.StyleScanViews.{style_scan_at}
use Rattle.html_step.proofs.StyleOriginSteps.{name-shown, name_fed_nothing}
use Rattle.html_step.specs.OriginViews.{evidence_at}
use Rattle.html_step.specs.Origins.{style_fed_shown}
use Rattle.html_step.proofs.element_showing.after_letters.Goals as goal

pub returns-then-end_tag_goes_on : goal.returns-then-end_tag_goes_on
returns-then-end_tag_goes_on c =
    ap (λ (xs : List ℕ). style_fed_shown xs (style_scan_at c.args.style))
    (sym (name_fed_nothing c.args.grows c.args.whole c.args.class c.args.byte c.args.letters.now
    (sym c.end_tag_goes_on.ensures ∙ c.if-end_tag_goes_on.true)))

pub returns : goal.returns
returns c =
    c.first_shown.ensures
    ∙ name-shown (option_map evidence_at c.of_name.result) (option_map evidence_at c.of_loose-later.result) (style_scan_at c.args.style)
    (style_scan_at c.behind_name.result) c.args.grows c.args.whole c.args.class c.args.byte c.args.letters.now
    (sym c.end_tag_goes_on.ensures ∙ c.if-end_tag_goes_on.false) c.behind_name.ensures c.of_name.ensures c.of_loose-later.ensures
