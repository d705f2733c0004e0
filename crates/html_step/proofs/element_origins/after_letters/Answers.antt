use Rattle.std.proofs.Common.{◌∙◌, ℕ, List, ap, sym}
use Rattle.css_step.specs.StyleScanViews.{style_scan_at}
use Rattle.html_step.proofs.StyleOriginSteps.{name-origin, name_fed_nothing}
use Rattle.html_step.specs.OriginViews.{origin_at}
use Rattle.html_step.specs.Origins.{style_fed_origin}
use Rattle.html_step.proofs.element_origins.after_letters.Goals as goal

pub returns-then-end_tag_goes_on : goal.returns-then-end_tag_goes_on
returns-then-end_tag_goes_on c = λ y.
    ap (λ (xs : List ℕ). origin_at c.args.origins (style_fed_origin xs (style_scan_at c.args.style) y))
    (sym (name_fed_nothing c.args.grows c.args.whole c.args.class c.args.byte c.args.letters.now
    (sym c.end_tag_goes_on.ensures ∙ c.if-end_tag_goes_on.true)))

pub returns : goal.returns
returns c = λ y.
    c.in_element.ensures y
    ∙ name-origin (origin_at c.args.origins) (origin_at c.behind_name-behind.result) (style_scan_at c.args.style)
    (style_scan_at c.behind_name-fed.result)
    c.args.grows c.args.whole c.args.class c.args.byte c.args.letters.now y
    (sym c.end_tag_goes_on.ensures ∙ c.if-end_tag_goes_on.false) c.behind_name-fed.ensures c.behind_name-behind.ensures
