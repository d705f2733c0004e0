use Rattle.std.proofs.Common.{◌∙◌, ◌↔◌, ◌≡◌, ◌++◌, ℕ, List, false, ap, sym, subst}
use Rattle.san_html.specs.ReadBack.{IsBackInTag}
use Rattle.san_html.specs.Sanitizers.{attr_name, failsafe, is_attribute_name}
use Rattle.san_html.proofs.Names.{name-exact, tag-back}
use Rattle.san_html.proofs.name.attr_name.Goals as goal

pub returns-clause-failsafe : goal.returns-clause-failsafe
returns-clause-failsafe c =
    let text = c.args.text.now in
    let written = c.from.ensures ∙ c.in_ok-push_attr_name.ensures ∙ ap (λ (bytes : List ℕ). bytes ++ attr_name text) c.new-out.ensures.bytes in
    subst (λ (bytes : List ℕ). (bytes ≡ failsafe) ↔ (is_attribute_name text ≡ false)) (sym written) (name-exact text)

pub returns-clause-in_tag : goal.returns-clause-in_tag
returns-clause-in_tag c =
    let text = c.args.text.now in
    let written = c.from.ensures ∙ c.in_ok-push_attr_name.ensures ∙ ap (λ (bytes : List ℕ). bytes ++ attr_name text) c.new-out.ensures.bytes in
    subst (IsBackInTag text) (sym written) (tag-back text)
