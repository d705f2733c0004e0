use Rattle.std.proofs.Common.{◌∙◌, ◌++◌, ℕ, List, ap, sym, subst}
use Rattle.san_html.specs.ReadBack.{IsBackInUnquoted}
use Rattle.san_html.specs.Sanitizers.{attr_nospace}
use Rattle.san_html.proofs.UnquotedValues.{unquoted-back}
use Rattle.san_html.proofs.unquoted.attr_nospace.Goals as goal

pub returns-clause-in_unquoted : goal.returns-clause-in_unquoted
returns-clause-in_unquoted c =
    let text = c.args.text.now in
    let written = c.from.ensures ∙ c.in_ok-push_attr_nospace.ensures ∙ ap (λ (bytes : List ℕ). bytes ++ attr_nospace text) c.new-out.ensures.bytes in
    subst (IsBackInUnquoted text) (sym written) (unquoted-back text c.utf8.text)
