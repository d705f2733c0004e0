use Rattle.std.proofs.Common.{rules, subst}
use Rattle.css_lexer.specs.ReadBack.{IsBackInCode}
use Rattle.css_lexer.specs.Urls.{urls}
use Rattle.san_css.proofs.value.css_value.Goals as goal

pub returns-clause-in_code : goal.returns-clause-in_code
returns-clause-in_code c =
    subst (IsBackInCode urls c.args.text.now) (search rules) (c.values_read_back_in_code.ensures c.args.text.now)
