use Rattle.std.proofs.Common.{rules, subst}
use Rattle.css_lexer.specs.ReadBack.{IsBackInString}
use Rattle.css_lexer.specs.Urls.{urls}
use Rattle.san_css.proofs.string.css_string.Goals as goal

pub returns-clause-in_string : goal.returns-clause-in_string
returns-clause-in_string c =
    subst (IsBackInString urls c.args.text.now) (search rules) (c.strings_read_back.ensures c.args.text.now)
