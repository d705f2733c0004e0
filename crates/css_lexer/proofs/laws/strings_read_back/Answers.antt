use Rattle.css_lexer.proofs.StringsAreBack.{string-is-back}
use Rattle.css_lexer.proofs.laws.strings_read_back.Goals as goal
use Rattle.css_lexer.specs.Urls.{urls}

pub returns : goal.returns
returns c = λ text. string-is-back urls text
