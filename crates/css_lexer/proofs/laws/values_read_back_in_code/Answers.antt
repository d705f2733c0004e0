use Rattle.css_lexer.proofs.CodeIsBack.{code-back}
use Rattle.css_lexer.proofs.laws.values_read_back_in_code.Goals as goal
use Rattle.css_lexer.specs.Urls.{urls}

pub returns : goal.returns
returns c = λ text. code-back urls text
