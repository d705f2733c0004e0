use Rattle.url_lexer.proofs.CodeSchemes.{code-bad}
use Rattle.url_lexer.proofs.laws.code_is_bad.Goals as goal

pub returns : goal.returns
returns c = code-bad
