use Rattle.url_lexer.proofs.Language.{language-laws}
use Rattle.url_lexer.proofs.laws.url_language_has_laws.Goals as goal

pub returns : goal.returns
returns c = language-laws
