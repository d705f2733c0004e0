use Rattle.url_lexer.proofs.WholePages.{pages-have}
use Rattle.url_lexer.proofs.laws.pages_have_schemes.Goals as goal

pub returns : goal.returns
returns c = pages-have
