use Rattle.url_lexer.proofs.WrittenPages.{written-pages}
use Rattle.url_lexer.proofs.laws.written_pages_have_schemes.Goals as goal

pub returns : goal.returns
returns c = written-pages
