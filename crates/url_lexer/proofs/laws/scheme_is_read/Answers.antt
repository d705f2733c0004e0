use Rattle.url_lexer.proofs.Reading.{scheme-read}
use Rattle.url_lexer.proofs.laws.scheme_is_read.Goals as goal

pub returns : goal.returns
returns c = scheme-read
