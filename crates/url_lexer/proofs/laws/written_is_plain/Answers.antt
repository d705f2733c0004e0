use Rattle.url_lexer.proofs.WrittenBytes.{written-plain}
use Rattle.url_lexer.proofs.laws.written_is_plain.Goals as goal

pub returns : goal.returns
returns c = written-plain
