use Rattle.url_lexer.proofs.ReadBack.{written-back}
use Rattle.url_lexer.proofs.laws.written_reads_back.Goals as goal

pub returns : goal.returns
returns c = written-back
