use Rattle.url_lexer.proofs.QueryMarks.{query-read}
use Rattle.url_lexer.proofs.laws.query_is_read.Goals as goal

pub returns : goal.returns
returns c = query-read
