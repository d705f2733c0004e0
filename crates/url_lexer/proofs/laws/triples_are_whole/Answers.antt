use Rattle.url_lexer.proofs.WholeTriples.{triples-whole}
use Rattle.url_lexer.proofs.laws.triples_are_whole.Goals as goal

pub returns : goal.returns
returns c = triples-whole
