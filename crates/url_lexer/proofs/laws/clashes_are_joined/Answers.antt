use Rattle.url_lexer.proofs.Clashes.{clashes-joined}
use Rattle.url_lexer.proofs.laws.clashes_are_joined.Goals as goal

pub returns : goal.returns
returns c = clashes-joined
