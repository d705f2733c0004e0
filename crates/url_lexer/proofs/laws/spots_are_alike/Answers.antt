use Rattle.url_lexer.proofs.Spots.{spots-alike}
use Rattle.url_lexer.proofs.laws.spots_are_alike.Goals as goal

pub returns : goal.returns
returns c = spots-alike
