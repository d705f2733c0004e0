use Rattle.tpl_format.proofs.Pieces.{pieces_exact}
use Rattle.tpl_format.proofs.laws.formats_are_pieces.Goals as goal

pub returns : goal.returns
returns c = pieces_exact
