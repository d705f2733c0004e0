use Rattle.text_norm.proofs.PiecesKeep.{stands-somewhere}
use Rattle.text_norm.proofs.laws.stands_somewhere.Goals as goal

pub returns : goal.returns
returns c = stands-somewhere
