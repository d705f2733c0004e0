use Rattle.text_norm.proofs.PiecesKeep.{stands-at-start}
use Rattle.text_norm.proofs.laws.stands_at_start.Goals as goal

pub returns : goal.returns
returns c = stands-at-start
