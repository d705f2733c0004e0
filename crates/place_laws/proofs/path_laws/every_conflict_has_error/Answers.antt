use Rattle.place_laws.proofs.ConflictEdges.{every-conflict}
use Rattle.place_laws.proofs.path_laws.every_conflict_has_error.Goals as goal

pub returns : goal.returns
returns c = every-conflict
