use Rattle.place_core.proofs.ConflictPlaces.{the_conflict}
use Rattle.place_core.proofs.laws.conflict.Goals as goal

pub returns : goal.returns
returns c = the_conflict
