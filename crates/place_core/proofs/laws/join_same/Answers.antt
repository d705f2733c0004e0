use Rattle.place_core.proofs.Joins.{the_join_same}
use Rattle.place_core.proofs.laws.join_same.Goals as goal

pub returns : goal.returns
returns c = the_join_same
