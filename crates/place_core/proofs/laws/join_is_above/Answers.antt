use Rattle.place_core.proofs.Joins.{the_join_above}
use Rattle.place_core.proofs.laws.join_is_above.Goals as goal

pub returns : goal.returns
returns c = the_join_above
