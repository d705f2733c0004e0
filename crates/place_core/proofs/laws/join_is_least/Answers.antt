use Rattle.place_core.proofs.Joins.{the_join_least}
use Rattle.place_core.proofs.laws.join_is_least.Goals as goal

pub returns : goal.returns
returns c = the_join_least
