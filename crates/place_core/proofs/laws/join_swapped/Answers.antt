use Rattle.place_core.proofs.Joins.{the_join_swapped}
use Rattle.place_core.proofs.laws.join_swapped.Goals as goal

pub returns : goal.returns
returns c = the_join_swapped
