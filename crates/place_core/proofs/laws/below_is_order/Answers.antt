use Rattle.place_core.proofs.Joins.{the_order}
use Rattle.place_core.proofs.laws.below_is_order.Goals as goal

pub returns : goal.returns
returns c = the_order
