use Rattle.place_core.proofs.JoinMembers.{the_join_has}
use Rattle.place_core.proofs.laws.join_has.Goals as goal

pub returns : goal.returns
returns c = the_join_has
