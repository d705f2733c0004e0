use Rattle.place_core.proofs.JoinValid.{the_join_valid}
use Rattle.place_core.proofs.laws.join_keeps_valid.Goals as goal

pub returns : goal.returns
returns c = the_join_valid
