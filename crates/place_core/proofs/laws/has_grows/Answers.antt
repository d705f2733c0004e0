use Rattle.place_core.proofs.JoinMembers.{the_has_grows}
use Rattle.place_core.proofs.laws.has_grows.Goals as goal

pub returns : goal.returns
returns c = the_has_grows
