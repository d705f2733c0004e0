use Rattle.set_core.proofs.Publications.{the_learnt_is_least}
use Rattle.set_core.proofs.laws.learnt_is_least.Goals as goal

pub returns : goal.returns
returns g c = the_learnt_is_least
