use Rattle.set_core.proofs.Publications.{the_last_may_enter}
use Rattle.set_core.proofs.laws.last_may_enter.Goals as goal

pub returns : goal.returns
returns g c = the_last_may_enter
