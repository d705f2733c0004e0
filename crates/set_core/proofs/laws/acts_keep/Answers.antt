use Rattle.set_core.proofs.Publications.{the_acts_keep}
use Rattle.set_core.proofs.laws.acts_keep.Goals as goal

pub returns : goal.returns
returns g c = the_acts_keep
