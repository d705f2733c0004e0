use Rattle.set_core.proofs.Publications.{the_key_stays}
use Rattle.set_core.proofs.laws.key_stays.Goals as goal

pub returns : goal.returns
returns g c = the_key_stays
