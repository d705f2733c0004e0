use Rattle.set_core.proofs.Publications.{the_numbers_never_fall}
use Rattle.set_core.proofs.laws.numbers_never_fall.Goals as goal

pub returns : goal.returns
returns g c = the_numbers_never_fall
