use Rattle.set_publisher.proofs.Calls.{the_calls_are_acts}
use Rattle.set_publisher.proofs.laws.calls_are_acts.Goals as goal

pub returns : goal.returns
returns g c = the_calls_are_acts
