use Rattle.place_core.proofs.Equality.{the_same}
use Rattle.place_core.proofs.bearing.same.Goals as goal

pub returns : goal.returns
returns c = rw c.eq.ensures (the_same c.args.a c.args.b)
