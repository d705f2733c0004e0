use Rattle.std.proofs.Common.{refl}
use Rattle.place_derive.proofs.derived.Derived.propagate_conflict.Goals as goal

pub returns-clause-sound : goal.returns-clause-sound
returns-clause-sound c = λ forest roots first e i. c.in_ok-point.ensures.sound forest roots first e i refl
