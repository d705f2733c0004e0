use Rattle.std.proofs.Common.{refl}
use Rattle.place_show.proofs.beginnings.last_places.Goals as goal

pub returns-in-None : goal.returns-in-None
returns-in-None c = λ s r own other takes other_takes. c.in-None.ensures.none refl s r own other takes other_takes
