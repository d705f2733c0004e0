use Rattle.place_laws.proofs.TwoHave.{joins-shown}
use Rattle.place_laws.proofs.shown_laws.joins_are_shown.Goals as goal

pub returns : goal.returns
returns c = joins-shown
