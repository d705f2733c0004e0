use Rattle.place_laws.proofs.TwoHave.{refusals-shown}
use Rattle.place_laws.proofs.shown_laws.refusals_are_shown.Goals as goal

pub returns : goal.returns
returns c = refusals-shown
