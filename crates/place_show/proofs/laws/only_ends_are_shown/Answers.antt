use Rattle.place_show.proofs.ErrorsStand.{end-shown}
use Rattle.place_show.proofs.laws.only_ends_are_shown.Goals as goal

pub returns : goal.returns
returns c = end-shown
