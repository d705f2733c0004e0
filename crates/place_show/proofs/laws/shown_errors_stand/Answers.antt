use Rattle.place_show.proofs.ErrorsStand.{errors-stand}
use Rattle.place_show.proofs.laws.shown_errors_stand.Goals as goal

pub returns : goal.returns
returns c = errors-stand
