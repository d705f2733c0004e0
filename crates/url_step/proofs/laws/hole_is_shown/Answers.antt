use Rattle.url_step.proofs.Shown.{hole-shown}
use Rattle.url_step.proofs.laws.hole_is_shown.Goals as goal

pub returns : goal.returns
returns c = hole-shown
