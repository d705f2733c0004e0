use Rattle.url_step.proofs.Shown.{colon-shown}
use Rattle.url_step.proofs.laws.colon_is_shown.Goals as goal

pub returns : goal.returns
returns c = colon-shown
