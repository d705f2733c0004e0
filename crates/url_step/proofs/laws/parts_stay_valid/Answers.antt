use Rattle.url_step.proofs.ValidParts.{parts-stay-valid}
use Rattle.url_step.proofs.laws.parts_stay_valid.Goals as goal

pub returns : goal.returns
returns c = parts-stay-valid
