use Rattle.url_step.proofs.ValidTexts.{texts-stay-valid}
use Rattle.url_step.proofs.laws.texts_stay_valid.Goals as goal

pub returns : goal.returns
returns c = texts-stay-valid
