use Rattle.url_step.proofs.Covering.{parts-agree}
use Rattle.url_step.proofs.laws.parts_agree.Goals as goal

pub returns : goal.returns
returns c = parts-agree
