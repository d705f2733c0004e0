use Rattle.url_step.proofs.Origins.{parts-come-from}
use Rattle.url_step.proofs.laws.parts_come_from.Goals as goal

pub returns : goal.returns
returns c = parts-come-from
