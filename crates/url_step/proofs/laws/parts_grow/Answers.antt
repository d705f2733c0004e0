use Rattle.url_step.proofs.Growth.{parts-grow}
use Rattle.url_step.proofs.laws.parts_grow.Goals as goal

pub returns : goal.returns
returns c = parts-grow
