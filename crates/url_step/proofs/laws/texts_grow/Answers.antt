use Rattle.url_step.proofs.TextGrowth.{texts-grow}
use Rattle.url_step.proofs.laws.texts_grow.Goals as goal

pub returns : goal.returns
returns c = texts-grow
