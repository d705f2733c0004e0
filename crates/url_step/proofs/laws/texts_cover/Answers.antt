use Rattle.url_step.proofs.TextCovering.{texts-cover}
use Rattle.url_step.proofs.laws.texts_cover.Goals as goal

pub returns : goal.returns
returns c = texts-cover
