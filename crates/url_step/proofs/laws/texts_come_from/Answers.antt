use Rattle.url_step.proofs.TextCovering.{texts-come-from}
use Rattle.url_step.proofs.laws.texts_come_from.Goals as goal

pub returns : goal.returns
returns c = texts-come-from
