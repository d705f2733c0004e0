use Rattle.url_step.proofs.Covering.{covers-parts}
use Rattle.url_step.proofs.laws.covers_parts.Goals as goal

pub returns : goal.returns
returns c = covers-parts
