use Rattle.url_step.proofs.Origins.{parts-come-from-hole}
use Rattle.url_step.proofs.laws.parts_come_from_hole.Goals as goal

pub returns : goal.returns
returns c = parts-come-from-hole
