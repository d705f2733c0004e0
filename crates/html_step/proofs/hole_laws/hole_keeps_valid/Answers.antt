use Rattle.html_step.proofs.HoleOrder.{valid-hole}
use Rattle.html_step.proofs.hole_laws.hole_keeps_valid.Goals as goal

pub returns : goal.returns
returns c = valid-hole
