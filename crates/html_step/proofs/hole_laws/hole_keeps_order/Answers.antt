use Rattle.html_step.proofs.HoleOrder.{grows-hole}
use Rattle.html_step.proofs.hole_laws.hole_keeps_order.Goals as goal

pub returns : goal.returns
returns c = grows-hole
