use Rattle.html_step.proofs.HoleOrder.{one-hole}
use Rattle.html_step.proofs.hole_laws.hole_of_one_path.Goals as goal

pub returns : goal.returns
returns c = one-hole
