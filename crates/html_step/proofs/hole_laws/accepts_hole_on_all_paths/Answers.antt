use Rattle.html_step.proofs.HoleOrder.{accepts-hole}
use Rattle.html_step.proofs.hole_laws.accepts_hole_on_all_paths.Goals as goal

pub returns : goal.returns
returns c = accepts-hole
