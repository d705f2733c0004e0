use Rattle.html_step.proofs.HoleOrder.{covers-hole}
use Rattle.html_step.proofs.hole_laws.hole_covers_paths.Goals as goal

pub returns : goal.returns
returns c = covers-hole
