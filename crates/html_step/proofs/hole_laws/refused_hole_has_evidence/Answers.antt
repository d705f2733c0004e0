use Rattle.html_step.proofs.HoleShows.{evidence-hole}
use Rattle.html_step.proofs.hole_laws.refused_hole_has_evidence.Goals as goal

pub returns : goal.returns
returns c = evidence-hole
