use Rattle.html_step.proofs.HoleShows.{from-hole}
use Rattle.html_step.proofs.hole_laws.hole_members_come_from_one.Goals as goal

pub returns : goal.returns
returns c = from-hole
