use Rattle.place_laws.proofs.MeetingPoints.{meet-at-controls}
use Rattle.place_laws.proofs.path_laws.edges_meet_at_controls.Goals as goal

pub returns : goal.returns
returns c = meet-at-controls
