use Rattle.place_laws.proofs.MeetingBack.{conflict-shown}
use Rattle.place_laws.proofs.shown_laws.every_conflict_is_shown.Goals as goal

pub returns : goal.returns
returns c = conflict-shown
