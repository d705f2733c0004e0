use Rattle.place_core.proofs.ConflictPlaces.{evidence_of_conflict}
use Rattle.place_core.proofs.joins_shown.join_evidence.Goals as goal

pub returns : goal.returns
returns c h = rw c.shown.ensures (evidence_of_conflict c.args.a c.args.b c.requires.one c.requires.other h)
