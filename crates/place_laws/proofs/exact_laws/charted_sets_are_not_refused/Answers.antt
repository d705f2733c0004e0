use Rattle.place_laws.proofs.NoRefusal.{no-refusal}
use Rattle.place_laws.proofs.exact_laws.charted_sets_are_not_refused.Goals as goal

pub returns : goal.returns
returns c = no-refusal
