use Rattle.place_laws.proofs.NoErrors.{no-error}
use Rattle.place_laws.proofs.exact_laws.charted_sets_have_no_error.Goals as goal

pub returns : goal.returns
returns c = no-error
