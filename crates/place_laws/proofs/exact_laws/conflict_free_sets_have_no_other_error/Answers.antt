use Rattle.place_laws.proofs.NoErrors.{no-other-error}
use Rattle.place_laws.proofs.exact_laws.conflict_free_sets_have_no_other_error.Goals as goal

pub returns : goal.returns
returns c = no-other-error
