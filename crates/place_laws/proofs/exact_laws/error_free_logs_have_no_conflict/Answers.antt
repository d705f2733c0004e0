use Rattle.place_laws.proofs.ErrorFree.{no-conflict}
use Rattle.place_laws.proofs.exact_laws.error_free_logs_have_no_conflict.Goals as goal

pub returns : goal.returns
returns c = no-conflict
