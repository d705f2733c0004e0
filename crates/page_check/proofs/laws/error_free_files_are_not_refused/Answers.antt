use Rattle.page_check.proofs.NotRefused.{error-free}
use Rattle.page_check.proofs.laws.error_free_files_are_not_refused.Goals as goal

pub returns : goal.returns
returns c = error-free
