use Rattle.page_path.proofs.Paths.{meaning_takes_path}
use Rattle.page_path.proofs.taken_laws.meaning_takes_path.Goals as goal

pub returns : goal.returns
returns c = meaning_takes_path
