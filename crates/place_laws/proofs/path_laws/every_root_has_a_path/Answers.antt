use Rattle.place_laws.proofs.Arrivals.{every-root}
use Rattle.place_laws.proofs.path_laws.every_root_has_a_path.Goals as goal

pub returns : goal.returns
returns c = every-root
