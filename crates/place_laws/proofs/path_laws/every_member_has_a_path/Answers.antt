use Rattle.place_laws.proofs.Arrivals.{every-member}
use Rattle.place_laws.proofs.path_laws.every_member_has_a_path.Goals as goal

pub returns : goal.returns
returns c = every-member
