use Rattle.url_step.proofs.OnePath.{exact-on-one}
use Rattle.url_step.proofs.laws.is_exact_on_one_part.Goals as goal

pub returns : goal.returns
returns c = exact-on-one
