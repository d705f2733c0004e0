use Rattle.html_step.proofs.MetApart.{met-apart}
use Rattle.html_step.proofs.laws.paths_that_met_apart.Goals as goal

pub returns : goal.returns
returns c = met-apart
