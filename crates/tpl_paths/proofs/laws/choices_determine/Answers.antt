use Rattle.tpl_paths.proofs.laws.choices_determine.Goals as goal
use Rattle.tpl_paths.proofs.OneWalk.{one_walk}

pub returns : goal.returns
returns c = one_walk
