use Rattle.tpl_paths.proofs.Appends.{prefix-is-path}
use Rattle.tpl_paths.proofs.laws.prefix_is_path.Goals as goal

pub returns : goal.returns
returns c = prefix-is-path
