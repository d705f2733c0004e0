use Rattle.text_norm.proofs.Same.{written-on-paths}
use Rattle.text_norm.proofs.laws.written_on_paths.Goals as goal

pub returns : goal.returns
returns c = written-on-paths
