use Rattle.text_norm.proofs.PagesFill.{pages-fill-paths}
use Rattle.text_norm.proofs.laws.pages_fill_paths.Goals as goal

pub returns : goal.returns
returns c = pages-fill-paths
