use Rattle.text_norm.proofs.PiecesKeep.{pages-read-as-paths}
use Rattle.text_norm.proofs.laws.pages_read_as_paths.Goals as goal

pub returns : goal.returns
returns c = pages-read-as-paths
