use Rattle.tpl_paths.proofs.EdgeNodes.{edges-have-nodes}
use Rattle.tpl_paths.proofs.laws.edges_have_nodes.Goals as goal

pub returns : goal.returns
returns c = edges-have-nodes
