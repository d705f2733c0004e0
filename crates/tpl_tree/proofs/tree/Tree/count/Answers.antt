use Rattle.std.proofs.Common.{ap, arith}
use Rattle.tpl_tree.proofs.Listings.{size-kept}
use Rattle.tpl_tree.specs.Trees.{TreeData}
use Rattle.tpl_tree.proofs.tree.Tree.count.Goals as goal

pub returns-clause-count : goal.returns-clause-count
returns-clause-count c = omega (arith, size-kept c.self.inside.entries.items c.args.self.now.nodes c.self.invariant (ap (λ (t : TreeData). t.nodes) c.self.view_is))
