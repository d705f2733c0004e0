use Rattle.tpl_tree.proofs.Numbers.{child_first, child_other}
use Rattle.tpl_tree.proofs.tree.Tree.child.Goals as goal

pub returns-in-0-clause-stands : goal.returns-in-0-clause-stands
returns-in-0-clause-stands c =
    child_first c.args.self.now.nodes c.args.node c.args.part c.entry-entry.result.now.first c.number_if.result c.requires c.in-0.is
    c.entry-entry.ensures.entry.first c.number_if.ensures

pub returns-in-1-clause-stands : goal.returns-in-1-clause-stands
returns-in-1-clause-stands c =
    child_other c.args.self.now.nodes c.args.node c.args.part c.entry-entry.result.now.first c.entry-entry.result.now.other c.number_if-in-1.result c.requires c.in-1.is
    c.entry-entry.ensures.entry.first c.entry-entry.ensures.entry.other c.number_if-in-1.ensures
