use Rattle.std.proofs.Common.{◌∙◌}
use Rattle.tpl_tree.proofs.Numbers.{next_found}
use Rattle.tpl_tree.proofs.tree.Tree.next.Goals as goal

pub returns-then-entry-clause-stands : goal.returns-then-entry-clause-stands
returns-then-entry-clause-stands c =
    next_found c.args.self.now.nodes c.args.node c.entry-entry.result.now.first c.entry-entry.result.now.other c.requires
    (c.entry-entry.ensures.entry.more ∙ c.if-entry.true) c.entry-entry.ensures.entry.first c.entry-entry.ensures.entry.other
