use Rattle.std.proofs.Common.{option_and_then, ap, ◌∙◌}
use Rattle.tpl_tree.proofs.Named.{tree_at-number_named}
use Rattle.tpl_tree.specs.Forests.{tree_at}
use Rattle.tpl_tree.proofs.forest.Forest.find.Goals as goal

pub returns-in-Some-clause-tree : goal.returns-in-Some-clause-tree
returns-in-Some-clause-tree c =
    let trees = c.as_slice.result.now in
    rw (← c.self.view_is, ← c.as_slice.ensures.value) (ap (option_and_then (tree_at trees)) c.in-Some.ensures.number ∙ tree_at-number_named c.args.name.now trees)

pub returns-in-None-clause-tree : goal.returns-in-None-clause-tree
returns-in-None-clause-tree c =
    let trees = c.as_slice.result.now in
    rw (← c.self.view_is, ← c.as_slice.ensures.value) (ap (option_and_then (tree_at trees)) c.in-None.ensures.number ∙ tree_at-number_named c.args.name.now trees)
