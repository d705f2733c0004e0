use Rattle.std.proofs.Common.{◌≡◌}
use Rattle.tpl_tree.proofs.forest.Forest.from_map.Given as goal

abbrev pub invariant-loop-name : goal.invariant-loop-name
invariant-loop-name l = l.trees.items ≡ l.yielded
