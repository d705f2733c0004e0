use Rattle.std.proofs.Common.{◌≡◌, ◌++◌}
use Rattle.std.specs.List.{range_with_len}
use Rattle.std.specs.Prelude.{flat_map}
use Rattle.place_explain.specs.PairText.{pair_node_text}
use Rattle.place_explain.proofs.lines.push_holes.Given as goal

abbrev pub invariant-loop-node : goal.invariant-loop-node
invariant-loop-node l = l.out ≡ l.initial.out ++ flat_map (pair_node_text l.chart l.n l.tree.nodes) (range_with_len 0 l.node)
