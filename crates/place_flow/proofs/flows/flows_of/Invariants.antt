use Rattle.std.proofs.Common.{◌≡◌, map, take}
use Rattle.place_flow.specs.FlowViews.{edges_of_tree}
use Rattle.place_flow.proofs.flows.flows_of.Given as goal

abbrev pub invariant-loop-t : goal.invariant-loop-t
invariant-loop-t l = map (λ v. v.items) l.edges.items ≡ map edges_of_tree (take l.t l.forest)
