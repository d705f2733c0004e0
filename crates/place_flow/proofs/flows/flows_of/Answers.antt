use Rattle.std.proofs.Common.{map, ap, ◌∙◌}
use Rattle.place_flow.proofs.KeptEdges.{push-edges}
use Rattle.place_flow.proofs.flows.flows_of.Goals as goal

pub loop-t-preserved : goal.loop-t-preserved
loop-t-preserved c = ap (map (λ v. v.items)) c.in_ok-push.ensures.items ∙ push-edges c.args.forest.now c.loop-t.edges.items c.loop-t.t c.in_ok-edges_of.field-0 c.tree.result.now c.loop-t.invariant c.tree.ensures c.in_ok-edges_of.ensures
