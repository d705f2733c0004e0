use Rattle.std.proofs.Common.{sym, ◌∙◌}
use Rattle.place_flow.proofs.AtNodes.{along-edge}
use Rattle.place_flow.proofs.transferring.transfer.Goals as goal

pub returns-in-Some : goal.returns-in-Some
returns-in-Some c = λ e at. along-edge c.args.flows.now c.forest-forest.result.now c.args.template c.args.number c.args.place c.tree.result.now c.in-Some.edge c.step.result e c.forest-forest.ensures c.tree.ensures (sym c.in-Some.is ∙ c.edge.ensures) c.step.ensures at
