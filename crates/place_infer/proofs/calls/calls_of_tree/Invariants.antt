use Rattle.std.proofs.Common.{◌≡◌, ◌<◌, ℕ, None, length}
use Rattle.std.specs.Prelude.{slice_index_or}
use Rattle.place_flow.specs.Flows.{nodes_at}
use Rattle.place_infer.specs.ChartViews.{chart_call}
use Rattle.place_infer.proofs.calls.calls_of_tree.Given as goal

abbrev pub invariant-loop-node : goal.invariant-loop-node
invariant-loop-node l = record {
  count : length l.calls.items ≡ l.node;
  calls : nodes_at l.forest l.summary.template ≡ l.tree.nodes → (j : ℕ) → j < l.node → slice_index_or l.calls.items j None ≡ chart_call l.forest l.summaries l.summary j;
}
