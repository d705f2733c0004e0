use Rattle.std.proofs.Common.{◌≡◌, ◌<◌, ℕ, Some, length}
use Rattle.std.specs.Prelude.{slice_get, slice_index_or}
use Rattle.page_writer.specs.Outputs.{output_of}
use Rattle.page_writer.specs.declared.output.Output.TheVariants.{Nothing}
use Rattle.place_flow.specs.Flows.{nodes_at}
use Rattle.place_chart.specs.declared.summary.Summary.{Summary}
use Rattle.tpl_tree.specs.Forests.{ForestData}
use Rattle.page_writer.proofs.outputs.outputs_of_tree.Given as goal

abbrev pub invariant-loop-node : goal.invariant-loop-node
invariant-loop-node l = record {
  count : length l.outputs.items ≡ l.node;
  outputs : (forest : ForestData) (summary : Summary) → slice_get l.chart.summaries l.n ≡ Some summary → nodes_at forest summary.template ≡ l.tree.nodes
      → (j : ℕ) → j < l.node → slice_index_or l.outputs.items j Nothing ≡ output_of forest l.chart summary l.n j;
}
