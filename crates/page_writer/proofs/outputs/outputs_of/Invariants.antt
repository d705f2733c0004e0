use Rattle.std.proofs.Common.{◌≡◌, ◌<◌, ℕ, Some, length, map}
use Rattle.std.specs.Prelude.{slice_get}
use Rattle.page_writer.specs.Outputs.{output_in, output_of}
use Rattle.place_chart.specs.declared.summary.Summary.{Summary}
use Rattle.page_writer.proofs.outputs.outputs_of.Given as goal

abbrev pub invariant-loop-n : goal.invariant-loop-n
invariant-loop-n l = record {
  count : length l.outputs.items ≡ l.n;
  outputs : (j node : ℕ) (summary : Summary) → j < l.n → slice_get l.chart.summaries j ≡ Some summary
      → output_in (map (λ v. v.items) l.outputs.items) j node ≡ output_of l.forest l.chart summary j node;
}
