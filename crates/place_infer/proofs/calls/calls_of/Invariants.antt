use Rattle.std.proofs.Common.{◌≡◌, ◌<◌, ℕ, Some, length, map}
use Rattle.std.specs.Prelude.{slice_get}
use Rattle.place_infer.specs.ChartViews.{call_in, chart_call}
use Rattle.place_chart.specs.declared.summary.Summary.{Summary}
use Rattle.place_infer.proofs.calls.calls_of.Given as goal

abbrev pub invariant-loop-n : goal.invariant-loop-n
invariant-loop-n l = record {
  count : length l.calls.items ≡ l.n;
  calls : (j node : ℕ) (summary : Summary) → j < l.n → slice_get l.summaries j ≡ Some summary → call_in (map (λ v. v.items) l.calls.items) j node ≡ chart_call l.forest l.summaries summary node;
}
