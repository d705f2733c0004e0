use Rattle.std.proofs.Common.{◌≡◌, ◌<◌, ℕ, Some}
use Rattle.std.specs.Prelude.{slice_get}
use Rattle.place_chart.specs.Summaries.{IsClosedSummary, chart_of}
use Rattle.place_chart.specs.declared.summary.Summary.{Summary}
use Rattle.place_infer.proofs.check.are_closed.Given as goal

abbrev pub invariant-loop-n : goal.invariant-loop-n
invariant-loop-n l = (j : ℕ) (summary : Summary) → j < l.n → slice_get l.summaries j ≡ Some summary → IsClosedSummary l.flows (chart_of l.summaries) summary
