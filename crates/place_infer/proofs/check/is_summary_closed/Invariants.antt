use Rattle.std.proofs.Common.{◌≡◌, ◌<◌, ℕ, Some}
use Rattle.std.specs.Prelude.{slice_get}
use Rattle.place_flow.specs.Flows.{edges_at}
use Rattle.place_chart.specs.Charts.{EdgeLeads}
use Rattle.place_chart.specs.Summaries.{chart_of, point_state_in}
use Rattle.tpl_paths.specs.Edges.{Edge, from_of, to_of}
use Rattle.place_infer.proofs.check.is_summary_closed.Given as goal

abbrev pub invariant-loop-number : goal.invariant-loop-number
invariant-loop-number l = (j : ℕ) (e : Edge) → j < l.number → slice_get (edges_at l.flows l.summary.template) j ≡ Some e → EdgeLeads l.flows (chart_of l.summaries) l.summary.template e (point_state_in l.summary (from_of e)) (point_state_in l.summary (to_of e))
