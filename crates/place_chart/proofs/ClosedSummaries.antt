-- Closed summaries are a closed chart.
use Rattle.std.proofs.Common.{◌≡◌, ℕ, List, refl, subst, Option, Some, None}
use Rattle.std.specs.Prelude.{All, slice_index_or}
use Rattle.place_flow.specs.Flows.{edges_at}
use Rattle.place_flow.specs.declared.point_state.PointState.TheVariants.{Unreached}
use Rattle.place_chart.specs.Charts.{ChartByNumber, IsClosedByNumber, EdgeLeads}
use Rattle.place_chart.specs.Summaries.{IsClosedSummary, IsValidSummary, chart_of, summary_of, point_state_in, point_state_of}
use Rattle.place_chart.specs.declared.summary.Summary.{Summary}
use Rattle.place_chart.proofs.FirstSummaries.{first_is, first_summary_is}
use Rattle.place_chart.proofs.PairLaws.{chart_valid}
use Rattle.tpl_paths.specs.Edges.{Edge, from_of, to_of}
use Rattle.tpl_tree.specs.Forests.{ForestData}

-- where nothing is, each edge leads
pub off_leads : (forest : ForestData) (chart : ChartByNumber) (t : ℕ) (e : Edge) → EdgeLeads forest chart t e Unreached Unreached
off_leads forest chart t e = record { enters = tt; gives = tt }

found_closed : (forest : ForestData) (chart : ChartByNumber) (t : ℕ) (o : Option Summary) → ((summary : Summary) → o ≡ Some summary → (summary.template ≡ t) × IsClosedSummary forest chart summary)
    → All (λ (e : Edge). EdgeLeads forest chart t e (point_state_of o (from_of e)) (point_state_of o (to_of e))) (edges_at forest t)
found_closed forest chart t None is = λ k d lt. off_leads forest chart t (slice_index_or (edges_at forest t) k d)
found_closed forest chart t (Some summary) is =
    let i = is summary refl in
    subst (λ (u : ℕ). All (λ (e : Edge). EdgeLeads forest chart u e (point_state_in summary (from_of e)) (point_state_in summary (to_of e))) (edges_at forest u)) i.0 i.1

pub summaries_close : (forest : ForestData) (summaries : List Summary) → All IsValidSummary summaries → All (IsClosedSummary forest (chart_of summaries)) summaries → IsClosedByNumber forest (chart_of summaries)
summaries_close forest summaries valid all = record {
  valid = λ t p k v. chart_valid summaries valid t p k;
  leads = λ t p v. found_closed forest (chart_of summaries) t (summary_of summaries t p)
      (λ summary e. ((first_is summaries t p summary e).template, first_summary_is (IsClosedSummary forest (chart_of summaries)) summaries t p summary all e));
}
