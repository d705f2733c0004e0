-- The pairs that are reached, of summaries that grew, are the least chart where they are closed.
use Rattle.std.proofs.Common.{◌≡◌, ℕ, List, All, sym, ◌∙◌, subst, Option, Some, take, inl, inr}
use Rattle.std.specs.Prelude.{slice_get}
use Rattle.place_core.specs.place.Places.{IsValid}
use Rattle.place_core.specs.declared.place.Place.{Place}
use Rattle.place_core.specs.declared.place.Place.TheVariants as place
use Rattle.place_flow.specs.PointStates.{IsValidPointState}
use Rattle.place_flow.specs.declared.point_state.PointState.TheVariants.{At}
use Rattle.place_derive.specs.FirstConflicts.{IsSoundLog}
use Rattle.place_derive.specs.declared.derivation.Derivation.{Derivation}
use Rattle.place_derive.specs.declared.conflict.FirstConflict.{FirstConflict}
use Rattle.place_infer.specs.Kept.{IsKeptPair}
use Rattle.place_chart.proofs.ClosedSummaries.{summaries_close}
use Rattle.place_chart.proofs.Elements.{all_of, taken_at}
use Rattle.place_chart.proofs.PairLaws.{chart_valid, entered_valid}
use Rattle.place_chart.proofs.ReachedSummaries.{same_least, same_valid}
use Rattle.place_chart.specs.Charts.{IsEntered}
use Rattle.place_chart.specs.Least.{SummaryCalls, IsLeastChart}
use Rattle.place_chart.specs.Summaries.{IsClosedSummary, IsValidSummary, chart_of, point_state_in}
use Rattle.place_chart.specs.declared.summary.Summary.{Summary}
use Rattle.tpl_paths.specs.Edges.{Point, from_of}
use Rattle.tpl_tree.specs.Forests.{ForestData}

-- a pair that is reached is entered in a valid place
called-valid : (forest : ForestData) (all summaries : List Summary) (i t : ℕ) (p : Place) → All IsValidSummary all → ((j : ℕ) (summary : Summary) → slice_get summaries j ≡ Some summary → (k : Point) → point_state_in summary k ≡ chart_of all summary.template summary.entry k)
    → SummaryCalls forest (take i summaries) t p → IsValid p
called-valid forest all summaries i t p valid same c =
    let at = taken_at summaries i c.caller c.summary c.is_summary in
    let stands : chart_of all c.summary.template c.summary.entry (from_of c.edge) ≡ At c.place = sym (same c.caller c.summary at.1 (from_of c.edge)) ∙ c.stands in
    let v : IsValid c.place = subst IsValidPointState stands (chart_valid all valid c.summary.template c.summary.entry (from_of c.edge)) in
    entered_valid forest c.summary.template t c.edge c.place p v c.enters

entry-valid : (forest : ForestData) (roots : List ℕ) (all summaries : List Summary) (i : ℕ) (summary : Summary) → All IsValidSummary all → IsKeptPair forest roots place.Text all summaries → slice_get summaries i ≡ Some summary → IsValid summary.entry
entry-valid forest roots all summaries i summary valid kept is = elim (kept.reached i summary is) [
  | inl r ↦ subst IsValid (sym r.1) tt
  | inr c ↦ called-valid forest all summaries i summary.template summary.entry valid kept.same c
]

kept-valid : (forest : ForestData) (roots : List ℕ) (all summaries : List Summary) → All IsValidSummary all → IsKeptPair forest roots place.Text all summaries → All IsValidSummary summaries
kept-valid forest roots all summaries valid kept =
    same_valid all summaries valid (all_of (λ (summary : Summary). IsValid summary.entry) summaries (λ i summary is. entry-valid forest roots all summaries i summary valid kept is)) kept.same

pub is-least : (forest : ForestData) (roots : List ℕ) (all summaries : List Summary) (log : List Derivation) (conflict : Option FirstConflict) → IsSoundLog forest roots place.Text all log conflict
    → IsKeptPair forest roots place.Text all summaries → All (IsClosedSummary forest (chart_of summaries)) summaries → All (λ t. IsEntered forest (chart_of summaries) t place.Text) roots → IsLeastChart forest roots place.Text summaries
is-least forest roots all summaries log conflict sound kept closed entered =
    let valid = kept-valid forest roots all summaries sound.valid kept in
    record {
      valid = valid;
      closed = summaries_close forest summaries valid closed;
      entered = entered;
      least = same_least forest all summaries sound.least kept.same;
      apart = kept.apart;
      reached = kept.reached;
    }
