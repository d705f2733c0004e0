-- A summary of a template that is entered in a place: nothing was at its points, and its start was raised by the place.
use Rattle.std.proofs.Common.{◌≡◌, ℕ, sym, subst}
use Rattle.place_core.specs.place.Places.{Below, IsValid}
use Rattle.place_core.specs.declared.place.Place.{Place}
use Rattle.place_flow.proofs.PointStateLaws.{point_state_trans}
use Rattle.place_flow.specs.Flows.{start_at}
use Rattle.place_flow.specs.PointStates.{IsValidPointState, IsConflictFree, PointStateBelow, joined_point_states}
use Rattle.place_flow.specs.declared.point_state.PointState.{PointState}
use Rattle.place_flow.specs.declared.point_state.PointState.TheVariants.{Unreached, At}
use Rattle.place_chart.specs.Charts.{ChartByNumber}
use Rattle.place_chart.specs.Summaries.{IsRaised, IsSummaryBelow, IsValidSummary, IsConflictFreeSummary, point_state_in}
use Rattle.place_chart.specs.declared.summary.Summary.{Summary}
use Rattle.place_chart.proofs.RaisedSummaries.{raised_below, raised_valid, raised_conflict_free}
use Rattle.tpl_paths.specs.Edges.{Point}
use Rattle.tpl_tree.specs.Forests.{ForestData}

-- a summary of a pair at whose points nothing is
pub record IsBlank (summary : Summary) (t : ℕ) (e : Place) : Type 0 where
  pub template : summary.template ≡ t
  pub entry : summary.entry ≡ e
  pub nothing : (k : Point) → point_state_in summary k ≡ Unreached

pub blank_below : (forest : ForestData) (chart : ChartByNumber) (t : ℕ) (e : Place) (none : Summary) → IsBlank none t e → IsSummaryBelow forest chart none
blank_below forest chart t e none blank q k v en be = subst (λ (s : PointState). PointStateBelow s (chart none.template q k)) (sym (blank.nothing k)) tt

pub blank_valid : (t : ℕ) (e : Place) (none : Summary) → IsBlank none t e → IsValid e → IsValidSummary none
blank_valid t e none blank v = record { entry = subst IsValid (sym blank.entry) v; point_states = λ k. subst IsValidPointState (sym (blank.nothing k)) tt }

module _ (forest : ForestData) (t : ℕ) (e : Place) (none summary : Summary) (blank : IsBlank none t e) (same_t : summary.template ≡ none.template) (same_e : summary.entry ≡ none.entry) (raised : IsRaised none summary (start_at forest t) (At e)) where
  pub fresh_valid : IsValid e → IsValidSummary summary
  fresh_valid v = raised_valid none summary (start_at forest t) (At e) (blank_valid t e none blank v) v same_e raised

  pub fresh_conflict_free : IsConflictFreeSummary summary
  fresh_conflict_free = raised_conflict_free none summary (start_at forest t) (At e) (λ k. subst IsConflictFree (sym (blank.nothing k)) tt)
      (subst (λ (s : PointState). IsConflictFree (joined_point_states s (At e))) (sym (blank.nothing (start_at forest t))) tt) raised

  pub fresh_below : (chart : ChartByNumber) → IsSummaryBelow forest chart summary
  fresh_below chart = raised_below forest chart none summary (start_at forest t) (At e) (blank_below forest chart t e none blank)
      (λ q v en be. subst (λ (u : ℕ). PointStateBelow (At e) (chart none.template q (start_at forest u))) blank.template
      (point_state_trans (At e) (At q) (chart none.template q (start_at forest none.template)) (subst (λ (x : Place). Below x q) blank.entry be) en))
      same_t same_e raised
