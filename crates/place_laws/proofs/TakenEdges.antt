-- In a closed chart that is nowhere in conflict each edge is taken from the place at its start.
use Rattle.std.proofs.Common.{◌≡◌, ℕ, suc, List, [], ◌∷◌, All, Option, Some, None, refl, sym, subst, inl, inr, arith}
use Rattle.place_core.specs.place.Places.{IsValid}
use Rattle.place_core.specs.declared.place.Place.{Place}
use Rattle.place_flow.specs.Flows.{edges_at}
use Rattle.place_flow.specs.Transfer.{step_of}
use Rattle.place_flow.specs.PointStates.{IsValidPointState, IsConflictFree, PointStateBelow}
use Rattle.place_flow.specs.declared.point_state.PointState.{PointState}
use Rattle.place_flow.specs.declared.point_state.PointState.TheVariants.{Unreached, At, Conflict}
use Rattle.place_flow.specs.declared.step.EdgeStep.{EdgeStep}
use Rattle.place_flow.specs.declared.step.EdgeStep.TheVariants.{Reaches, Enters, Refused}
use Rattle.place_chart.proofs.NamedTemplates.{edges_at-named}
use Rattle.place_chart.specs.Exact.{point_place, places_at}
use Rattle.place_chart.proofs.FirstSummaries.{first_is, first_summary_is}
use Rattle.place_chart.proofs.PairLaws.{chart_conflict_free}
use Rattle.place_chart.specs.Charts.{ChartByNumber, IsClosedByNumber, EdgeLeads, given, step_given}
use Rattle.place_chart.specs.Summaries.{IsValidSummary, IsConflictFreeSummary, chart_of, summary_of, point_state_of}
use Rattle.place_chart.specs.declared.summary.Summary.{Summary}
use Rattle.place_flow.proofs.ClearSteps.{IsTaken}
use Rattle.tpl_paths.specs.Edges.{Edge, Point, Within, edges_in, from_of, to_of}
use Rattle.tpl_tree.specs.Forests.{ForestData, number_named}

within-all : (P : Edge → Type 0) (e : Edge) (es : List Edge) → Within e es → All P es → P e
within-all P e [] w h = absurd w
within-all P e (x ∷ es) (inl i) h = subst P (sym i) (h 0 x (omega arith))
within-all P e (x ∷ es) (inr w) h = within-all P e es w (λ k d lt. h (suc k) d (omega (arith, lt)))

off-on : (p : Place) → Unreached ≡ At p → ⊥
off-on p e = cc

-- a pair of which a point has a place is entered in a valid place
summary-entry : (summaries : List Summary) (t : ℕ) (p a : Place) (k : Point) (o : Option Summary) → All IsValidSummary summaries → summary_of summaries t p ≡ o → point_state_of o k ≡ At a → IsValid p
summary-entry summaries t p a k None valid is at = absurd (off-on a at)
summary-entry summaries t p a k (Some summary) valid is at =
    let f = first_is summaries t p summary is in
    let v = first_summary_is IsValidSummary summaries t p summary valid is in
    subst IsValid f.entry v.entry

-- what gives to a spot that is whole is not refused
taken-to : (chart : ChartByNumber) (step : EdgeStep) (s : PointState) → IsConflictFree s → PointStateBelow (step_given chart step) s → IsTaken step
taken-to chart (Reaches q) s w b = tt
taken-to chart (Enters c q) s w b = tt
taken-to chart Refused Unreached w b = absurd b
taken-to chart Refused (At q) w b = absurd b
taken-to chart Refused Conflict w b = absurd w

pub record Taken (forest : ForestData) (t : ℕ) (e : Edge) (a : Place) : Type 0 where
  pub valid : IsValid a
  pub taken : IsTaken (step_of forest t e a)

pub taken-edge : (forest : ForestData) (summaries : List Summary) (name : List ℕ) (t : ℕ) (p a : Place) (e : Edge) → All IsValidSummary summaries → IsClosedByNumber forest (chart_of summaries) → All IsConflictFreeSummary summaries
    → number_named name forest ≡ Some t → Within e (edges_in forest name) → chart_of summaries t p (from_of e) ≡ At a → Taken forest t e a
taken-edge forest summaries name t p a e valid closed conflict_free number inside on =
    let vp : IsValid p = summary-entry summaries t p a (from_of e) (summary_of summaries t p) valid refl on in
    let l = within-all (λ (x : Edge). EdgeLeads forest (chart_of summaries) t x (chart_of summaries t p (from_of x)) (chart_of summaries t p (to_of x))) e (edges_at forest t) (subst (Within e) (sym (edges_at-named forest name t number)) inside) (closed.leads t p vp) in
    let gives = subst (λ (s : PointState). PointStateBelow (given forest (chart_of summaries) t e s) (chart_of summaries t p (to_of e))) on l.gives in
    record {
      valid = subst IsValidPointState on (closed.valid t p (from_of e) vp);
      taken = taken-to (chart_of summaries) (step_of forest t e a) (chart_of summaries t p (to_of e)) (chart_conflict_free summaries conflict_free t p (to_of e)) gives;
    }

-- a place by the name of a template, and by its number
pub record IsOn (summaries : List Summary) (o : Option ℕ) (p : Place) (k : Point) (a : Place) : Type 0 where
  pub number : ℕ
  pub is : o ≡ Some number
  pub on : chart_of summaries number p k ≡ At a

on-place : (s : PointState) (a : Place) → point_place s ≡ Some a → s ≡ At a
on-place Unreached a e = cc
on-place (At q) a e = cc
on-place Conflict a e = cc

none-some : (a : Place) → None ≡ Some a → ⊥
none-some a e = cc

pub is-on : (summaries : List Summary) (o : Option ℕ) (p : Place) (k : Point) (a : Place) → places_at summaries o p k ≡ Some a → IsOn summaries o p k a
is-on summaries None p k a e = absurd (none-some a e)
is-on summaries (Some t) p k a e = record { number = t; is = refl; on = on-place (chart_of summaries t p k) a e }
