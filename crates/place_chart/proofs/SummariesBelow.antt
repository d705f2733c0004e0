-- What summaries have that are below a chart, and where the edges of a closed chart lead.
use Rattle.std.proofs.Common.{◌≡◌, ℕ, List, refl, sym, subst, Option, Some, None}
use Rattle.std.specs.Prelude.{All, slice_get}
use Rattle.std.proofs.lemmas.List.Elements.{All-get_or}
use Rattle.std.proofs.lemmas.Option.{get_or_from_slice_get, slice_get_within}
use Rattle.place_core.specs.place.Places.{Below, IsValid}
use Rattle.place_core.specs.declared.place.Place.{Place}
use Rattle.place_flow.specs.Flows.{edges_at}
use Rattle.place_flow.specs.Transfer.{step_of}
use Rattle.place_flow.specs.PointStates.{PointStateBelow}
use Rattle.place_flow.specs.declared.point_state.PointState.{PointState}
use Rattle.place_flow.specs.declared.point_state.PointState.TheVariants.{Unreached, At, Conflict}
use Rattle.place_flow.specs.declared.step.EdgeStep.TheVariants.{Enters}
use Rattle.place_chart.specs.Charts.{ChartByNumber, EdgeEnters, IsClosedByNumber, IsEntered, EdgeLeads, StepEnters}
use Rattle.place_chart.specs.Summaries.{IsSummaryBelow, chart_of, summary_of, point_state_in, point_state_of}
use Rattle.place_chart.specs.declared.summary.Summary.{Summary}
use Rattle.tpl_paths.specs.Edges.{Edge, Point, from_of, to_of}
use Rattle.tpl_tree.specs.Forests.{ForestData}
use Rattle.place_chart.proofs.FirstSummaries.{IsSummaryOf, first_is}
use Rattle.place_chart.proofs.Elements.{each_is}

-- what is above what is in conflict is in conflict
pub conflict_there : (s : PointState) → PointStateBelow Conflict s → s ≡ Conflict
conflict_there Unreached be = absurd be
conflict_there (At p) be = absurd be
conflict_there Conflict be = refl

module _ (forest : ForestData) (chart : ChartByNumber) where
  point_state_below : (summaries : List Summary) (t : ℕ) (p q : Place) (k : Point) (o : Option Summary) → ((summary : Summary) → o ≡ Some summary → IsSummaryOf summaries t p summary) → All (IsSummaryBelow forest chart) summaries
      → IsValid q → IsEntered forest chart t q → Below p q → PointStateBelow (point_state_of o k) (chart t q k)
  point_state_below summaries t p q k None is all v en be = tt
  point_state_below summaries t p q k (Some summary) is all v en be =
      let i = is summary refl in
      subst (λ (u : ℕ). PointStateBelow (point_state_in summary k) (chart u q k)) i.template
      (each_is (IsSummaryBelow forest chart) summaries i.number summary all i.is q k v (subst (λ (u : ℕ). IsEntered forest chart u q) (sym i.template) en) (subst (λ (e : Place). Below e q) (sym i.entry) be))

  -- the summaries as a chart are below a chart that each of them is below
  pub chart_below : (summaries : List Summary) (t : ℕ) (p q : Place) (k : Point) → All (IsSummaryBelow forest chart) summaries → IsValid q → IsEntered forest chart t q → Below p q → PointStateBelow (chart_of summaries t p k) (chart t q k)
  chart_below summaries t p q k all v en be = point_state_below summaries t p q k (summary_of summaries t p) (first_is summaries t p) all v en be

  -- an edge of a template by its number
  pub edge_leads : (t : ℕ) (p : Place) (n : ℕ) (e : Edge) → IsClosedByNumber forest chart → IsValid p → slice_get (edges_at forest t) n ≡ Some e → EdgeLeads forest chart t e (chart t p (from_of e)) (chart t p (to_of e))
  edge_leads t p n e closed v is =
      subst (λ (x : Edge). EdgeLeads forest chart t x (chart t p (from_of x)) (chart t p (to_of x))) (get_or_from_slice_get (edges_at forest t) n e e is)
      (All-get_or (λ (x : Edge). EdgeLeads forest chart t x (chart t p (from_of x)) (chart t p (to_of x))) (edges_at forest t) n e (slice_get_within (edges_at forest t) n e is) (closed.leads t p v))

  -- a call of a closed chart enters
  pub called : (t u : ℕ) (p a q : Place) (n : ℕ) (e : Edge) → IsClosedByNumber forest chart → IsValid p → slice_get (edges_at forest t) n ≡ Some e → chart t p (from_of e) ≡ At a → step_of forest t e a ≡ Enters u q → IsEntered forest chart u q
  called t u p a q n e closed v is at en =
      subst (StepEnters forest chart) en (subst (EdgeEnters forest chart t e) at (edge_leads t p n e closed v is).enters)
