-- What holds of all summaries holds of what their chart has, and of what an edge gives.
use Rattle.std.proofs.Common.{◌≡◌, ℕ, List, refl, sym, subst, Option, Some, None}
use Rattle.std.specs.Prelude.{All, slice_get}
use Rattle.place_core.specs.place.Places.{Below, IsValid}
use Rattle.place_core.specs.declared.place.Place.{Place}
use Rattle.place_flow.proofs.PointStateLaws.{below_conflict, point_state_trans}
use Rattle.place_flow.proofs.StepLaws.{step-keeps-order, step-keeps-valid}
use Rattle.place_flow.specs.Flows.{edges_at}
use Rattle.place_flow.specs.Laws.{IsValidStep, StepBelow}
use Rattle.place_flow.specs.Transfer.{step_of}
use Rattle.place_flow.specs.PointStates.{IsValidPointState, IsConflictFree, PointStateBelow}
use Rattle.place_flow.specs.declared.point_state.PointState.{PointState}
use Rattle.place_flow.specs.declared.point_state.PointState.TheVariants.{Unreached, At, Conflict}
use Rattle.place_flow.specs.declared.step.EdgeStep.{EdgeStep}
use Rattle.place_flow.specs.declared.step.EdgeStep.TheVariants.{Reaches, Enters, Refused}
use Rattle.place_chart.specs.Charts.{ChartByNumber, EdgeEnters, IsClosedByNumber, IsEntered, EdgeLeads, StepEnters, given, step_given}
use Rattle.place_chart.specs.Summaries.{IsSummaryBelow, IsValidSummary, IsConflictFreeSummary, chart_of, summary_of, point_state_in, point_state_of}
use Rattle.place_chart.specs.declared.summary.Summary.{Summary}
use Rattle.place_chart.proofs.Elements.{of_all}
use Rattle.place_chart.proofs.FirstSummaries.{IsSummaryOf, first_is, first_summary_is}
use Rattle.tpl_paths.specs.Edges.{Edge, Point, finish_point, from_of, to_of}
use Rattle.tpl_tree.specs.Forests.{ForestData}

-- whole
of_conflict_free : (o : Option Summary) (k : Point) → ((summary : Summary) → o ≡ Some summary → IsConflictFreeSummary summary) → IsConflictFree (point_state_of o k)
of_conflict_free None k h = tt
of_conflict_free (Some summary) k h = h summary refl k

pub chart_conflict_free : (summaries : List Summary) → All IsConflictFreeSummary summaries → (t : ℕ) (p : Place) (k : Point) → IsConflictFree (chart_of summaries t p k)
chart_conflict_free summaries all t p k = of_conflict_free (summary_of summaries t p) k (λ summary e. first_summary_is IsConflictFreeSummary summaries t p summary all e)

-- valid
of_valid : (o : Option Summary) (k : Point) → ((summary : Summary) → o ≡ Some summary → IsValidSummary summary) → IsValidPointState (point_state_of o k)
of_valid None k h = tt
of_valid (Some summary) k h = (h summary refl).point_states k

pub chart_valid : (summaries : List Summary) → All IsValidSummary summaries → (t : ℕ) (p : Place) (k : Point) → IsValidPointState (chart_of summaries t p k)
chart_valid summaries all t p k = of_valid (summary_of summaries t p) k (λ summary e. first_summary_is IsValidSummary summaries t p summary all e)

step_given_valid : (summaries : List Summary) → All IsValidSummary summaries → (step : EdgeStep) → IsValidStep step → IsValidPointState (step_given (chart_of summaries) step)
step_given_valid summaries all (Reaches q) v = v
step_given_valid summaries all (Enters callee q) v = chart_valid summaries all callee q finish_point
step_given_valid summaries all Refused v = tt

pub given_valid : (forest : ForestData) (summaries : List Summary) → All IsValidSummary summaries → (t : ℕ) (e : Edge) (at : PointState) → IsValidPointState at → IsValidPointState (given forest (chart_of summaries) t e at)
given_valid forest summaries all t e Unreached v = tt
given_valid forest summaries all t e (At p) v = step_given_valid summaries all (step_of forest t e p) (step-keeps-valid forest t e p v)
given_valid forest summaries all t e Conflict v = tt

-- the place in which a call of a valid one enters
pub entered_valid : (forest : ForestData) (t u : ℕ) (e : Edge) (p q : Place) → IsValid p → step_of forest t e p ≡ Enters u q → IsValid q
entered_valid forest t u e p q v is = subst IsValidStep is (step-keeps-valid forest t e p v)

-- below a chart
module _ (forest : ForestData) (chart : ChartByNumber) where
  of_below : (summaries : List Summary) (t : ℕ) (p q : Place) (k : Point) (o : Option Summary) → ((summary : Summary) → o ≡ Some summary → IsSummaryOf summaries t p summary) → All (IsSummaryBelow forest chart) summaries
      → IsValid q → IsEntered forest chart t q → Below p q → PointStateBelow (point_state_of o k) (chart t q k)
  of_below summaries t p q k None is all v en be = tt
  of_below summaries t p q k (Some summary) is all v en be =
      let i = is summary refl in
      subst (λ (u : ℕ). PointStateBelow (point_state_in summary k) (chart u q k)) i.template
      (of_all (IsSummaryBelow forest chart) summaries i.number summary i.is all q k v (subst (λ (u : ℕ). IsEntered forest chart u q) (sym i.template) en) (subst (λ (e : Place). Below e q) (sym i.entry) be))

  -- the summaries as a chart are below a chart that each of them is below
  pub chart_below : (summaries : List Summary) (t : ℕ) (p q : Place) (k : Point) → All (IsSummaryBelow forest chart) summaries → IsValid q → IsEntered forest chart t q → Below p q → PointStateBelow (chart_of summaries t p k) (chart t q k)
  chart_below summaries t p q k all v en be = of_below summaries t p q k (summary_of summaries t p) (first_is summaries t p) all v en be

  -- what a step from less gives is less
  step_given_keeps : (summaries : List Summary) → All (IsSummaryBelow forest chart) summaries → (s u : EdgeStep) → IsValidStep u → StepBelow s u → StepEnters forest chart u → PointStateBelow (step_given (chart_of summaries) s) (step_given chart u)
  step_given_keeps summaries all s Refused v be en = below_conflict (step_given (chart_of summaries) s)
  step_given_keeps summaries all (Reaches p) (Reaches q) v be en = be
  step_given_keeps summaries all (Reaches p) (Enters d q) v be en = absurd be
  step_given_keeps summaries all (Enters c p) (Reaches q) v be en = absurd be
  step_given_keeps summaries all (Enters c p) (Enters d q) v be en = subst (λ (x : ℕ). PointStateBelow (chart_of summaries x p finish_point) (chart d q finish_point)) (sym be.0) (chart_below summaries d p q finish_point all v en be.1)
  step_given_keeps summaries all Refused (Reaches q) v be en = absurd be
  step_given_keeps summaries all Refused (Enters d q) v be en = absurd be

  pub given_keeps : (summaries : List Summary) → All (IsSummaryBelow forest chart) summaries → (t : ℕ) (e : Edge) (a b : PointState) → IsValidPointState a → IsValidPointState b → EdgeEnters forest chart t e b → PointStateBelow a b → PointStateBelow (given forest (chart_of summaries) t e a) (given forest chart t e b)
  given_keeps summaries all t e Unreached b v w en be = tt
  given_keeps summaries all t e (At p) Unreached v w en be = absurd be
  given_keeps summaries all t e (At p) (At q) v w en be = step_given_keeps summaries all (step_of forest t e p) (step_of forest t e q) (step-keeps-valid forest t e q w) (step-keeps-order forest t e p q v w be) en
  given_keeps summaries all t e (At p) Conflict v w en be = below_conflict (step_given (chart_of summaries) (step_of forest t e p))
  given_keeps summaries all t e Conflict Unreached v w en be = absurd be
  given_keeps summaries all t e Conflict (At q) v w en be = absurd be
  given_keeps summaries all t e Conflict Conflict v w en be = tt

  -- an edge of a template by its number
  pub edge_leads : (t : ℕ) (p : Place) (n : ℕ) (e : Edge) → IsClosedByNumber forest chart → IsValid p → slice_get (edges_at forest t) n ≡ Some e → EdgeLeads forest chart t e (chart t p (from_of e)) (chart t p (to_of e))
  edge_leads t p n e closed v is = of_all (λ (x : Edge). EdgeLeads forest chart t x (chart t p (from_of x)) (chart t p (to_of x))) (edges_at forest t) n e is (closed.leads t p v)

  -- a call of a closed chart enters
  pub called : (t u : ℕ) (p a q : Place) (n : ℕ) (e : Edge) → IsClosedByNumber forest chart → IsValid p → slice_get (edges_at forest t) n ≡ Some e → chart t p (from_of e) ≡ At a → step_of forest t e a ≡ Enters u q → IsEntered forest chart u q
  called t u p a q n e closed v is at en =
      subst (StepEnters forest chart) en (subst (EdgeEnters forest chart t e) at (edge_leads t p n e closed v is).enters)

  -- what an edge of a summary gives is below what each closed chart has at the edge's end
  pub gives_below : (summaries : List Summary) (summary : Summary) (n : ℕ) (e : Edge) → IsClosedByNumber forest chart → All (IsSummaryBelow forest chart) summaries → IsSummaryBelow forest chart summary → IsValidSummary summary → slice_get (edges_at forest summary.template) n ≡ Some e
      → (q : Place) → IsValid q → IsEntered forest chart summary.template q → Below summary.entry q → PointStateBelow (given forest (chart_of summaries) summary.template e (point_state_in summary (from_of e))) (chart summary.template q (to_of e))
  gives_below summaries summary n e closed all below valid is q v en be =
      let t = summary.template in
      let l = edge_leads t q n e closed v is in
      point_state_trans (given forest (chart_of summaries) t e (point_state_in summary (from_of e))) (given forest chart t e (chart t q (from_of e))) (chart t q (to_of e))
      (given_keeps summaries all t e (point_state_in summary (from_of e)) (chart t q (from_of e)) (valid.point_states (from_of e)) (closed.valid t q (from_of e) v) l.enters (below q (from_of e) v en be)) l.gives
