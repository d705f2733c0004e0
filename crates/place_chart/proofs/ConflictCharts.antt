-- What is in conflict in the least chart is in conflict in each closed chart.
use Rattle.std.proofs.Common.{◌≡◌, ℕ, zero, suc, ◌<◌, List, refl, sym, subst, Some, inl, inr, ◌⊎◌, arith, take}
use Rattle.std.specs.Prelude.{All, slice_get}
use Rattle.std.proofs.lemmas.List.Elements.{All-contains}
use Rattle.place_core.specs.place.Places.{Below, IsValid}
use Rattle.place_core.specs.declared.place.Place.{Place}
use Rattle.place_flow.specs.Flows.{edges_at}
use Rattle.place_flow.specs.Laws.{IsValidStep, StepBelow}
use Rattle.place_flow.specs.Transfer.{step_of}
use Rattle.place_flow.specs.PointStates.{IsValidPointState, PointStateBelow}
use Rattle.place_flow.specs.declared.point_state.PointState.{PointState}
use Rattle.place_flow.specs.declared.point_state.PointState.TheVariants.{Unreached, At, Conflict}
use Rattle.place_flow.specs.declared.step.EdgeStep.{EdgeStep}
use Rattle.place_flow.specs.declared.step.EdgeStep.TheVariants.{Reaches, Enters, Refused}
use Rattle.place_flow.proofs.PointStateLaws.{below_refl}
use Rattle.place_flow.proofs.StepLaws.{step-keeps-order, step-keeps-valid}
use Rattle.place_chart.specs.Charts.{ChartByNumber, IsClosedByNumber, IsEntered, EdgeLeads, StepEnters, step_given}
use Rattle.place_chart.specs.Least.{SummaryCalls, IsLeastChart, IsReached, IsInConflict}
use Rattle.place_chart.specs.Summaries.{IsSummaryBelow, IsValidSummary}
use Rattle.place_chart.specs.declared.summary.Summary.{Summary}
use Rattle.tpl_paths.specs.Edges.{Edge, Point, from_of, to_of}
use Rattle.tpl_tree.specs.Forests.{ForestData}
use Rattle.place_chart.specs.Exact.{IsConflictChart, ConflictEverywhere}
use Rattle.place_chart.proofs.Elements.{each_is, taken_at}
use Rattle.place_chart.proofs.SummariesBelow.{edge_leads, conflict_there}

module _ (forest : ForestData) (chart : ChartByNumber) (closed : IsClosedByNumber forest chart) where
  -- a template is entered in a valid place above one
  record IsAbove (t : ℕ) (p : Place) : Type 0 where
    pub place : Place
    pub valid : IsValid place
    pub above : Below p place
    pub entered : IsEntered forest chart t place

  -- a step above one that enters a template enters it above, or it is refused
  step_above : (t u : ℕ) (q p : Place) (to : Point) (s : EdgeStep) → IsValid q → IsEntered forest chart t q → StepBelow (Enters u p) s → IsValidStep s → StepEnters forest chart s → PointStateBelow (step_given chart s) (chart t q to)
      → IsAbove u p ⊎ IsConflictChart forest chart
  step_above t u q p to (Reaches x) v en be w es gives = absurd be
  step_above t u q p to (Enters d x) v en be w es gives = inl (record { place = x; valid = w; above = be.1; entered = subst (λ (c : ℕ). IsEntered forest chart c x) (sym be.0) es })
  step_above t u q p to Refused v en be w es gives = inr (record { template = t; entry = q; point = to; valid = v; entered = en; conflict = conflict_there (chart t q to) gives })

  called_above : (t u : ℕ) (q a p : Place) (n : ℕ) (e : Edge) (o : PointState) → IsValid q → IsValid a → IsEntered forest chart t q → slice_get (edges_at forest t) n ≡ Some e → step_of forest t e a ≡ Enters u p
      → chart t q (from_of e) ≡ o → PointStateBelow (At a) o → IsAbove u p ⊎ IsConflictChart forest chart
  called_above t u q a p n e Unreached v w en is enters at be = absurd be
  called_above t u q a p n e (At r) v w en is enters at be =
      let l = subst (λ (s : PointState). EdgeLeads forest chart t e s (chart t q (to_of e))) at (edge_leads forest chart t q n e closed v is) in
      let x : IsValid r = subst IsValidPointState at (closed.valid t q (from_of e) v) in
      step_above t u q p (to_of e) (step_of forest t e r) v en
      (subst (λ (s : EdgeStep). StepBelow s (step_of forest t e r)) enters (step-keeps-order forest t e a r w x be))
      (step-keeps-valid forest t e r x) l.enters l.gives
  called_above t u q a p n e Conflict v w en is enters at be = inr (record { template = t; entry = q; point = from_of e; valid = v; entered = en; conflict = at })

  module _ (roots : List ℕ) (first : Place) (first_valid : IsValid first) (entered : All (λ (t : ℕ). IsEntered forest chart t first) roots) (summaries : List Summary) (least : IsLeastChart forest roots first summaries) where
    below : (i : ℕ) (summary : Summary) → slice_get summaries i ≡ Some summary → IsSummaryBelow forest chart summary
    below i summary e = each_is (IsSummaryBelow forest chart) summaries i summary (least.least chart closed) e

    by_call : (summary : Summary) (c : SummaryCalls forest summaries summary.template summary.entry) → IsAbove c.summary.template c.summary.entry ⊎ IsConflictChart forest chart → IsAbove summary.template summary.entry ⊎ IsConflictChart forest chart
    by_call summary c (inr conflict) = inr conflict
    by_call summary c (inl a) =
        let be = below c.caller c.summary c.is_summary a.place (from_of c.edge) a.valid a.entered a.above in
        let w : IsValid c.place = subst IsValidPointState c.stands ((each_is IsValidSummary summaries c.caller c.summary least.valid c.is_summary).point_states (from_of c.edge)) in
        called_above c.summary.template summary.template a.place c.place summary.entry c.number c.edge (chart c.summary.template a.place (from_of c.edge)) a.valid w a.entered c.is_edge c.enters refl
        (subst (λ (s : PointState). PointStateBelow s (chart c.summary.template a.place (from_of c.edge))) c.stands be)

    above_from : (i : ℕ) (summary : Summary) → ((j : ℕ) (r : Summary) → j < i → slice_get summaries j ≡ Some r → IsAbove r.template r.entry ⊎ IsConflictChart forest chart) → IsReached forest roots first (take i summaries) summary.template summary.entry
        → IsAbove summary.template summary.entry ⊎ IsConflictChart forest chart
    above_from i summary before (inl o) = inl (record {
      place = first;
      valid = first_valid;
      above = subst (λ (p : Place). Below p first) (sym o.1) (below_refl first);
      entered = All-contains (λ (t : ℕ). IsEntered forest chart t first) roots summary.template entered o.0;
    })
    above_from i summary before (inr c) =
        let at = taken_at summaries i c.caller c.summary c.is_summary in
        by_call summary
        (record { caller = c.caller; number = c.number; summary = c.summary; edge = c.edge; place = c.place; is_summary = at.1; is_edge = c.is_edge; stands = c.stands; enters = c.enters })
        (before c.caller c.summary at.0 at.1)

    above_to : (n i : ℕ) (summary : Summary) → i < n → slice_get summaries i ≡ Some summary → IsAbove summary.template summary.entry ⊎ IsConflictChart forest chart
    above_to zero i summary lt e = absurd (omega (arith, lt))
    above_to (suc n) i summary lt e = above_from i summary (λ j r le f. above_to n j r (omega (arith, lt, le)) f) (least.reached i summary e)

    conflict_from : (n : ℕ) (k : Point) (t : IsInConflict summaries n k) → IsAbove t.summary.template t.summary.entry ⊎ IsConflictChart forest chart → IsConflictChart forest chart
    conflict_from n k t (inr conflict) = conflict
    conflict_from n k t (inl a) =
        let be = below n t.summary t.is a.place k a.valid a.entered a.above in
        record {
          template = t.summary.template;
          entry = a.place;
          point = k;
          valid = a.valid;
          entered = a.entered;
          conflict = conflict_there (chart t.summary.template a.place k) (subst (λ (s : PointState). PointStateBelow s (chart t.summary.template a.place k)) t.conflict be);
        }

pub conflict-everywhere : ConflictEverywhere
conflict-everywhere forest roots first summaries n k v least conflict chart closed entered =
    conflict_from forest chart closed roots first v entered summaries least n k conflict (above_to forest chart closed roots first v entered summaries least (suc n) n conflict.summary (omega arith) conflict.is)
