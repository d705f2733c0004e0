-- Two least charts of the same roots have the same pairs, and the same at each point of them.
use Rattle.std.proofs.Common.{◌≡◌, ℕ, zero, suc, ◌<◌, List, refl, sym, ap, ◌∙◌, subst, Option, Some, None, inl, inr, arith, take}
use Rattle.std.specs.Prelude.{slice_get}
use Rattle.std.proofs.lemmas.List.Elements.{All-contains}
use Rattle.place_core.specs.place.Places.{IsValid}
use Rattle.place_core.specs.declared.place.Place.{Place}
use Rattle.place_core.proofs.Semilattices.{one_value}
use Rattle.place_flow.specs.Flows.{start_at}
use Rattle.place_flow.specs.PointStates.{PointStateBelow}
use Rattle.place_flow.specs.declared.point_state.PointState.TheVariants.{At}
use Rattle.place_flow.proofs.PointStateLaws.{below_refl, point_state_anti}
use Rattle.place_chart.specs.Charts.{IsEntered}
use Rattle.place_chart.specs.Least.{SummaryCalls, IsLeastChart, IsReached}
use Rattle.place_chart.specs.Summaries.{IsValidSummary, chart_of, summary_of, point_state_in, point_state_of}
use Rattle.place_chart.specs.declared.summary.Summary.{Summary}
use Rattle.tpl_paths.specs.Edges.{Point, from_of}
use Rattle.tpl_tree.specs.Forests.{ForestData}
use Rattle.place_chart.specs.Unique.{IsPairToo, OneChart}
use Rattle.place_chart.proofs.FirstSummaries.{first_is, has_first}
use Rattle.place_chart.proofs.Elements.{each_is, taken_at}
use Rattle.place_chart.proofs.SummariesBelow.{called, chart_below}

module _ (forest : ForestData) (roots : List ℕ) (first : Place) where
  -- a summary has what the chart has of its pair
  own : (summaries : List Summary) → IsLeastChart forest roots first summaries → (i : ℕ) (summary : Summary) → slice_get summaries i ≡ Some summary → (k : Point) → chart_of summaries summary.template summary.entry k ≡ point_state_in summary k
  own summaries g i summary e k =
      let f = has_first summaries i summary e in
      let a = first_is summaries summary.template summary.entry f.0 f.1 in
      let n : a.number ≡ i = g.apart a.number i f.0 summary a.is e a.template a.entry in
      let s : f.0 ≡ summary = one_value f.0 summary (sym a.is ∙ ap (slice_get summaries) n ∙ e) in
      ap (λ (o : Option Summary). point_state_of o k) f.1 ∙ ap (λ (r : Summary). point_state_in r k) s

  -- where both charts enter a pair, they have the same
  agree : (summaries others : List Summary) → IsLeastChart forest roots first summaries → IsLeastChart forest roots first others → (t : ℕ) (p : Place) → IsValid p → IsEntered forest (chart_of summaries) t p → IsEntered forest (chart_of others) t p
      → (k : Point) → chart_of summaries t p k ≡ chart_of others t p k
  agree summaries others g h t p v en em k = point_state_anti (chart_of summaries t p k) (chart_of others t p k)
      (chart_below forest (chart_of others) summaries t p p k (g.least (chart_of others) h.closed) v em (below_refl p))
      (chart_below forest (chart_of summaries) others t p p k (h.least (chart_of summaries) g.closed) v en (below_refl p))

  -- each pair is entered by both
  record AreEntered (summaries others : List Summary) (summary : Summary) : Type 0 where
    pub one : IsEntered forest (chart_of summaries) summary.template summary.entry
    pub two : IsEntered forest (chart_of others) summary.template summary.entry

  module _ (summaries others : List Summary) (g : IsLeastChart forest roots first summaries) (h : IsLeastChart forest roots first others) where
    by_call : (summary : Summary) (c : SummaryCalls forest summaries summary.template summary.entry) → AreEntered summaries others c.summary → AreEntered summaries others summary
    by_call summary c en =
        let v = (each_is IsValidSummary summaries c.caller c.summary g.valid c.is_summary).entry in
        let here : chart_of summaries c.summary.template c.summary.entry (from_of c.edge) ≡ At c.place = own summaries g c.caller c.summary c.is_summary (from_of c.edge) ∙ c.stands in
        let there : chart_of others c.summary.template c.summary.entry (from_of c.edge) ≡ At c.place = sym (agree summaries others g h c.summary.template c.summary.entry v en.one en.two (from_of c.edge)) ∙ here in
        record {
          one = called forest (chart_of summaries) c.summary.template summary.template c.summary.entry c.place summary.entry c.number c.edge g.closed v c.is_edge here c.enters;
          two = called forest (chart_of others) c.summary.template summary.template c.summary.entry c.place summary.entry c.number c.edge h.closed v c.is_edge there c.enters;
        }

    from_reached : (i : ℕ) (summary : Summary) → ((j : ℕ) (r : Summary) → j < i → slice_get summaries j ≡ Some r → AreEntered summaries others r) → IsReached forest roots first (take i summaries) summary.template summary.entry → AreEntered summaries others summary
    from_reached i summary before (inl o) = record {
      one = subst (IsEntered forest (chart_of summaries) summary.template) (sym o.1) (All-contains (λ (t : ℕ). IsEntered forest (chart_of summaries) t first) roots summary.template g.entered o.0);
      two = subst (IsEntered forest (chart_of others) summary.template) (sym o.1) (All-contains (λ (t : ℕ). IsEntered forest (chart_of others) t first) roots summary.template h.entered o.0);
    }
    from_reached i summary before (inr c) =
        let at = taken_at summaries i c.caller c.summary c.is_summary in
        by_call summary
        (record { caller = c.caller; number = c.number; summary = c.summary; edge = c.edge; place = c.place; is_summary = at.1; is_edge = c.is_edge; stands = c.stands; enters = c.enters })
        (before c.caller c.summary at.0 at.1)

    entered_to : (n i : ℕ) (summary : Summary) → i < n → slice_get summaries i ≡ Some summary → AreEntered summaries others summary
    entered_to zero i summary lt e = absurd (omega (arith, lt))
    entered_to (suc n) i summary lt e = from_reached i summary (λ j r le f. entered_to n j r (omega (arith, lt, le)) f) (g.reached i summary e)

    -- what is entered has a summary
    entered_summary : (t : ℕ) (p : Place) (o : Option Summary) → PointStateBelow (At p) (point_state_of o (start_at forest t)) → (summary : Summary) × (o ≡ Some summary)
    entered_summary t p None en = absurd en
    entered_summary t p (Some summary) en = (summary, refl)

    pub pair_too : (i : ℕ) (summary : Summary) → slice_get summaries i ≡ Some summary → IsPairToo others summary
    pair_too i summary e =
        let v = (each_is IsValidSummary summaries i summary g.valid e).entry in
        let en = entered_to (suc i) i summary (omega arith) e in
        let f = entered_summary summary.template summary.entry (summary_of others summary.template summary.entry) en.two in
        let a = first_is others summary.template summary.entry f.0 f.1 in
        record {
          number = a.number;
          other = f.0;
          is = a.is;
          template = a.template;
          entry = a.entry;
          same = λ k. sym (own summaries g i summary e k) ∙ agree summaries others g h summary.template summary.entry v en.one en.two k ∙ ap (λ (o : Option Summary). point_state_of o k) f.1;
        }

pub one-chart : OneChart
one-chart forest roots first summaries others v g h = pair_too forest roots first summaries others g h
