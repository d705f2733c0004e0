-- A set that has a chart is not refused.
use Rattle.std.proofs.Common.{◌≡◌, ℕ, List, All, refl, sym, ap, ◌∙◌, subst, Option, Some, None, inl, inr, arith, get_or}
use Rattle.place_core.specs.declared.place.Place.{Place}
use Rattle.place_core.specs.declared.place.Place.TheVariants as place
use Rattle.place_laws.specs.Exactness.{ChartedSetsAreNotRefused}
use Rattle.place_flow.specs.PointStates.{IsConflictFree}
use Rattle.place_infer.specs.ChartViews.{ChartData}
use Rattle.place_infer.specs.Inferring.{EndsBy, EndsInText, HasTooManyPairs, IsChartOfSet, IsRefusedByConflict, root_numbers}
use Rattle.place_infer.specs.declared.set_refused.SetRefused.TheVariants as refused
use Rattle.place_chart.proofs.Agreeing.{one-chart}
use Rattle.place_chart.proofs.Counts.{one-count}
use Rattle.place_chart.proofs.ApartSummaries.{own_point_state}
use Rattle.place_chart.proofs.Elements.{of_all}
use Rattle.place_chart.proofs.FirstSummaries.{first_is}
use Rattle.place_chart.specs.Least.{IsLeastChart}
use Rattle.place_chart.specs.Summaries.{IsConflictFreeSummary, chart_of, summary_of, point_state_in, point_state_of}
use Rattle.place_chart.specs.declared.summary.Summary.{Summary}
use Rattle.place_show.specs.declared.showing.Showing.{Showing}
use Rattle.tpl_paths.specs.Edges.{finish_point}
use Rattle.tpl_tree.specs.Forests.{ForestData}

module _ (forest : ForestData) (names : List (List ℕ)) (chart : ChartData) (is : IsChartOfSet forest names chart) where
  -- other summaries that are the least chart of the set
  abbrev IsLeastToo : List Summary → Type 0
  IsLeastToo summaries = IsLeastChart forest (root_numbers forest names) place.Text summaries

  -- where they are in conflict, the chart is
  not_conflict : (summaries : List Summary) (sh : Showing) → IsLeastToo summaries → IsRefusedByConflict summaries sh → ⊥
  not_conflict summaries sh least t =
      let too = one-chart forest (root_numbers forest names) place.Text summaries chart.summaries tt least is.least t.summary t.conflict.summary t.conflict.is in
      let conflict_free = of_all IsConflictFreeSummary chart.summaries too.number too.other too.is is.conflict_free t.point in
      subst IsConflictFree (sym (too.same t.point) ∙ t.conflict.conflict) conflict_free

  -- where one of their pairs ends, that of the chart does
  same_end : (summaries : List Summary) (t : ℕ) (o : Option Summary) → IsLeastToo summaries → summary_of summaries t place.Text ≡ o → EndsInText (chart_of chart.summaries t place.Text finish_point) → EndsInText (point_state_of o finish_point)
  same_end summaries t None least e ends = tt
  same_end summaries t (Some summary) least e ends =
      let i = first_is summaries t place.Text summary e in
      let too = one-chart forest (root_numbers forest names) place.Text summaries chart.summaries tt least is.least i.number summary i.is in
      let own : chart_of chart.summaries too.other.template too.other.entry finish_point ≡ point_state_in too.other finish_point = own_point_state chart.summaries too.number too.other finish_point is.least.apart too.is in
      let here : chart_of chart.summaries t place.Text finish_point ≡ point_state_in summary finish_point =
      ap (λ (u : ℕ). chart_of chart.summaries u place.Text finish_point) (sym (too.template ∙ i.template)) ∙ ap (λ (p : Place). chart_of chart.summaries too.other.template p finish_point) (sym (too.entry ∙ i.entry)) ∙ own ∙ sym (too.same finish_point) in
      subst EndsInText here ends

  ends_too : (summaries : List Summary) → IsLeastToo summaries → All (λ t. EndsInText (chart_of summaries t place.Text finish_point)) (root_numbers forest names)
  ends_too summaries least k t lt = same_end summaries (get_or (root_numbers forest names) k t) (summary_of summaries (get_or (root_numbers forest names) k t) place.Text) least refl (is.ends k t lt)

  not_elsewhere : (summaries : List Summary) (sh : Showing) → IsLeastToo summaries → EndsBy forest names summaries sh → ⊥
  not_elsewhere summaries sh least e = e.elsewhere (ends_too summaries least)

  not_many : HasTooManyPairs forest names → ⊥
  not_many many =
      let same = one-count forest (root_numbers forest names) place.Text many.summaries chart.summaries tt many.least is.least in
      let more = many.many in let few = is.few in
      omega (arith, same, more, few)

pub no-refusal : ChartedSetsAreNotRefused
no-refusal forest names chart (refused.Shows sh) is r = elim r.cause [
  | inl t ↦ absurd (not_conflict forest names chart is r.summaries sh r.least t)
  | inr e ↦ absurd (not_elsewhere forest names chart is r.summaries sh r.least e)
]
no-refusal forest names chart refused.TooManyDerived is r = absurd (not_many forest names chart is r)
no-refusal forest names chart refused.Memory is r = refl
