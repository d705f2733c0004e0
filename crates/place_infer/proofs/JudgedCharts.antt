-- The chart that was found, as it is judged.
use Rattle.std.proofs.Common.{◌≡◌, true, false, ℕ, zero, suc, ◌<◌, ◌≤◌, List, [], ◌∷◌, All, length, refl, ap, ◌∙◌, subst, Option, Some, None, inl, inr, arith}
use Rattle.std.proofs.lemmas.List.Elements.{All-contains}
use Rattle.std.specs.Prelude.{Contains, true, false, slice_index_or}
use Rattle.place_flow.proofs.HtmlCovers.{chart-covers}
use Rattle.place_core.specs.declared.place.Place.TheVariants as place
use Rattle.place_core.specs.page.Html.{start}
use Rattle.place_infer.specs.ChartViews.{ArePairCalls, ChartData}
use Rattle.place_infer.specs.Inferring.{EndsInText, HasTooManyPairs, IsChartOfSet, IsRefusal, HasConflictIn, SetRefuses, most_pairs, root_numbers, with_number}
use Rattle.place_infer.specs.declared.set_refused.SetRefused.{SetRefused}
use Rattle.place_infer.specs.declared.set_refused.SetRefused.TheVariants as refused
use Rattle.place_chart.proofs.ConflictFreeCharts.{root-is-chart}
use Rattle.place_chart.specs.Exact.{places_of}
use Rattle.place_chart.specs.Charts.{IsEntered}
use Rattle.place_chart.specs.Least.{IsLeastChart}
use Rattle.place_chart.specs.Summaries.{IsConflictFreeSummary, chart_of}
use Rattle.place_chart.specs.declared.summary.Summary.{Summary}
use Rattle.tpl_paths.specs.Edges.{finish_point}
use Rattle.tpl_paths.specs.declared.point.Point.TheVariants as point
use Rattle.tpl_tree.specs.Forests.{ForestData, number_named}

pub conflict-refused : (forest : ForestData) (names : List (List ℕ)) (roots : List ℕ) (summaries : List Summary) (n : ℕ) → roots ≡ root_numbers forest names → IsLeastChart forest roots place.Text summaries → length summaries ≤ most_pairs
    → HasConflictIn summaries n → (r : SetRefused) → IsRefusal forest names false r → SetRefuses forest names r
conflict-refused forest names roots summaries n same least few conflict (refused.Shows sh) i = record {
  summaries = summaries;
  least = subst (λ (r : List ℕ). IsLeastChart forest r place.Text summaries) same least;
  few = few;
  cause = inl (record { summary = n; point = conflict.point; conflict = conflict.is; code = i.2 });
  root = i.1;
  shows = i.0;
}
conflict-refused forest names roots summaries n same least few conflict refused.TooManyDerived i = absurd i
conflict-refused forest names roots summaries n same least few conflict refused.Memory i = tt

pub end-refused : (forest : ForestData) (names : List (List ℕ)) (roots : List ℕ) (summaries : List Summary) → roots ≡ root_numbers forest names → IsLeastChart forest roots place.Text summaries → All IsConflictFreeSummary summaries → length summaries ≤ most_pairs
    → (t : ℕ) → Contains roots t → (EndsInText (chart_of summaries t place.Text finish_point) → ⊥) → (r : SetRefused) → IsRefusal forest names true r → SetRefuses forest names r
end-refused forest names roots summaries same least conflict_free few t among elsewhere (refused.Shows sh) i = record {
  summaries = summaries;
  least = subst (λ (r : List ℕ). IsLeastChart forest r place.Text summaries) same least;
  few = few;
  cause = inr (record {
    conflict_free = conflict_free;
    elsewhere = λ all. elsewhere (All-contains (λ (u : ℕ). EndsInText (chart_of summaries u place.Text finish_point)) (root_numbers forest names) t all (subst (λ (ts : List ℕ). Contains ts t) same among));
    code = i.2;
  });
  root = i.1;
  shows = i.0;
}
end-refused forest names roots summaries same least conflict_free few t among elsewhere refused.TooManyDerived i = absurd i
end-refused forest names roots summaries same least conflict_free few t among elsewhere refused.Memory i = tt

pub too-many : (forest : ForestData) (names : List (List ℕ)) (roots : List ℕ) (summaries : List Summary) → roots ≡ root_numbers forest names → IsLeastChart forest roots place.Text summaries → most_pairs < length summaries → HasTooManyPairs forest names
too-many forest names roots summaries same least many = record { summaries = summaries; least = subst (λ (r : List ℕ). IsLeastChart forest r place.Text summaries) same least; many = many }

-- an element after others, and the first one
more-in : (x : ℕ) (xs : List ℕ) (t : ℕ) → Contains xs t → Contains (x ∷ xs) t
more-in x xs t c = (let lt = c.1 in (suc c.0, omega (arith, lt), c.2))

with-in : (o : Option ℕ) (xs : List ℕ) (t : ℕ) → Contains xs t → Contains (with_number o xs) t
with-in None xs t c = c
with-in (Some x) xs t c = more-in x xs t c

first-in : (o : Option ℕ) (xs : List ℕ) (t : ℕ) → o ≡ Some t → Contains (with_number o xs) t
first-in None xs t e = cc
first-in (Some x) xs t e = (0, omega arith, cc)

root-from : (forest : ForestData) (names : List (List ℕ)) (name : List ℕ) (t k : ℕ) → k < length names → slice_index_or names k name ≡ name → number_named name forest ≡ Some t → Contains (root_numbers forest names) t
root-from forest [] name t k lt is e = absurd (omega (arith, lt))
root-from forest (x ∷ names) name t zero lt is e = first-in (number_named x forest) (root_numbers forest names) t (ap (λ (n : List ℕ). number_named n forest) is ∙ e)
root-from forest (x ∷ names) name t (suc k) lt is e = with-in (number_named x forest) (root_numbers forest names) t (root-from forest names name t k (omega (arith, lt)) is e)

-- the number of a root is among those of the roots
pub root-in : (forest : ForestData) (names : List (List ℕ)) (name : List ℕ) (t : ℕ) → Contains names name → number_named name forest ≡ Some t → Contains (root_numbers forest names) t
root-in forest names name t is e = root-from forest names name t is.0 is.1 is.2 e

pub chart-of-set : (forest : ForestData) (names : List (List ℕ)) (roots : List ℕ) (chart : ChartData) → roots ≡ root_numbers forest names → IsLeastChart forest roots place.Text chart.summaries → All IsConflictFreeSummary chart.summaries
    → length chart.summaries ≤ most_pairs → All (λ t. EndsInText (chart_of chart.summaries t place.Text finish_point)) roots → ArePairCalls forest chart.summaries chart.calls → IsChartOfSet forest names chart
chart-of-set forest names roots chart same found conflict_free few ends calls =
    let least = subst (λ (r : List ℕ). IsLeastChart forest r place.Text chart.summaries) same found in
    record {
      least = least;
      conflict_free = conflict_free;
      few = few;
      ends = subst (All (λ t. EndsInText (chart_of chart.summaries t place.Text finish_point))) same ends;
      covers = λ name t is e ms walk.
          chart-covers forest (places_of forest chart.summaries) name place.Text start.at
          (root-is-chart forest chart.summaries name t place.Text least.valid least.closed conflict_free e (All-contains (λ (r : ℕ). IsEntered forest (chart_of chart.summaries) r place.Text) (root_numbers forest names) t least.entered (root-in forest names name t is e)))
          (tt, record { own = place.Text; stands = refl; valid = tt; below = refl }) ms walk;
      calls = calls;
    }
