-- What inferring the chart of a set of roots answers.
use Rattle.std.specs.Prelude.{◌≡◌, ◌<◌, ◌≤◌, ◌⊎◌, Bool, true, false, ℕ, List, [], ◌∷◌, All, Option, Some, None, Result, Ok, Err, Contains, length, ⊤}
use Rattle.place_flow.specs.Covering.{IsCovered, pair, pairs_along, read_moves}
use Rattle.place_flow.specs.HtmlCovering.{html_language}
use Rattle.place_core.specs.page.Html.{start}
use Rattle.place_core.specs.declared.code.Code.{Code}
use Rattle.place_core.specs.declared.code.Code.TheVariants as code
use Rattle.place_core.specs.declared.place.Place.TheVariants as place
use Rattle.place_flow.specs.declared.point_state.PointState.{PointState}
use Rattle.place_flow.specs.declared.point_state.PointState.TheVariants.{Unreached, At, Conflict}
use Rattle.place_infer.specs.ChartViews.{ArePairCalls, ChartData}
use Rattle.place_infer.specs.declared.set_refused.SetRefused.{SetRefused}
use Rattle.place_infer.specs.declared.set_refused.SetRefused.TheVariants as refused
use Rattle.place_chart.specs.Exact.{places_of}
use Rattle.place_chart.specs.Least.{IsLeastChart, IsInConflict}
use Rattle.place_chart.specs.Summaries.{IsConflictFreeSummary, chart_of}
use Rattle.place_chart.specs.declared.summary.Summary.{Summary}
use Rattle.place_show.specs.NoErrors.{HaveNoErrors}
use Rattle.place_show.specs.Showings.{Shows}
use Rattle.place_show.specs.declared.showing.Showing.{Showing}
use Rattle.tpl_paths.specs.Edges.{Point, finish_point}
use Rattle.tpl_paths.specs.Paths.{IsPath, Move, at_root, reached, signs_of}
use Rattle.tpl_tree.specs.Forests.{ForestData, number_named}

-- the numbers of the roots that are templates of a forest
abbrev pub with_number : Option ℕ → List ℕ → List ℕ
with_number None roots = roots
with_number (Some t) roots = t ∷ roots

abbrev pub root_numbers : ForestData → List (List ℕ) → List ℕ
root_numbers forest [] = []
root_numbers forest (name ∷ names) =
    with_number (number_named name forest) (root_numbers forest names)

-- the most pairs that a chart may have
abbrev pub most_pairs : ℕ
most_pairs = 8192

-- a root ends in text, or never
abbrev pub EndsInText : PointState → Type 0
EndsInText Unreached = ⊤
EndsInText (At p) = p ≡ place.Text
EndsInText Conflict = ⊥

-- a summary, by its number, has a point in conflict
pub record HasConflictIn (summaries : List Summary) (n : ℕ) : Type 0 where
  pub point : Point
  pub is : IsInConflict summaries n point

-- On every path of a root, the place of the chart at the path's end, in the pair to which its calls lead, stands for what the path has read.
abbrev pub CoversPaths : ForestData → List Summary → List ℕ → Type 0
CoversPaths forest summaries name = (ms : List Move) → IsPath forest (at_root forest name) ms
    → IsCovered html_language forest (places_of forest summaries) place.Text
    (reached forest (at_root forest name) ms)
    (pairs_along forest (places_of forest summaries) (signs_of ms) (pair name place.Text ∷ []))
    (read_moves html_language ms start.at)

-- The chart of a set: the least one, not in conflict, within the limit; each root ends in text; every path of each root is covered; and each call
-- has its pair.
pub record IsChartOfSet (forest : ForestData) (names : List (List ℕ)) (chart : ChartData)
    : Type 0 where
  pub least : IsLeastChart forest (root_numbers forest names) place.Text chart.summaries
  pub conflict_free : All IsConflictFreeSummary chart.summaries
  pub few : length chart.summaries ≤ most_pairs
  pub ends : All (λ t. EndsInText (chart_of chart.summaries t place.Text finish_point))
      (root_numbers forest names)
  pub covers : (name : List ℕ) (t : ℕ) → Contains names name → number_named name forest ≡ Some t
      → CoversPaths forest chart.summaries name
  pub calls : ArePairCalls forest chart.summaries chart.calls

-- the error of a root's end
abbrev pub is_end_code : Code → Bool
is_end_code code.EndContext = true
is_end_code _ = false

-- a point of the chart is in conflict, and the error is none of a root's end
pub record IsRefusedByConflict (summaries : List Summary) (sh : Showing) : Type 0 where
  pub summary : ℕ
  pub point : Point
  pub conflict : IsInConflict summaries summary point
  pub code : is_end_code sh.code ≡ false

-- nothing is in conflict, a root ends elsewhere in the chart, and the error is that of a root's end
pub record EndsBy (forest : ForestData) (names : List (List ℕ)) (summaries : List Summary) (sh : Showing) : Type 0 where
  pub conflict_free : All IsConflictFreeSummary summaries
  pub elsewhere : All (λ t. EndsInText (chart_of summaries t place.Text finish_point)) (root_numbers forest names) → ⊥
  pub code : is_end_code sh.code ≡ true

-- The least chart is in conflict, or a root can end elsewhere; and an error stands on the paths that are shown, which are those of a root.
pub record IsRefusedSet (forest : ForestData) (names : List (List ℕ)) (sh : Showing) : Type 0 where
  pub summaries : List Summary
  pub least : IsLeastChart forest (root_numbers forest names) place.Text summaries
  pub few : length summaries ≤ most_pairs
  pub cause : IsRefusedByConflict summaries sh ⊎ EndsBy forest names summaries sh
  pub root : Contains names sh.root
  pub shows : Shows forest sh

-- likewise, as it is found
abbrev pub IsRefusal : ForestData → List (List ℕ) → Bool → SetRefused → Type 0
IsRefusal forest names ends (refused.Shows sh) =
    Shows forest sh × Contains names sh.root × (is_end_code sh.code ≡ ends)
IsRefusal forest names ends refused.TooManyDerived = ⊥
IsRefusal forest names ends refused.Memory = ⊤

-- The least chart has too many pairs, whatever is in conflict.
pub record HasTooManyPairs (forest : ForestData) (names : List (List ℕ)) : Type 0 where
  pub summaries : List Summary
  pub least : IsLeastChart forest (root_numbers forest names) place.Text summaries
  pub many : most_pairs < length summaries

abbrev pub SetRefuses : ForestData → List (List ℕ) → SetRefused → Type 0
SetRefuses forest names (refused.Shows sh) = IsRefusedSet forest names sh
SetRefuses forest names refused.TooManyDerived = HasTooManyPairs forest names
SetRefuses forest names refused.Memory = ⊤

abbrev pub Infers : ForestData → List (List ℕ) → Result ChartData SetRefused → Type 0
Infers forest names (Ok chart) = IsChartOfSet forest names chart
Infers forest names (Err e) = SetRefuses forest names e

-- Where no error stands on the paths of the roots, and the least chart has no more pairs than it may, the set is refused for want of memory alone.
abbrev pub NeedsError : ForestData → List (List ℕ) → SetRefused → Type 0
NeedsError forest names why = HaveNoErrors forest names → (HasTooManyPairs forest names → ⊥) → why ≡ refused.Memory
