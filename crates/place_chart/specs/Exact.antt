-- What is in conflict in the least chart is in conflict in each closed chart, and a closed chart of summaries that are whole covers the paths of its roots.
use Rattle.std.specs.Prelude.{◌≡◌, ℕ, List, All, Option, Some, None}
use Rattle.place_flow.specs.Covering.{ChartByName as PlaceChart, IsClosedByName as IsClosedPlaces}
use Rattle.place_flow.specs.HtmlCovering.{html_language}
use Rattle.place_core.specs.place.Places.{IsValid}
use Rattle.place_core.specs.declared.place.Place.{Place}
use Rattle.place_flow.specs.declared.point_state.PointState.{PointState}
use Rattle.place_flow.specs.declared.point_state.PointState.TheVariants.{Unreached, At, Conflict}
use Rattle.place_chart.specs.Charts.{ChartByNumber, IsClosedByNumber, IsEntered}
use Rattle.place_chart.specs.Least.{IsLeastChart, IsInConflict}
use Rattle.place_chart.specs.Summaries.{IsValidSummary, IsConflictFreeSummary, chart_of}
use Rattle.place_chart.specs.declared.summary.Summary.{Summary}
use Rattle.tpl_paths.specs.Edges.{Point}
use Rattle.tpl_tree.specs.Forests.{ForestData, HasAscendingNames, number_named}

-- a chart is in conflict at a pair that it enters
pub record IsConflictChart (forest : ForestData) (chart : ChartByNumber) : Type 0 where
  pub template : ℕ
  pub entry : Place
  pub point : Point
  pub valid : IsValid entry
  pub entered : IsEntered forest chart template entry
  pub conflict : chart template entry point ≡ Conflict

abbrev pub ConflictEverywhere : Type 0
ConflictEverywhere = (forest : ForestData) (roots : List ℕ) (first : Place) (summaries : List Summary) (n : ℕ) (k : Point) → IsValid first → IsLeastChart forest roots first summaries → IsInConflict summaries n k
    → (chart : ChartByNumber) → IsClosedByNumber forest chart → All (λ t. IsEntered forest chart t first) roots → IsConflictChart forest chart

-- the places of summaries, by the names of templates
abbrev pub point_place : PointState → Option Place
point_place Unreached = None
point_place (At p) = Some p
point_place Conflict = None

abbrev pub places_at : List Summary → Option ℕ → Place → Point → Option Place
places_at summaries None p k = None
places_at summaries (Some t) p k = point_place (chart_of summaries t p k)

abbrev pub places_of : ForestData → List Summary → PlaceChart Place
places_of forest summaries name p k = places_at summaries (number_named name forest) p k

abbrev pub ConflictFreeCloses : Type 0
ConflictFreeCloses = (forest : ForestData) (summaries : List Summary) → HasAscendingNames forest → All IsValidSummary summaries → IsClosedByNumber forest (chart_of summaries) → All IsConflictFreeSummary summaries → IsClosedPlaces html_language forest (places_of forest summaries)
