-- The chart of places of a root.
use Rattle.std.specs.Prelude.{◌≡◌, ℕ, List, All, Some}
use Rattle.place_flow.specs.Covering.{IsChartOf}
use Rattle.place_flow.specs.HtmlCovering.{html_language}
use Rattle.place_core.specs.declared.place.Place.{Place}
use Rattle.place_chart.specs.Exact.{places_of}
use Rattle.place_chart.specs.Charts.{IsClosedByNumber, IsEntered}
use Rattle.place_chart.specs.Summaries.{IsValidSummary, IsConflictFreeSummary, chart_of}
use Rattle.place_chart.specs.declared.summary.Summary.{Summary}
use Rattle.tpl_tree.specs.Forests.{ForestData, number_named}

-- Closed summaries that are nowhere in conflict and enter a template in a place are a chart of it.
abbrev pub RootIsChart : Type 0
RootIsChart = (forest : ForestData) (summaries : List Summary) (name : List ℕ) (t : ℕ) (first : Place) → All IsValidSummary summaries → IsClosedByNumber forest (chart_of summaries) → All IsConflictFreeSummary summaries
    → number_named name forest ≡ Some t → IsEntered forest (chart_of summaries) t first → IsChartOf html_language forest (places_of forest summaries) name first
