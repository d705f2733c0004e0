-- What follows from how a pair is explained, for every chart.
use Rattle.std.specs.Prelude.{◌≡◌, ◌↔◌, ℕ, List, Some, slice_get}
use Rattle.place_explain.specs.Explaining.{PairCalls, Explains}
use Rattle.place_infer.specs.ChartViews.{ChartData, chart_call}
use Rattle.place_infer.specs.Inferring.{IsChartOfSet}
use Rattle.place_chart.specs.declared.summary.Summary.{Summary}
use Rattle.tpl_tree.specs.Forests.{ForestData}

-- a pair has one explanation
abbrev pub HaveOneText : Type 0
HaveOneText = (forest : ForestData) (chart : ChartData) (start : ℕ) (one other : List ℕ)
    → Explains forest chart start one → Explains forest chart start other → one ≡ other

-- a node of a summary calls a pair: that of the template which the node names, entered in the place before the node
pub record CallsByName (forest : ForestData) (chart : ChartData) (n node m : ℕ) : Type 0 where
  pub summary : Summary
  pub is_summary : slice_get chart.summaries n ≡ Some summary
  pub call : chart_call forest chart.summaries summary node ≡ Some m

-- in the chart of a set these are all the calls
abbrev pub AreCallsByName : Type 0
AreCallsByName = (forest : ForestData) (names : List (List ℕ)) (chart : ChartData) → IsChartOfSet forest names chart
    → (n node m : ℕ) → PairCalls forest chart n node m ↔ CallsByName forest chart n node m
