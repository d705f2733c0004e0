-- The least chart is one.
use Rattle.std.specs.Prelude.{◌≡◌, ℕ, List, Some, slice_get, length}
use Rattle.place_core.specs.place.Places.{IsValid}
use Rattle.place_core.specs.declared.place.Place.{Place}
use Rattle.place_chart.specs.Least.{IsLeastChart}
use Rattle.place_chart.specs.Summaries.{point_state_in}
use Rattle.place_chart.specs.declared.summary.Summary.{Summary}
use Rattle.tpl_paths.specs.Edges.{Point}
use Rattle.tpl_tree.specs.Forests.{ForestData}

-- a pair of a summary is that of another summary too, which has the same at each point
pub record IsPairToo (others : List Summary) (summary : Summary) : Type 0 where
  pub number : ℕ
  pub other : Summary
  pub is : slice_get others number ≡ Some other
  pub template : other.template ≡ summary.template
  pub entry : other.entry ≡ summary.entry
  pub same : (k : Point) → point_state_in summary k ≡ point_state_in other k

abbrev pub OneChart : Type 0
OneChart = (forest : ForestData) (roots : List ℕ) (first : Place) (summaries others : List Summary) → IsValid first → IsLeastChart forest roots first summaries → IsLeastChart forest roots first others
    → (i : ℕ) (summary : Summary) → slice_get summaries i ≡ Some summary → IsPairToo others summary

-- and so its pairs are as many
abbrev pub OneCount : Type 0
OneCount = (forest : ForestData) (roots : List ℕ) (first : Place) (summaries others : List Summary) → IsValid first → IsLeastChart forest roots first summaries → IsLeastChart forest roots first others → length summaries ≡ length others
