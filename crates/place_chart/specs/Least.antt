-- The least chart of some roots.
use Rattle.std.specs.Prelude.{◌≡◌, ℕ, List, All, Some, ◌⊎◌, Contains, slice_get, take}
use Rattle.place_core.specs.declared.place.Place.{Place}
use Rattle.place_flow.specs.Flows.{edges_at}
use Rattle.place_flow.specs.Transfer.{step_of}
use Rattle.place_flow.specs.declared.point_state.PointState.TheVariants.{At, Conflict}
use Rattle.place_flow.specs.declared.step.EdgeStep.TheVariants.{Enters}
use Rattle.place_chart.specs.Charts.{IsClosedByNumber, IsEntered}
use Rattle.place_chart.specs.Summaries.{AreLeast, IsValidSummary, chart_of, point_state_in}
use Rattle.place_chart.specs.declared.summary.Summary.{Summary}
use Rattle.tpl_paths.specs.Edges.{Edge, Point, from_of}
use Rattle.tpl_tree.specs.Forests.{ForestData}

-- a summary calls a template in a place
pub record SummaryCalls (forest : ForestData) (summaries : List Summary) (t : ℕ) (p : Place) : Type 0 where
  pub caller : ℕ
  pub number : ℕ
  pub summary : Summary
  pub edge : Edge
  pub place : Place
  pub is_summary : slice_get summaries caller ≡ Some summary
  pub is_edge : slice_get (edges_at forest summary.template) number ≡ Some edge
  pub stands : point_state_in summary (from_of edge) ≡ At place
  pub enters : step_of forest summary.template edge place ≡ Enters t p

-- a pair is that of a root, entered in the first place, or is called by a summary
abbrev pub IsReached : ForestData → List ℕ → Place → List Summary → ℕ → Place → Type 0
IsReached forest roots first summaries t p = (Contains roots t × (p ≡ first)) ⊎ SummaryCalls forest summaries t p

-- Summaries that are the least chart of some roots, each of which is entered in the first place: they are closed, enter the roots, and are below
-- each closed chart; each summary is of a pair of its own, and each pair is that of a root or is called by a summary before it.
pub record IsLeastChart (forest : ForestData) (roots : List ℕ) (first : Place) (summaries : List Summary) : Type 0 where
  pub valid : All IsValidSummary summaries
  pub closed : IsClosedByNumber forest (chart_of summaries)
  pub entered : All (λ t. IsEntered forest (chart_of summaries) t first) roots
  pub least : AreLeast forest summaries
  pub apart : (i j : ℕ) (summary other : Summary) → slice_get summaries i ≡ Some summary → slice_get summaries j ≡ Some other → summary.template ≡ other.template → summary.entry ≡ other.entry → i ≡ j
  pub reached : (i : ℕ) (summary : Summary) → slice_get summaries i ≡ Some summary → IsReached forest roots first (take i summaries) summary.template summary.entry

-- a point of a summary is in conflict
pub record IsInConflict (summaries : List Summary) (n : ℕ) (k : Point) : Type 0 where
  pub summary : Summary
  pub is : slice_get summaries n ≡ Some summary
  pub conflict : point_state_in summary k ≡ Conflict
