-- When a summary is in conflict.
use Rattle.std.specs.Prelude.{◌≡◌, ℕ, List, slice_index_or}
use Rattle.place_flow.specs.declared.point_state.PointState.{PointState}
use Rattle.place_flow.specs.declared.point_state.PointState.TheVariants.{Unreached, Conflict}
use Rattle.place_chart.specs.Summaries.{inner_state, point_state_in}
use Rattle.place_chart.specs.declared.summary.Summary.{Summary}
use Rattle.tpl_paths.specs.Edges.{Point}

-- a point of a summary is in conflict
pub record HasConflict (summary : Summary) : Type 0 where
  pub point : Point
  pub conflict : point_state_in summary point ≡ Conflict

-- the point before a node is in conflict
pub record HasConflictBefore (before : List PointState) : Type 0 where
  pub node : ℕ
  pub conflict : slice_index_or before node Unreached ≡ Conflict

-- another point of a control is in conflict, by its number
pub record HasInnerConflict (inner : List (ℕ × PointState)) : Type 0 where
  pub number : ℕ
  pub conflict : inner_state inner number ≡ Conflict
