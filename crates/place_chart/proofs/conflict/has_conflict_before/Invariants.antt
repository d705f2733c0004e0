use Rattle.std.proofs.Common.{ℕ, ◌<◌}
use Rattle.std.specs.Prelude.{slice_index_or}
use Rattle.place_flow.specs.PointStates.{IsConflictFree}
use Rattle.place_flow.specs.declared.point_state.PointState.TheVariants.{Unreached}
use Rattle.place_chart.proofs.conflict.has_conflict_before.Given as goal

abbrev pub invariant-loop-point_state : goal.invariant-loop-point_state
invariant-loop-point_state l = (j : ℕ) → j < l.point_state-index → IsConflictFree (slice_index_or l.before j Unreached)
