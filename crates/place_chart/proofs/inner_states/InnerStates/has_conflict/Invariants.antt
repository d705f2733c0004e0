use Rattle.std.proofs.Common.{◌≡◌, ℕ, Some, All, nat_cmp}
use Rattle.std.specs.BTreeMap.{is_at}
use Rattle.std.specs.Map.{lookup}
use Rattle.place_flow.specs.PointStates.{IsConflictFree}
use Rattle.place_flow.specs.declared.point_state.PointState.{PointState}
use Rattle.place_chart.proofs.inner_states.InnerStates.has_conflict.Given as goal

abbrev pub invariant-loop-number : goal.invariant-loop-number
invariant-loop-number l =
    (All (λ (e : ℕ × PointState). IsConflictFree e.1) l._number-iterator → All (λ (e : ℕ × PointState). IsConflictFree e.1) l.self)
    × All (λ (e : ℕ × PointState). lookup (is_at (nat_cmp e.0)) l.self ≡ Some e.1) l._number-iterator
