-- What a point of a template has: nothing, a place, or what is in conflict. What is in conflict is above all.
use Rattle.std.specs.Prelude.{Option, Some, None, ⊤}
use Rattle.place_core.specs.place.Places.{Below, IsValid, joined}
use Rattle.place_core.specs.declared.place.Place.{Place}
use Rattle.place_flow.specs.declared.point_state.PointState.{PointState}
use Rattle.place_flow.specs.declared.point_state.PointState.TheVariants.{Unreached, At, Conflict}

abbrev pub PointStateBelow : PointState → PointState → Type 0
PointStateBelow Unreached b = ⊤
PointStateBelow (At p) Unreached = ⊥
PointStateBelow (At p) (At q) = Below p q
PointStateBelow (At p) Conflict = ⊤
PointStateBelow Conflict Unreached = ⊥
PointStateBelow Conflict (At q) = ⊥
PointStateBelow Conflict Conflict = ⊤

-- places that do not join are in conflict
abbrev pub at_or_conflict : Option Place → PointState
at_or_conflict (Some p) = At p
at_or_conflict None = Conflict

abbrev pub joined_point_states : PointState → PointState → PointState
joined_point_states Unreached b = b
joined_point_states (At p) Unreached = At p
joined_point_states (At p) (At q) = at_or_conflict (joined p q)
joined_point_states (At p) Conflict = Conflict
joined_point_states Conflict b = Conflict

abbrev pub IsValidPointState : PointState → Type 0
IsValidPointState Unreached = ⊤
IsValidPointState (At p) = IsValid p
IsValidPointState Conflict = ⊤

abbrev pub IsConflictFree : PointState → Type 0
IsConflictFree Unreached = ⊤
IsConflictFree (At p) = ⊤
IsConflictFree Conflict = ⊥
