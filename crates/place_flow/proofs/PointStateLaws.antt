-- The order of spots, and their join.
use Rattle.std.proofs.Common.{◌≡◌, refl, sym, ap, subst, Option, Some, None}
use Rattle.std.specs.Prelude.{IfSome}
use Rattle.place_core.specs.place.Places.{Below, IsValid, joined}
use Rattle.place_core.specs.declared.place.Place.{Place}
use Rattle.place_core.proofs.JoinValid.{places_valid}
use Rattle.place_core.proofs.Joins.{the_join_above, the_join_least, the_order}
use Rattle.place_flow.specs.PointStates.{IsValidPointState, PointStateBelow, joined_point_states, at_or_conflict}
use Rattle.place_flow.specs.declared.point_state.PointState.{PointState}
use Rattle.place_flow.specs.declared.point_state.PointState.TheVariants.{Unreached, At, Conflict}

pub below_refl : (p : Place) → Below p p
below_refl p = the_order.0 p

pub below_trans : (p q r : Place) → Below p q → Below q r → Below p r
below_trans p q r e f = the_order.1 p q r e f

pub below_anti : (p q : Place) → Below p q → Below q p → p ≡ q
below_anti p q e f = the_order.2 p q e f

pub point_state_refl : (a : PointState) → PointStateBelow a a
point_state_refl Unreached = tt
point_state_refl (At p) = below_refl p
point_state_refl Conflict = tt

pub point_state_trans : (a b c : PointState) → PointStateBelow a b → PointStateBelow b c → PointStateBelow a c
point_state_trans Unreached b c e f = tt
point_state_trans (At p) Unreached c e f = absurd e
point_state_trans (At p) (At q) Unreached e f = absurd f
point_state_trans (At p) (At q) (At r) e f = below_trans p q r e f
point_state_trans (At p) (At q) Conflict e f = tt
point_state_trans (At p) Conflict Unreached e f = absurd f
point_state_trans (At p) Conflict (At r) e f = absurd f
point_state_trans (At p) Conflict Conflict e f = tt
point_state_trans Conflict Unreached c e f = absurd e
point_state_trans Conflict (At q) c e f = absurd e
point_state_trans Conflict Conflict c e f = f

pub point_state_anti : (a b : PointState) → PointStateBelow a b → PointStateBelow b a → a ≡ b
point_state_anti Unreached Unreached e f = refl
point_state_anti Unreached (At q) e f = absurd f
point_state_anti Unreached Conflict e f = absurd f
point_state_anti (At p) Unreached e f = absurd e
point_state_anti (At p) (At q) e f = ap At (below_anti p q e f)
point_state_anti (At p) Conflict e f = absurd f
point_state_anti Conflict Unreached e f = absurd e
point_state_anti Conflict (At q) e f = absurd e
point_state_anti Conflict Conflict e f = refl

pub below_conflict : (a : PointState) → PointStateBelow a Conflict
below_conflict Unreached = tt
below_conflict (At p) = tt
below_conflict Conflict = tt

-- the join of places, where there is one
join_least : (p q r : Place) → Below p r → Below q r → PointStateBelow (at_or_conflict (joined p q)) (At r)
join_least p q r e f =
    let h = the_join_least p q r e f in
    subst (λ (o : Option Place). PointStateBelow (at_or_conflict o) (At r)) (sym h.1) h.2

left_on : (p q : Place) (o : Option Place) → joined p q ≡ o → PointStateBelow (At p) (at_or_conflict o)
left_on p q (Some c) e = (the_join_above p q c e).0
left_on p q None e = tt

right_on : (p q : Place) (o : Option Place) → joined p q ≡ o → PointStateBelow (At q) (at_or_conflict o)
right_on p q (Some c) e = (the_join_above p q c e).1
right_on p q None e = tt

pub point_state_join_least : (a b c : PointState) → PointStateBelow a c → PointStateBelow b c → PointStateBelow (joined_point_states a b) c
point_state_join_least Unreached b c e f = f
point_state_join_least (At p) Unreached c e f = e
point_state_join_least (At p) (At q) Unreached e f = absurd e
point_state_join_least (At p) (At q) (At r) e f = join_least p q r e f
point_state_join_least (At p) (At q) Conflict e f = below_conflict (at_or_conflict (joined p q))
point_state_join_least (At p) Conflict c e f = f
point_state_join_least Conflict b c e f = e

pub point_state_join_left : (a b : PointState) → PointStateBelow a (joined_point_states a b)
point_state_join_left Unreached b = tt
point_state_join_left (At p) Unreached = below_refl p
point_state_join_left (At p) (At q) = left_on p q (joined p q) refl
point_state_join_left (At p) Conflict = tt
point_state_join_left Conflict b = tt

pub point_state_join_right : (a b : PointState) → PointStateBelow b (joined_point_states a b)
point_state_join_right Unreached b = point_state_refl b
point_state_join_right (At p) Unreached = tt
point_state_join_right (At p) (At q) = right_on p q (joined p q) refl
point_state_join_right (At p) Conflict = tt
point_state_join_right Conflict b = below_conflict b

valid_on : (o : Option Place) → IfSome o IsValid → IsValidPointState (at_or_conflict o)
valid_on (Some c) h = h
valid_on None h = tt

pub point_state_join_valid : (a b : PointState) → IsValidPointState a → IsValidPointState b → IsValidPointState (joined_point_states a b)
point_state_join_valid Unreached b e f = f
point_state_join_valid (At p) Unreached e f = e
point_state_join_valid (At p) (At q) e f = valid_on (joined p q) (places_valid p q e f)
point_state_join_valid (At p) Conflict e f = tt
point_state_join_valid Conflict b e f = tt
