-- Which paths a place stands for, and which members of it they bear.
use Rattle.std.specs.Prelude.{◌≡◌, Some}
use Rattle.place_core.specs.place.Places.{Below, Has, IsValid}
use Rattle.place_core.specs.place.StatePlaces.{placed}
use Rattle.place_core.specs.page.States.{LexState}
use Rattle.place_core.specs.page.Tags.{ValueState}
use Rattle.place_core.specs.declared.member.Member.{Member}
use Rattle.place_core.specs.declared.place.Place.{Place}

-- a place stands for the path that has come to this state: the path's own place is valid, and below it
pub record IsIn (p : Place) (s : LexState ValueState) : Type 0 where
  pub own : Place
  pub stands : placed s ≡ Some own
  pub valid : IsValid own
  pub below : Below own p

-- the path bears a member: its own place has it
pub record Bears (s : LexState ValueState) (m : Member) : Type 0 where
  pub own : Place
  pub stands : placed s ≡ Some own
  pub has : Has own m
