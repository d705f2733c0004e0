-- Whether what is answered of a hole takes it.
use Rattle.std.specs.Prelude.{◌≡◌, Some, Ok, Err, ⊤}
use Rattle.html_step.specs.Holes.{Holed, after_hole}
use Rattle.place_core.specs.place.Places.{joined}
use Rattle.place_core.specs.declared.code.Code.{Code}
use Rattle.place_core.specs.declared.place.Place.{Place}

-- the hole is not refused
abbrev pub TakesHoleAt : Holed → Type 0
TakesHoleAt (Ok h) = ⊤
TakesHoleAt (Err e) = ⊥

-- each of two places takes a hole, and the place that they join to does not
pub record AreRefusedTogether (p q : Place) (e : Code) : Type 0 where
  pub both : Place
  pub joins : joined p q ≡ Some both
  pub one : TakesHoleAt (after_hole p)
  pub other : TakesHoleAt (after_hole q)
  pub refused : after_hole both ≡ Err e
