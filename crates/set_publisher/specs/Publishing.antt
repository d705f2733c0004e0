-- What a publish and a new place give.
use Rattle.std.specs.Prelude.{◌≡◌, [], ◌∷◌, ◌++◌, length}
use Rattle.std.specs.Arc.{arc_value}
use Rattle.set_publisher.specs.declared.told.Told.{Told}
use Rattle.set_publisher.specs.Values.{Published, Watched}

module _ {V : Type 0} where
  -- the list has this set more, and what is told is all of it, with its length
  pub record Publishes (old : Published V) (set : V) (now : Published V) (told : Told V) : Type 0 where
    pub appended : now.sets ≡ old.sets ++ set ∷ []
    pub all : told.known.seen.log ≡ now.sets
    pub desk : told.known.seen.book ≡ now.book
    pub last : arc_value told.set ≡ set
    pub number : told.known.number ≡ length now.sets

  -- the viewer has seen the list as it is
  pub record Seats (desk : Published V) (viewer : Watched V) : Type 0 where
    pub sets : viewer.sets ≡ desk.sets
    pub book : viewer.book ≡ desk.book
