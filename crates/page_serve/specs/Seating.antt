-- Viewers that begin at a desk's list.
use Rattle.std.specs.Prelude.{◌≡◌, ℕ, List, length}
use Rattle.page_spawn.specs.Gates.{Each}
use Rattle.set_publisher.specs.Publishing.{Seats}
use Rattle.set_publisher.specs.Values.{Published, Watched}

-- there are so many, and each has seen the list as it is
pub record SeatsAll {V : Type 0} (desk : Published V) (count : ℕ) (viewers : List (Watched V)) : Type 0 where
  pub count_is : length viewers ≡ count
  pub seated : Each (Seats desk) viewers
