-- What a viewer has seen, before and after a look, and after an answer of a clerk.
use Rattle.std.specs.Prelude.{◌≡◌}
use mathlib.Core.List.{IsPrefix}
use Rattle.page_io.specs.Causes.{Rose}
use Rattle.set_publisher.specs.Looks.{LooksOnce}
use Rattle.set_publisher.specs.Values.{Watched}

module _ {V : Type 0} where
  -- it looked: what it has seen is what it had seen before, and what the list has had since
  pub record HasLooked (old now : Watched V) : Type 0 where
    pub desk : now.book ≡ old.book
    pub grows : IsPrefix old.sets now.sets
    pub looks : Rose old.looks now.looks
    pub misses : LooksOnce old.sets now.sets old.misses now.misses

  -- it did not look, and may have learnt what was told
  pub record MayHaveLearnt (old now : Watched V) : Type 0 where
    pub desk : now.book ≡ old.book
    pub grows : IsPrefix old.sets now.sets
    pub looks : now.looks ≡ old.looks
    pub misses : now.misses ≡ old.misses
