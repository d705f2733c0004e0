-- What a viewer has seen after it learnt what a publish told.
use Rattle.std.specs.Prelude.{◌≡◌, ◌<◌, ◌≤◌, length}
use mathlib.Core.List.{IsPrefix}
use Rattle.set_publisher.specs.Values.{Watched}
use Rattle.set_publisher.specs.declared.known.Known.{Known}

-- the longer of the two lists; it begins with the one that was seen before, and is no shorter than the told one. No look was made
pub record LearnsTold {V : Type 0} (told : Known V) (old now : Watched V) : Type 0 where
  pub desk : now.book ≡ old.book
  pub grows : IsPrefix old.sets now.sets
  pub more : length old.sets < told.number → now.sets ≡ told.seen.log
  pub less : told.number ≤ length old.sets → now.sets ≡ old.sets
  pub reaches : told.number ≤ length now.sets
  pub looks : now.looks ≡ old.looks
  pub misses : now.misses ≡ old.misses
