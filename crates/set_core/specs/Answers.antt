-- What the calls that may say no answer.
use Rattle.std.specs.Prelude.{◌≡◌, ℕ, ◌<◌, ◌≤◌, length, Some}
use Rattle.set_core.specs.Publications.{Publication, key_of}
use Rattle.set_core.specs.Acts.{ViewerMayEnter, after_act, enter, learn}

-- the viewer may enter at the number, and has; the key is that of the number
pub record ViewerEntered {K : Type 0} (old : Publication K) (viewer number : ℕ) (now : Publication K) (key : K) : Type 0 where
  pub may : ViewerMayEnter old viewer number
  pub act : now ≡ after_act old (enter viewer number)
  pub is : key_of old number ≡ Some key

-- the viewer may not, and nothing has changed
pub record NotEntered {K : Type 0} (old : Publication K) (viewer number : ℕ) (now : Publication K) : Type 0 where
  pub may_not : ViewerMayEnter old viewer number → ⊥
  pub keeps : now ≡ old

-- the list has so many keys, and the viewer has seen at least so much
pub record Learns {K : Type 0} (old : Publication K) (viewer number : ℕ) (now : Publication K) : Type 0 where
  pub told : number ≤ length old.keys
  pub act : now ≡ after_act old (learn viewer number)

-- the list has fewer keys, and nothing has changed
pub record LearnsNot {K : Type 0} (old : Publication K) (number : ℕ) (now : Publication K) : Type 0 where
  pub over : length old.keys < number
  pub keeps : now ≡ old
