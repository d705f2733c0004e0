-- The doors that a net gave and got back.
use Rattle.std.specs.Prelude.{◌≡◌, ◌⊎◌, ◌<◌, ◌≤◌, ℕ, ◌+◌, List, [], ◌∷◌, ◌++◌, length, Option, IfSome, Result, Ok, Err}
use Rattle.page_net.specs.Doors.{DoorTold, IsFreshDoor}
use Rattle.page_net.specs.Nets.{NetTold}
use Rattle.page_net.specs.Tellings.{BothTold}
use Rattle.page_spawn.specs.Gates.{Each}

-- the net gave so many doors more, and got these back, in order
pub record MovesDoors {D : Type 0} (old now : NetTold D) (count : ℕ) (doors : List D) : Type 0 where
  pub given : now.given ≡ old.given + count
  pub back : now.back ≡ old.back ++ doors

-- a net that tells has so many doors that are not back
abbrev pub HaveDoorsOut : {D : Type 0} → ℕ → Option (NetTold D) → Type 0
HaveDoorsOut count told = IfSome told (λ t. length t.back + count ≤ t.given)

-- one of the doors has failed
abbrev pub HasFailedDoor : {D : Type 0} → (D → ℕ) → List D → Type 0
HasFailedDoor faults [] = ⊥
HasFailedDoor faults (d ∷ ds) = (0 < faults d) ⊎ HasFailedDoor faults ds

module _ {D L : Type 0} (faults : D → ℕ) (told : D → Option (DoorTold L)) where
  -- none of the doors has failed or got a link back
  abbrev pub AreFreshDoors : List D → Type 0
  AreFreshDoors doors = Each (λ d. IsFreshDoor (faults d) (told d)) doors

  -- so many doors were given
  pub record TakesDoors (count : ℕ) (old now : Option (NetTold D)) (doors : List D) : Type 0 where
    pub count_is : length doors ≡ count
    pub fresh : AreFreshDoors doors
    pub given : BothTold old now (λ o n. MovesDoors o n count [])

  -- the doors that were given, up to so many, are back as they were given
  pub record ReturnsDoors (count : ℕ) (old now : Option (NetTold D)) : Type 0 where
    pub doors : List D
    pub within : length doors ≤ count
    pub fresh : AreFreshDoors doors
    pub back : BothTold old now (λ o n. MovesDoors o n (length doors) doors)

  -- so many doors, or none of them is kept
  abbrev pub TakeDoorsAnswers : {E : Type 0} → ℕ → Option (NetTold D) → Option (NetTold D) → Result (List D) E → Type 0
  TakeDoorsAnswers count old now (Ok doors) = TakesDoors count old now doors
  TakeDoorsAnswers count old now (Err e) = ReturnsDoors count old now
