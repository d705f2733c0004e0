-- What a net tells: how many doors it gave, and which are back.
use Rattle.std.specs.Prelude.{◌≡◌, ℕ, ◌+◌, ◌<◌, ◌≤◌, List, [], ◌∷◌, ◌++◌, length, Option, IfSome, Result, Ok, Err}
use Rattle.page_io.specs.Causes.{Rose}

-- how many doors the net gave, and those that it got back, in order
pub record NetTold (D : Type 0) : Type 0 where
  pub given : ℕ
  pub back : List D

-- the net gave a door, or is as it was
abbrev pub GivesDoor : {D E : Type 0} → NetTold D → NetTold D → Result D E → Type 0
GivesDoor old now (Ok door) = (now.given ≡ old.given + 1) × (now.back ≡ old.back)
GivesDoor old now (Err e) = now ≡ old

-- the net got this door back, as it is now
pub record TakesDoorBack {D : Type 0} (old now : NetTold D) (door : D) : Type 0 where
  pub given : now.given ≡ old.given
  pub back : now.back ≡ old.back ++ door ∷ []

-- a net that tells has a door that is not back
abbrev pub HasDoorOut : {D : Type 0} → Option (NetTold D) → Type 0
HasDoorOut told = IfSome told (λ t. length t.back < t.given)

-- a net that tells got no more doors back than it gave
abbrev pub IsNetBounded : {D : Type 0} → Option (NetTold D) → Type 0
IsNetBounded told = IfSome told (λ t. length t.back ≤ t.given)

-- the count of a net that takes back a door never falls, and rises exactly where that door failed
pub record CountsDoor (before now door_faults : ℕ) : Type 0 where
  pub later : before ≤ now
  pub failed : 0 < door_faults → Rose before now
  pub fine : door_faults ≡ 0 → now ≡ before
