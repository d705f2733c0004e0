-- Values that are given one after another and come back.
use Rattle.std.specs.Prelude.{◌≡◌, ℕ, ◌+◌, List, [], ◌∷◌, length, Option, Some, None}
use Rattle.page_net.specs.Doors.{DoorTold}
use Rattle.page_net.specs.Nets.{NetTold}

-- the values to come, how many are out, and those that are back, in order
pub record Loaned (T : Type 0) : Type 0 where
  pub coming : List T
  pub out : ℕ
  pub back : List T

-- the first value to come goes out, or none is to come
abbrev pub Lends : {T : Type 0} → Loaned T → Option T → Loaned T → Type 0
Lends old None now = (old.coming ≡ []) × (now ≡ old)
Lends old (Some value) now = (old.coming ≡ value ∷ now.coming) × (now.out ≡ old.out + 1) × (now.back ≡ old.back)

-- what a door over loans tells
abbrev pub door_told : {L : Type 0} → Loaned L → DoorTold L
door_told l = record { coming = l.coming; given = l.out + length l.back; back = l.back }

-- what a net over loans tells
abbrev pub net_told : {D : Type 0} → Loaned D → NetTold D
net_told l = record { given = l.out + length l.back; back = l.back }
