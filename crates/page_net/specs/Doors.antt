-- What a door tells: which links come through it, and which are back.
use Rattle.std.specs.Prelude.{◌≡◌, ℕ, ◌+◌, ◌<◌, ◌≤◌, List, [], ◌∷◌, ◌++◌, length, Option, IfSome, Result, Ok, Err}
use Rattle.page_net.specs.declared.door.Came.{Came}
use Rattle.page_net.specs.declared.door.Came.TheVariants as came

-- the links to come, how many the door gave, and those that it got back, in order
pub record DoorTold (L : Type 0) : Type 0 where
  pub coming : List L
  pub given : ℕ
  pub back : List L

-- the door gave this link, the first to come
pub record GivesLink {L : Type 0} (old now : DoorTold L) (link : L) : Type 0 where
  pub first : old.coming ≡ link ∷ now.coming
  pub given : now.given ≡ old.given + 1
  pub back : now.back ≡ old.back

-- a link comes where one is to come, and the door is closed where none is
abbrev pub Accepts : {L E : Type 0} → DoorTold L → DoorTold L → Result (Came L) E → Type 0
Accepts old now (Ok (came.Link link)) = GivesLink old now link
Accepts old now (Ok came.Closed) = (old.coming ≡ []) × (now ≡ old)
Accepts old now (Err e) = now ≡ old

-- the door got this link back, as it is now
pub record TakesLinkBack {L : Type 0} (old now : DoorTold L) (link : L) : Type 0 where
  pub coming : now.coming ≡ old.coming
  pub given : now.given ≡ old.given
  pub back : now.back ≡ old.back ++ link ∷ []

-- a door that tells has a link that is not back
abbrev pub HasLinkOut : {L : Type 0} → Option (DoorTold L) → Type 0
HasLinkOut told = IfSome told (λ t. length t.back < t.given)

-- a door that tells got no more links back than it gave
abbrev pub IsDoorBounded : {L : Type 0} → Option (DoorTold L) → Type 0
IsDoorBounded told = IfSome told (λ t. length t.back ≤ t.given)

-- a door that did not fail, and got no link back
pub record IsFreshDoor {L : Type 0} (faults : ℕ) (told : Option (DoorTold L)) : Type 0 where
  pub unfailed : faults ≡ 0
  pub unserved : IfSome told (λ t. t.back ≡ [])
