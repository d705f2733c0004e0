-- What is promised of two paths that met apart: at one point both were in the beginning of a URL, and it spelled different things on the two.
use Rattle.std.specs.Prelude.{◌≡◌, ℕ, List, Some, Ok, ◌⊎◌}
use Rattle.place_core.specs.place.Errors.{node}
use Rattle.place_core.specs.place.Membership.{IsIn, Bears}
use Rattle.place_core.specs.place.Places.{Below, Has, IsValid, joined}
use Rattle.place_core.specs.place.ApartPlaces.{ArePlacesApart, HasApart, side}
use Rattle.place_core.specs.place.PathPairs.{Apart, ClashesApart, Keeps, PartWithin}
use Rattle.place_core.specs.page.States.{LexState}
use Rattle.place_core.specs.page.Tags.{ValueState}
use Rattle.place_core.specs.declared.chain.Chain.{Chain}
use Rattle.place_core.specs.declared.code.Code.{Code}
use Rattle.place_core.specs.declared.member.Member.{Member}
use Rattle.place_core.specs.declared.place.Place.{Place}
use Rattle.html_step.specs.Holes.{after_hole}
use Rattle.html_step.specs.Steps.{after_text}

-- What says of a place that two of its paths met apart: where it comes from, what keeps and ends it, and that a text that is accepted from
-- such a place is refused on no two of its paths that met apart. Of the three relations of two paths it does not matter which is first.
pub record ApartLaws : Type 0 where
  pub has : (p : Place) → HasApart p → Has p side
  pub from : (bytes : List ℕ) (p q : Place) → IsValid p → after_text bytes p ≡ Ok q → HasApart q →
      (HasApart p × ((s : LexState ValueState) → IsIn p s → Bears s side → Keeps bytes s × Bears (node bytes s) side))
      ⊎ ((x : Member) × (z : Member) × Has p x × Has p z × ((s r : LexState ValueState) → IsIn p s → Bears s x → IsIn p r → Bears r z
      → PartWithin bytes s r × Bears (node bytes s) side × Bears (node bytes r) side))
  pub joins : (a b c : Place) → joined a b ≡ Some c → HasApart c → (HasApart a ⊎ HasApart b) ⊎ ArePlacesApart a b
  pub sides_of : (a b : Place) → ArePlacesApart a b → Has a side × Has b side
  pub are_apart : (a b : Place) (s r : LexState ValueState) → ArePlacesApart a b → IsIn a s → Bears s side → IsIn b r → Bears r side → Apart s r
  pub below : (a c b : Place) → ArePlacesApart a b → Below c a → Has c side → ArePlacesApart c b
  pub turns_places : (a b : Place) → ArePlacesApart a b → ArePlacesApart b a
  pub stays : (bytes : List ℕ) (p q : Place) (s : LexState ValueState) → HasApart p → IsIn p s → Bears s side → after_text bytes p ≡ Ok q
      → Keeps bytes s → HasApart q
  pub holed : (p q : Place) (c : Chain) → after_hole p ≡ Ok (q, c) → HasApart q → ⊥
  pub above : (a b : Place) → Below a b → HasApart a → HasApart b
  pub met : (p : Place) (s r : LexState ValueState) → IsIn p s → IsIn p r → Apart s r → HasApart p
  pub parted : (bytes : List ℕ) (p q : Place) (s r : LexState ValueState) → IsValid p → IsIn p s → IsIn p r → after_text bytes p ≡ Ok q
      → PartWithin bytes s r → HasApart q
  pub sides : (s r : LexState ValueState) → Apart s r → Bears s side × Bears r side
  pub sides_within : (bytes : List ℕ) (s r : LexState ValueState) → PartWithin bytes s r → Bears (node bytes s) side × Bears (node bytes r) side
  pub keeps : (bytes : List ℕ) (s : LexState ValueState) → Bears s side → Keeps bytes s → Bears (node bytes s) side
  pub accepts : (bytes : List ℕ) (p q : Place) (s r : LexState ValueState) (e : Code) (at : ℕ) → IsValid p → HasApart p → IsIn p s → Bears s side
      → IsIn p r → Bears r side → after_text bytes p ≡ Ok q → ClashesApart bytes s r e at → ⊥
  pub turns : (s r : LexState ValueState) → Apart s r → Apart r s
  pub turns_within : (bytes : List ℕ) (s r : LexState ValueState) → PartWithin bytes s r → PartWithin bytes r s
  pub turns_clash : (bytes : List ℕ) (s r : LexState ValueState) (e : Code) (at : ℕ) → ClashesApart bytes s r e at → ClashesApart bytes r s e at
