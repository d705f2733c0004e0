-- The last point of a text at which two paths were apart in the beginning of a URL.
use Rattle.std.specs.Prelude.{◌≡◌, ◌<◌, ◌≤◌, ℕ, List, drop, take, Some, Result, Ok, Err, ⊤}
use Rattle.place_core.specs.page.States.{LexState}
use Rattle.place_core.specs.page.Tags.{ValueState}
use Rattle.place_core.specs.place.Errors.{shown_place, states}
use Rattle.place_core.specs.place.PathPairs.{ApartBefore}
use Rattle.place_core.specs.declared.place.Place.{Place}
use Rattle.place_core.specs.declared.step_err.StepErr.{StepErr}

-- What is answered of a text takes one of its bytes: the text is refused after it, or nowhere.
abbrev pub TakesByte : ℕ → Result Place (StepErr Place) → Type 0
TakesByte at (Ok q) = ⊤
TakesByte at (Err e) = at < e.at

-- after so many bytes of a text they are apart
abbrev pub AreApartAfter : ℕ → List ℕ → LexState ValueState → LexState ValueState → Type 0
AreApartAfter n bytes s r = ApartBefore (drop n bytes) (states (take n bytes) s) (states (take n bytes) r)

-- the last point of a text at which they are apart, up to one of its points, and their places there
pub record IsLastIn (upto : ℕ) (bytes : List ℕ) (s r : LexState ValueState) (p q : Place) : Type 0 where
  pub after : ℕ
  pub within : after ≤ upto
  pub apart : AreApartAfter after bytes s r
  pub stands : shown_place after bytes s ≡ Some p
  pub other_stands : shown_place after bytes r ≡ Some q
  pub last : (n : ℕ) → after < n → n ≤ upto → AreApartAfter n bytes s r → ⊥

-- at no point of a text up to one they are apart
abbrev pub AreNotApart : ℕ → List ℕ → LexState ValueState → LexState ValueState → Type 0
AreNotApart upto bytes s r = (n : ℕ) → n ≤ upto → AreApartAfter n bytes s r → ⊥
