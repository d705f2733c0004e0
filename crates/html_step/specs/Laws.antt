-- What a step over a whole text promises of the paths that a place stands for.
use Rattle.std.specs.Prelude.{◌≡◌, ◌≤◌, ℕ, List, Some, None, Ok, Err}
use Rattle.place_core.specs.place.Errors.{shown_place, PathRefuses, path_refusal, node}
use Rattle.place_core.specs.place.PathPairs.{Clashes}
use Rattle.place_core.specs.place.Membership.{IsIn, Bears}
use Rattle.place_core.specs.place.Places.{Below, Has, IsValid}
use Rattle.place_core.specs.place.ApartPlaces.{HasApart, side}
use Rattle.place_core.specs.place.StatePlaces.{placed}
use Rattle.place_core.specs.page.States.{LexState}
use Rattle.place_core.specs.page.Tags.{ValueState}
use Rattle.place_core.specs.declared.code.Code.{Code}
use Rattle.place_core.specs.declared.member.Member.{Member}
use Rattle.place_core.specs.declared.place.Place.{Place}
use Rattle.place_core.specs.declared.step_err.StepErr.{StepErr}
use Rattle.place_core.specs.place.PathPairs.{ClashesApart}
use Rattle.html_step.specs.Steps.{after_text, place_before}

-- From the place of one path the step is the path's own: where it is taken the path is refused nowhere in the text and comes to the place after
-- it, and else the path is refused, by this code, at this byte, after this place.
abbrev pub OneText : Type 0
OneText = (bytes : List ℕ) (p : Place) (s : LexState ValueState) → placed s ≡ Some p →
    ((q : Place) → after_text bytes p ≡ Ok q → (path_refusal bytes s ≡ None) × (placed (node bytes s) ≡ Some q))
    × ((e : StepErr Place) → after_text bytes p ≡ Err e → PathRefuses bytes s e)

-- From the place of one path the place that is shown before a byte is the path's own, up to the byte that is refused.
abbrev pub OneBefore : Type 0
OneBefore = (bytes : List ℕ) (p : Place) (s : LexState ValueState) (at : ℕ) → placed s ≡ Some p →
    ((q : Place) → after_text bytes p ≡ Ok q → shown_place at bytes s ≡ Some (place_before bytes at p))
    × ((e : StepErr Place) → after_text bytes p ≡ Err e → at ≤ e.at → shown_place at bytes s ≡ Some (place_before bytes at p))

-- Each path that a place stands for comes to one for which the place after the text stands.
abbrev pub CoversText : Type 0
CoversText = (bytes : List ℕ) (p q : Place) (s : LexState ValueState) → IsValid p → IsIn p s → after_text bytes p ≡ Ok q
    → IsIn q (node bytes s)

-- a member before a text that a member after it comes from: on whatever path bears it
abbrev pub IsOrigin : List ℕ → Place → Member → Member → Type 0
IsOrigin bytes p y x = Has p x × ((s : LexState ValueState) → IsIn p s → Bears s x → Bears (node bytes s) y)

-- A member after the text comes from one before it, on whatever path bears that one.
abbrev pub FromText : Type 0
FromText = (bytes : List ℕ) (p q : Place) (y : Member) → IsValid p → after_text bytes p ≡ Ok q → Has q y
    → (x : Member) × IsOrigin bytes p y x

-- What is refused is refused on each path that bears some member, or on any two paths that bear two, or on two that met apart.
pub data EvidenceData : Type 0 where
  one : Member → EvidenceData
  two : Member → Member → EvidenceData
  apart : EvidenceData

abbrev pub IsEvidence : List ℕ → Place → StepErr Place → EvidenceData → Type 0
IsEvidence bytes p e (one x) = Has p x
    × ((s : LexState ValueState) → IsIn p s → Bears s x → (b : Place) × PathRefuses bytes s (record { code = e.code; at = e.at; before = b }))
IsEvidence bytes p e (two x y) = Has p x × Has p y
    × ((s r : LexState ValueState) → IsIn p s → Bears s x → IsIn p r → Bears r y → Clashes bytes s r e.code e.at)
IsEvidence bytes p e apart = HasApart p
    × ((s r : LexState ValueState) → IsIn p s → Bears s side → IsIn p r → Bears r side → ClashesApart bytes s r e.code e.at)

abbrev pub TextEvidence : Type 0
TextEvidence = (bytes : List ℕ) (p : Place) (e : StepErr Place) → IsValid p → after_text bytes p ≡ Err e
    → (h : EvidenceData) × IsEvidence bytes p e h

-- Where a text is accepted, no path that the place stands for is refused, and no two of them are refused together.
abbrev pub AcceptsText : Type 0
AcceptsText = (bytes : List ℕ) (p q : Place) (s : LexState ValueState) → IsValid p → after_text bytes p ≡ Ok q → IsIn p s →
    (path_refusal bytes s ≡ None)
    × ((r : LexState ValueState) (e : Code) (at : ℕ) → IsIn p r → Clashes bytes s r e at → ⊥)

-- A valid place below another one is accepted where that one is, and comes to one below.
abbrev pub GrowsText : Type 0
GrowsText = (bytes : List ℕ) (p r q : Place) → IsValid p → IsValid r → Below p r → after_text bytes r ≡ Ok q
    → (a : Place) × (after_text bytes p ≡ Ok a) × Below a q

abbrev pub ValidText : Type 0
ValidText = (bytes : List ℕ) (p q : Place) → IsValid p → after_text bytes p ≡ Ok q → IsValid q
