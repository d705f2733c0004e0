-- What a step over a hole, and the naming of an escaper, promise of the paths that a place stands for.
use Rattle.std.specs.Prelude.{◌≡◌, true, false, Some, None, Ok, Err}
use Rattle.place_core.specs.place.Errors.{RefusesHole, hole_error}
use Rattle.place_core.specs.place.PathPairs.{ClashesHole}
use Rattle.place_core.specs.place.Membership.{IsIn, Bears}
use Rattle.place_core.specs.page.Paths.{at_hole}
use Rattle.place_core.specs.place.Places.{Below, Has, IsValid}
use Rattle.place_core.specs.place.StatePlaces.{placed}
use Rattle.place_core.specs.page.States.{LexState}
use Rattle.place_core.specs.page.Tags.{ValueState, languages}
use Rattle.place_core.specs.declared.chain.Chain.{Chain}
use Rattle.place_core.specs.declared.code.Code.{Code}
use Rattle.place_core.specs.declared.member.Member.{Member}
use Rattle.place_core.specs.declared.place.Place.{Place}
use Rattle.html_step.specs.Holes.{after_hole, may_escape}
use Rattle.html_step.specs.Laws.{EvidenceData, one, two, apart}
use Rattle.html_step.specs.declared.escaper.Escaper.{Escaper}

-- From the place of one path the step is the path's own: it comes to the place after the hole, or the hole is refused on it.
abbrev pub OneHole : Type 0
OneHole = (p : Place) (s : LexState ValueState) → placed s ≡ Some p →
    ((q : Place) (c : Chain) → after_hole p ≡ Ok (q, c) → (hole_error p ≡ None) × (placed (at_hole languages s) ≡ Some q))
    × ((e : Code) → after_hole p ≡ Err e → RefusesHole s e)

-- Each path that a place stands for comes to one for which the place after the hole stands, and its own place has the same chain.
abbrev pub CoversHole : Type 0
CoversHole = (p q : Place) (c : Chain) (s : LexState ValueState) → IsValid p → IsIn p s → after_hole p ≡ Ok (q, c)
    → IsIn q (at_hole languages s) × ((a : Place) → placed s ≡ Some a → (b : Place) × (after_hole a ≡ Ok (b, c)))

-- A member before a hole that a member after it comes from; and what shows that a hole is refused: a member, on whatever path bears it, or two,
-- on any two paths that bear them.
abbrev pub IsHoleOrigin : Place → Member → Member → Type 0
IsHoleOrigin p y x = Has p x × ((s : LexState ValueState) → IsIn p s → Bears s x → Bears (at_hole languages s) y)

abbrev pub IsHoleEvidence : Place → Code → EvidenceData → Type 0
IsHoleEvidence p e (one x) = Has p x × ((s : LexState ValueState) → IsIn p s → Bears s x → RefusesHole s e)
IsHoleEvidence p e (two x y) = Has p x × Has p y
    × ((s r : LexState ValueState) → IsIn p s → Bears s x → IsIn p r → Bears r y → ClashesHole s r e)
IsHoleEvidence p e apart = ⊥

abbrev pub FromHole : Type 0
FromHole = (p q : Place) (c : Chain) (y : Member) → IsValid p → after_hole p ≡ Ok (q, c) → Has q y
    → (x : Member) × IsHoleOrigin p y x

-- A hole that is refused is refused on each path that bears some member, or on any two that bear two.
abbrev pub HoleEvidence : Type 0
HoleEvidence = (p : Place) (e : Code) → IsValid p → after_hole p ≡ Err e → (h : EvidenceData) × IsHoleEvidence p e h

-- Where a hole is accepted, it is refused on no path that the place stands for, and on no two of them.
abbrev pub AcceptsHole : Type 0
AcceptsHole = (p q : Place) (c : Chain) (s : LexState ValueState) (e : Code) → IsValid p → after_hole p ≡ Ok (q, c) → IsIn p s
    → (RefusesHole s e → ⊥) × ((r : LexState ValueState) → IsIn p r → ClashesHole s r e → ⊥)

-- A valid place below another one is accepted where that one is, with the same chain, and comes to one below.
abbrev pub GrowsHole : Type 0
GrowsHole = (p r q : Place) (c : Chain) → IsValid p → IsValid r → Below p r → after_hole r ≡ Ok (q, c)
    → (a : Place) × (after_hole p ≡ Ok (a, c)) × Below a q

abbrev pub ValidHole : Type 0
ValidHole = (p q : Place) (c : Chain) → IsValid p → after_hole p ≡ Ok (q, c) → IsValid q

-- An escaper that may be named at a place may be named at each valid place below it.
abbrev pub GrowsEscape : Type 0
GrowsEscape = (x : Escaper) (p r : Place) → IsValid p → Below p r → may_escape r x ≡ true → may_escape p x ≡ true

-- Where it may not be named there is a member so that it may not at any valid place below that has the member: so at the place of no path
-- that bears it.
abbrev pub IsEscapeEvidence : Place → Escaper → Member → Type 0
IsEscapeEvidence p x m = Has p m × ((a : Place) → IsValid a → Below a p → Has a m → may_escape a x ≡ false)

abbrev pub EscapeEvidence : Type 0
EscapeEvidence = (x : Escaper) (p : Place) → IsValid p → may_escape p x ≡ false → (m : Member) × IsEscapeEvidence p x m
