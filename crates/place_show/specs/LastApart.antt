-- The last point at which two paths were apart in the beginning of a URL, along moves that both take. It is there that they are shown.
use Rattle.std.specs.Prelude.{◌≡◌, ℕ, List, [], ◌∷◌, length, Option, Some, None, ◌⊎◌, ⊤}
use Rattle.html_step.specs.ApartInText.{AreNotApart, IsLastIn}
use Rattle.place_core.specs.page.States.{LexState}
use Rattle.place_core.specs.page.Tags.{ValueState}
use Rattle.place_core.specs.place.ApartPlaces.{HasApart}
use Rattle.place_core.specs.place.Errors.{shown_place}
use Rattle.place_core.specs.declared.place.Place.{Place}
use Rattle.place_flow.specs.Covering.{edge_read}
use Rattle.place_flow.specs.HtmlCovering.{html_language}
use Rattle.tpl_paths.specs.Edges.{Edge, calls, fills, passes, picks, writes}
use Rattle.tpl_paths.specs.Paths.{Move, along, back}

-- at no point of the text of a move
abbrev pub EdgeNotApart : Edge → LexState ValueState → LexState ValueState → Type 0
EdgeNotApart (writes n bytes to) s r = AreNotApart (length bytes) bytes s r
EdgeNotApart (fills n pipe to) s r = ⊤
EdgeNotApart (calls n name to) s r = ⊤
EdgeNotApart (picks from choice to) s r = ⊤
EdgeNotApart (passes from to) s r = ⊤

-- likewise in the texts of moves, and in the text after them
abbrev pub NotApartAlong : List Move → ℕ → List ℕ → LexState ValueState → LexState ValueState → Type 0
NotApartAlong [] upto bytes s r = AreNotApart upto bytes s r
NotApartAlong (along e ∷ common) upto bytes s r =
    EdgeNotApart e s r × NotApartAlong common upto bytes (edge_read html_language e s) (edge_read html_language e r)
NotApartAlong (back ∷ common) upto bytes s r = NotApartAlong common upto bytes s r

abbrev pub IsLastInEdge : Edge → LexState ValueState → LexState ValueState → Place → Place → Type 0
IsLastInEdge (writes n bytes to) s r p q = IsLastIn (length bytes) bytes s r p q
IsLastInEdge (fills n pipe to) s r p q = ⊥
IsLastInEdge (calls n name to) s r p q = ⊥
IsLastInEdge (picks from choice to) s r p q = ⊥
IsLastInEdge (passes from to) s r p q = ⊥

-- the last point in the texts of moves, and in the text after them up to one of its points
abbrev pub IsLastAlong : List Move → ℕ → List ℕ → LexState ValueState → LexState ValueState → Place → Place → Type 0
IsLastAlong [] upto bytes s r p q = IsLastIn upto bytes s r p q
IsLastAlong (along e ∷ common) upto bytes s r p q =
    (IsLastInEdge e s r p q × NotApartAlong common upto bytes (edge_read html_language e s) (edge_read html_language e r))
    ⊎ IsLastAlong common upto bytes (edge_read html_language e s) (edge_read html_language e r) p q
IsLastAlong (back ∷ common) upto bytes s r p q = IsLastAlong common upto bytes s r p q

-- Where two paths are shown that are refused together behind some bytes of a text: at the last point up to there at which they were apart,
-- and at their places there where there is none.
abbrev pub AreShownIn : ℕ → List ℕ → LexState ValueState → LexState ValueState → Place → Place → Type 0
AreShownIn at bytes s r p q =
    IsLastIn at bytes s r p q
    ⊎ (AreNotApart at bytes s r × (shown_place at bytes s ≡ Some p) × (shown_place at bytes r ≡ Some q))

-- what is found of the last point of a text, up to one of its points
abbrev pub IsFoundIn : ℕ → List ℕ → LexState ValueState → LexState ValueState → Option (Place × Place) → Type 0
IsFoundIn upto bytes s r (Some x) = IsLastIn upto bytes s r x.0 x.1
IsFoundIn upto bytes s r None = AreNotApart upto bytes s r

-- Where two paths are shown by the place that stands for both: where no last point is found, none of its paths met apart.
abbrev pub AreShownBy : Place → ℕ → List ℕ → LexState ValueState → LexState ValueState → Place → Place → Type 0
AreShownBy both at bytes s r p q =
    IsLastIn at bytes s r p q
    ⊎ ((HasApart both → ⊥) × AreNotApart at bytes s r × (shown_place at bytes s ≡ Some p) × (shown_place at bytes r ≡ Some q))
