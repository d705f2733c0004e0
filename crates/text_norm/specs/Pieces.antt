-- A path of a template in pieces: what the path reads of them, what a page has of them, and that places accept them.
use Rattle.std.specs.Prelude.{◌≡◌, ℕ, List, [], ◌∷◌, ◌++◌, Ok, ⊤}
use Rattle.page_datum.specs.Data.{Data}
use Rattle.place_core.specs.page.Html.{read}
use Rattle.place_core.specs.page.Paths.{Symbol, Written, Hole}
use Rattle.place_core.specs.place.Places.{Below, IsValid}
use Rattle.place_core.specs.page.Plain.{IsPlain}
use Rattle.place_core.specs.page.Shape.{ShapePart, TextPart, HolePart, marked}
use Rattle.place_core.specs.page.States.{Page, Config}
use Rattle.place_core.specs.page.Tags.{ValueState}
use Rattle.place_core.specs.declared.chain.Chain.{Chain}
use Rattle.place_core.specs.declared.place.Place.{Place}
use Rattle.html_step.specs.Holes.{after_hole}
use Rattle.html_step.specs.Steps.{after_text}
use Rattle.text_norm.specs.Scanned.{written_at}
use Rattle.text_norm.specs.HoleLaws.{IsBackBy, hole_parts}

-- a text with the place for which it is written; a hole with its place, its chain, its datum, and the bytes that the chain gives for that
pub data TextPiece : Type 0 where
  TextAt : Place → List ℕ → TextPiece
  HoleAt : Place → Chain → Data → List ℕ → TextPiece

-- what the path reads
abbrev pub path_of : List TextPiece → List Symbol
path_of [] = []
path_of (TextAt a bytes ∷ pieces) = Written bytes ∷ path_of pieces
path_of (HoleAt a x datum bytes ∷ pieces) = Hole ∷ path_of pieces

-- what a page has
abbrev pub page_of : List TextPiece → List ShapePart
page_of [] = []
page_of (TextAt a bytes ∷ pieces) = TextPart (written_at bytes a) ∷ page_of pieces
page_of (HoleAt a x datum bytes ∷ pieces) = hole_parts x bytes ++ page_of pieces

-- a place that stands for all that another one stands for
pub record IsOver (p q : Place) : Type 0 where
  pub valid : IsValid q
  pub below : Below p q

-- From one place to another the pieces are accepted. The place of each is the one after the piece before it, or is over that one, as where
-- paths meet. Of the bytes of a hole it is known what its chain promises.
abbrev pub AreAccepted : List TextPiece → Place → Place → Type 0
AreAccepted [] p q = IsOver p q
AreAccepted (TextAt a bytes ∷ pieces) p q = IsOver p a × ((b : Place) × (after_text bytes a ≡ Ok b) × AreAccepted pieces b q)
AreAccepted (HoleAt a x datum bytes ∷ pieces) p q =
    IsOver p a × ((b : Place) × (after_hole a ≡ Ok (b, x)) × IsBackBy x datum bytes × AreAccepted pieces b q)

-- each hole of a page is plain where the page is read to it
abbrev pub ArePlainIn : List ShapePart → Config ValueState → Type 0
ArePlainIn [] c = ⊤
ArePlainIn (TextPart bytes ∷ parts) c = ArePlainIn parts (read Page bytes c)
ArePlainIn (HolePart bytes ∷ parts) c = IsPlain bytes c × ArePlainIn parts (marked bytes c)
