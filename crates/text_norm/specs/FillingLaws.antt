-- A page of pieces that are accepted, read as bytes alone.
use Rattle.std.specs.Prelude.{ℕ, List, [], ◌∷◌}
use Rattle.page_datum.specs.Printed.{printed}
use Rattle.place_core.specs.page.Shape.{event_bytes}
use Rattle.place_core.specs.declared.place.Place.TheVariants as place
use Rattle.text_norm.specs.Fillings.{FillsPath}
use Rattle.text_norm.specs.Pieces.{AreAccepted, HoleAt, TextAt, TextPiece, page_of, path_of}

-- the texts of the values, in order
abbrev pub texts_in : List TextPiece → List (List ℕ)
texts_in [] = []
texts_in (TextAt a bytes ∷ pieces) = texts_in pieces
texts_in (HoleAt a x datum bytes ∷ pieces) = printed datum ∷ texts_in pieces

-- From text to text, such a page fills its path with the texts of the values.
abbrev pub PagesFillPaths : Type 0
PagesFillPaths = (pieces : List TextPiece) → AreAccepted pieces place.Text place.Text
    → FillsPath (path_of pieces) (texts_in pieces) (event_bytes (page_of pieces))
