-- No percent triple of a page lies over the edge of a hole or the end of a node: the triples of all its bytes are those of its pieces.
use Rattle.std.specs.Prelude.{◌≡◌, ℕ, List, [], ◌∷◌, ◌++◌}
use Rattle.url_lexer.specs.Back.{triples_undone}
use Rattle.url_lexer.specs.Pages.{UrlPiece, TextPiece, HolePiece, bytes_of, IsAccepted, UrlPiecesPlain}
use Rattle.url_lexer.specs.States.{url_start}

-- the bytes of each piece with the triples undone that lie in it
abbrev pub undone_each : List UrlPiece → List ℕ
undone_each [] = []
undone_each (TextPiece bytes ∷ pieces) = triples_undone bytes ++ undone_each pieces
undone_each (HolePiece bytes ∷ pieces) = triples_undone bytes ++ undone_each pieces

abbrev pub TriplesAreWhole : Type 0
TriplesAreWhole = (pieces : List UrlPiece) → IsAccepted url_start pieces → UrlPiecesPlain url_start pieces → triples_undone (bytes_of pieces) ≡ undone_each pieces
