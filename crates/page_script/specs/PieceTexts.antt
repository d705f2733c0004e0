-- Pieces of characters.
use Rattle.std.specs.Prelude.{IsUtf8, List, [], ◌∷◌, ⊤}
use Rattle.page_piece.specs.declared.piece.Piece.{Piece}

-- the bytes of each are UTF-8
abbrev pub AreText : List Piece → Type 0
AreText [] = ⊤
AreText (p ∷ ps) = IsUtf8 p.text × AreText ps
