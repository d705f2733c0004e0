-- What the code has found, and how far it has read.
use Rattle.std.specs.Prelude.{List, map}
use Rattle.page_piece.specs.declared.piece.Piece.{Piece}
use Rattle.page_script.specs.ReadViews.{held_bytes, read_point_at}
use Rattle.page_script.specs.ScriptPieces.{PiecesFound, pieces_found, Reading, reading, PiecesState}
use Rattle.page_script.specs.declared.found.FoundPieces.{FoundPieces}
use Rattle.page_script.specs.declared.found.RawPiece.{RawPiece}
use Rattle.page_script.specs.declared.pieces.PiecesScan.{PiecesScan}

abbrev pub piece_at : RawPiece → Piece
piece_at r = record { kind = r.kind; text = r.bytes }

abbrev pub script_pieces_at : List RawPiece → List Piece
script_pieces_at = map piece_at

abbrev pub found_at : FoundPieces → PiecesFound
found_at f = pieces_found f.begun.items (script_pieces_at f.pieces)

abbrev pub reading_at : PiecesScan → Reading
reading_at s = reading (read_point_at s.word.items s.point) (found_at s.found)

abbrev pub script_state_at : PiecesScan → PiecesState
script_state_at s = record { reading = reading_at s; held = held_bytes s.held }
