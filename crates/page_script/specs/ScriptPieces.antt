-- The pieces of a script, with the characters of each as they stand. The script is read byte by byte, and the piece that is open grows.
use Rattle.std.specs.Prelude.{ℕ, Bool, true, false, List, [], ◌∷◌, ◌++◌, Option, Some, None}
use Rattle.js_lexer.specs.Classes.{class_of}
use Rattle.js_lexer.specs.Feeding.{tells_white_apart, read_at, held_at}
use Rattle.js_lexer.specs.States.{Code, ScriptPoint, point}
use Rattle.js_lexer.specs.Steps.{script_next}
use Rattle.js_lexer.specs.WhiteSpace.{ClassedByte, classed_as}
use Rattle.js_lexer.specs.declared.class.ScriptClass.{ScriptClass}
use Rattle.js_lexer.specs.declared.class.ScriptClass.TheVariants as class
use Rattle.js_lexer.specs.declared.sense.Sense.TheVariants as sense
use Rattle.page_piece.specs.declared.piece.Piece.{Piece}
use Rattle.page_piece.specs.declared.piece.PieceKind.{PieceKind}
use Rattle.page_script.specs.PieceEnds.{ends_before, kind_closed, is_between, is_white_class, kind_cut}

-- The bytes of the piece that is open, and the pieces before it.
pub record PiecesFound : Type 0 where
  pub begun : List ℕ
  pub pieces : List Piece

abbrev pub pieces_found : List ℕ → List Piece → PiecesFound
pieces_found bytes pieces = record { begun = bytes; pieces = pieces }

-- a piece of these bytes
abbrev pub piece_of : PieceKind → List ℕ → Piece
piece_of k bytes = record { kind = k; text = bytes }

-- a piece that ends before a byte
abbrev pub piece_ended : Option PieceKind → PiecesFound → PiecesFound
piece_ended None f = f
piece_ended (Some k) f = pieces_found [] (f.pieces ++ piece_of k f.begun ∷ [])

-- A byte after which a piece is open (false) or none is: it stands in the piece, or it is white space, or the piece ends with it.
abbrev pub byte_joined : Bool → Bool → PieceKind → ℕ → PiecesFound → PiecesFound
byte_joined false white k b f = pieces_found (f.begun ++ b ∷ []) f.pieces
byte_joined true true k b f = f
byte_joined true false k b f = pieces_found [] (f.pieces ++ piece_of k (f.begun ++ b ∷ []) ∷ [])

-- a byte that leads from one point to another
abbrev pub byte_placed : ScriptPoint → ScriptPoint → ScriptClass → ℕ → PiecesFound → PiecesFound
byte_placed p q c b f =
    byte_joined (is_between q.literals q.at) (is_white_class c) (kind_closed p.literals p.at) b (piece_ended (ends_before p.literals p.at c b) f)

-- Where the reading of tokens stands, and what has been found.
pub record Reading : Type 0 where
  pub point : ScriptPoint
  pub found : PiecesFound

abbrev pub reading : ScriptPoint → PiecesFound → Reading
reading p f = record { point = p; found = f }

abbrev pub next_point : ScriptPoint → ScriptClass → ℕ → ScriptPoint
next_point p c b = script_next p.literals p.at c b

abbrev pub pieces_next : Reading → ScriptClass → ℕ → Reading
pieces_next r c b = reading (next_point r.point c b) (byte_placed r.point (next_point r.point c b) c b r.found)

abbrev pub pieces_after : List ClassedByte → Reading → Reading
pieces_after [] r = r
pieces_after (x ∷ xs) r = pieces_after xs (pieces_next r x.class x.byte)

-- With the bytes that are held back of what may be white space past ASCII.
pub record PiecesState : Type 0 where
  pub reading : Reading
  pub held : List ℕ

abbrev pub pieces_fed : PiecesState → ℕ → PiecesState
pieces_fed s b = record {
  reading = pieces_after (read_at (tells_white_apart s.reading.point.at) s.held (class_of b) b) s.reading;
  held = held_at (tells_white_apart s.reading.point.at) s.held b;
}

abbrev pub pieces_start : PiecesState
pieces_start = record { reading = reading (point [] (Code sense.Re)) (pieces_found [] []); held = [] }

-- the end of the script cuts a piece that is open
abbrev pub pieces_cut : Reading → List Piece
pieces_cut r = (piece_ended (kind_cut r.point.literals r.point.at) r.found).pieces

abbrev pub pieces_end : PiecesState → List Piece
pieces_end s = pieces_cut (pieces_after (classed_as class.Letter s.held) s.reading)

abbrev pub script_pieces_from : List ℕ → PiecesState → List Piece
script_pieces_from [] s = pieces_end s
script_pieces_from (b ∷ bs) s = script_pieces_from bs (pieces_fed s b)

-- the pieces of a script
abbrev pub script_pieces_of : List ℕ → List Piece
script_pieces_of bytes = script_pieces_from bytes pieces_start
