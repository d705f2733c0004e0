-- The pieces of a style, read byte by byte (CSS Syntax Level 3, section 4.3).
use Rattle.std.specs.Prelude.{ℕ, List, [], ◌∷◌, None, ⊤}
use Rattle.css_lexer.specs.Classes.{style_class}
use Rattle.css_lexer.specs.States.{Style, style_start}
use Rattle.css_lexer.specs.Steps.{feed_style}
use Rattle.page_piece.specs.declared.piece.Piece.{Piece}
use Rattle.page_style.specs.Changes.{style_change_of, releases}
use Rattle.page_style.specs.Pieces.{StylePieces, changed, release_where, all_pieces}
use Rattle.page_style.specs.StyleUrls.{any_url}

-- Where a style has been read to, and its pieces up to there.
pub record PiecesReading : Type 0 where
  pub at : Style ⊤
  pub pieces : StylePieces

abbrev pub style_point : Style ⊤ → StylePieces → PiecesReading
style_point s x = record { at = s; pieces = x }

-- Behind the bytes `bs`, of which `b` is the first, and the only one unless they are past ASCII.
abbrev pub style_read_on : ℕ → List ℕ → PiecesReading → PiecesReading
style_read_on b bs r = style_point (feed_style any_url r.at b) (changed (style_change_of r.at b) bs (release_where (releases r.at (style_class b)) r.pieces))

abbrev pub read_bytes : List ℕ → PiecesReading → PiecesReading
read_bytes [] r = r
read_bytes (b ∷ bs) r = read_bytes bs (style_read_on b (b ∷ []) r)

abbrev pub no_pieces : StylePieces
no_pieces = record { done = []; growing = None; held = [] }

-- The pieces of a style, in order.
unfoldable pub style_pieces_of : List ℕ → List Piece
style_pieces_of text = all_pieces (read_bytes text (style_point style_start no_pieces)).pieces
