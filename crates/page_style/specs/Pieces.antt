-- The pieces of a style as they grow: those that are complete, the one that is open, and what is in no piece yet.
use Rattle.std.specs.Prelude.{ℕ, Bool, true, false, List, [], ◌∷◌, ◌++◌, Option, Some, None, option_map}
use Rattle.page_piece.specs.declared.piece.Piece.{Piece}
use Rattle.page_piece.specs.declared.piece.PieceKind.{PieceKind}
use Rattle.page_piece.specs.declared.piece.PieceKind.TheVariants as kind
use Rattle.page_style.specs.declared.change.PieceChange.{PieceChange}
use Rattle.page_style.specs.declared.change.PieceChange.TheVariants as change

pub record StylePieces : Type 0 where
  pub done : List Piece
  -- the piece that may go on
  pub growing : Option Piece
  -- bytes behind it of which the next byte tells whose they are: a `/`, with which a comment may begin, or a `\`, with which an escape
  -- does unless the style ends
  pub held : List ℕ

-- The open piece is complete.
abbrev pub with_open : List Piece → Option Piece → List Piece
with_open ps None = ps
with_open ps (Some p) = ps ++ p ∷ []

abbrev pub complete : StylePieces → StylePieces
complete x = record { done = with_open x.done x.growing; growing = None; held = x.held }

-- A piece begins with the next bytes, and with those that are held back.
abbrev pub begin : PieceKind → List ℕ → StylePieces → StylePieces
begin k bs x = record {
  done = with_open x.done x.growing;
  growing = Some (record { kind = k; text = x.held ++ bs });
  held = [];
}

-- The open piece goes on with them.
abbrev pub longer_piece : List ℕ → Option Piece → Option Piece
longer_piece bs o = option_map (λ (p : Piece). record { kind = p.kind; text = p.text ++ bs }) o

abbrev pub grow : List ℕ → StylePieces → StylePieces
grow bs x = record { done = x.done; growing = longer_piece (x.held ++ bs) x.growing; held = [] }

-- The open piece is found to be of another kind.
abbrev pub turned : PieceKind → Option Piece → Option Piece
turned k o = option_map (λ (p : Piece). record { kind = k; text = p.text }) o

abbrev pub turned_as : PieceKind → StylePieces → StylePieces
turned_as k x = record { done = x.done; growing = turned k x.growing; held = x.held }

-- Words and plain text are longest runs.
abbrev pub same_run : PieceKind → PieceKind → Bool
same_run kind.Word kind.Word = true
same_run kind.Plain kind.Plain = true
same_run k l = false

abbrev pub is_open_piece : PieceKind → Option Piece → Bool
is_open_piece k None = false
is_open_piece k (Some p) = same_run k p.kind

abbrev pub grow_or_begin : Bool → PieceKind → List ℕ → StylePieces → StylePieces
grow_or_begin true k bs x = grow bs x
grow_or_begin false k bs x = begin k bs x

abbrev pub run : PieceKind → List ℕ → StylePieces → StylePieces
run k bs x = grow_or_begin (is_open_piece k x.growing) k bs x

-- What is held back is plain text.
abbrev pub release : StylePieces → StylePieces
release x = run kind.Plain [] x

abbrev pub release_where : Bool → StylePieces → StylePieces
release_where true x = release x
release_where false x = x

-- What bytes do.
abbrev pub changed : PieceChange → List ℕ → StylePieces → StylePieces
changed change.Hold bs x = record { done = x.done; growing = x.growing; held = x.held ++ bs }
changed (change.Run k) bs x = run k bs x
changed (change.Begin k) bs x = begin k bs x
changed (change.Alone k) bs x = complete (begin k bs x)
changed change.Grow bs x = grow bs x
changed (change.GrowAs k) bs x = grow bs (turned_as k x)
changed change.Close bs x = complete (grow bs x)
changed change.Break bs x = begin kind.Plain bs (turned_as kind.BadString x)

-- The style ends, with what is open, and a byte that is held back is plain.
abbrev pub has_bytes : List ℕ → Bool
has_bytes [] = false
has_bytes (b ∷ bs) = true

abbrev pub all_pieces : StylePieces → List Piece
all_pieces x = (complete (release_where (has_bytes x.held) x)).done
