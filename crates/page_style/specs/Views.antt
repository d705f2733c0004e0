-- The states and the pieces as the code has them.
use Rattle.std.specs.Prelude.{ℕ, ◌≡◌, ◌≤◌, List, Option, option_map, get_or, take, drop, ⊤}
use Rattle.std.specs.Str.{IsCharBoundary}
use Rattle.css_lexer.specs.Escapes.{StyleEscape, NoEscape, AfterBackslash, HexDigits, AfterReturn}
use Rattle.css_lexer.specs.States as style
use Rattle.css_lexer.specs.States.{Style, Out}
use Rattle.page_piece.specs.declared.piece.Piece.{Piece}
use Rattle.page_piece.specs.declared.piece.PieceKind.{PieceKind}
use Rattle.page_style.specs.Pieces.{StylePieces}
use Rattle.page_style.specs.Reading.{PiecesReading, style_read_on}
use Rattle.page_style.specs.StyleUrls.{any_url_state}
use Rattle.page_style.specs.declared.part.Part.{Part}
use Rattle.page_style.specs.declared.pieces.Pieces.{Pieces}
use Rattle.page_style.specs.declared.state.Escape.{Escape}
use Rattle.page_style.specs.declared.state.Escape.TheVariants as escape
use Rattle.page_style.specs.declared.state.Quote.{Quote}
use Rattle.page_style.specs.declared.state.Quote.TheVariants as quote
use Rattle.page_style.specs.declared.state.State.{State}
use Rattle.page_style.specs.declared.state.State.TheVariants as state
use Rattle.page_style.specs.declared.state.UrlForm.{UrlForm}
use Rattle.page_style.specs.declared.state.UrlForm.TheVariants as form
use Rattle.page_style.specs.declared.state.UrlWord.{UrlWord}
use Rattle.page_style.specs.declared.state.UrlWord.TheVariants as word

abbrev pub url_word_at : UrlWord → style.UrlWord
url_word_at word.U = style.SpellsU
url_word_at word.Ur = style.SpellsUr
url_word_at word.Url = style.SpellsUrl
url_word_at word.Other = style.SpellsOther

abbrev pub read_style_escape : Escape → StyleEscape
read_style_escape escape.None = NoEscape
read_style_escape escape.Backslash = AfterBackslash
read_style_escape (escape.Digits n) = HexDigits n
read_style_escape escape.Return = AfterReturn

abbrev pub quote_at : Quote → style.Quote
quote_at quote.Double = style.DoubleQuote
quote_at quote.Single = style.SingleQuote

abbrev pub form_at : UrlForm → style.UrlForm
form_at form.Fresh = style.Fresh
form_at form.Bare = style.Bare
form_at (form.Quoted q e) = style.Quoted (quote_at q) (read_style_escape e)
form_at form.Ended = style.Ended

abbrev pub style_state_at : State → Style ⊤
style_state_at (state.Between blank) = Out (style.Between blank)
style_state_at state.LessThan = Out style.AfterLessThan
style_state_at (state.Word w e) = Out (style.Word (url_word_at w) (read_style_escape e))
style_state_at (state.Solidus blank) = Out (style.AfterSolidus blank)
style_state_at (state.Comment star) = Out (style.Comment star)
style_state_at (state.InString q e) = Out (style.InString (quote_at q) (read_style_escape e))
style_state_at state.BadUrl = Out style.BadUrl
style_state_at (state.InUrl f) = style.InUrl (form_at f) any_url_state

-- A part of a text.
abbrev pub style_slice : List ℕ → ℕ → ℕ → List ℕ
style_slice text from to = drop from (take to text)

-- The pieces of a text that has been read up to a place.
abbrev pub open_piece_at : List ℕ → ℕ → ℕ → Option PieceKind → Option Piece
open_piece_at text from to o = option_map (λ k. record { kind = k; text = style_slice text from to }) o

abbrev pub style_pieces_at : List ℕ → ℕ → Pieces → StylePieces
style_pieces_at text at x = record {
  done = x.done;
  growing = open_piece_at text x.from x.to x.growing;
  held = style_slice text x.to at;
}

abbrev pub read_style_at : List ℕ → ℕ → State → Pieces → PiecesReading
read_style_at text at s x = record { at = style_state_at s; pieces = style_pieces_at text at x }

-- The open piece is a part of the text between characters.
pub record IsWithin (text : List ℕ) (x : Pieces) : Type 0 where
  pub order : x.from ≤ x.to
  pub begins : IsCharBoundary text x.from
  pub ends : IsCharBoundary text x.to

-- A part of the text from a place on, which nothing has been read of.
pub record IsNext (text : List ℕ) (part : Part) (x : Pieces) : Type 0 where
  pub within : IsWithin text x
  pub held : x.to ≤ part.from
  pub order : part.from ≤ part.to
  pub cut : IsCharBoundary text part.to

-- The pieces are these behind it.
pub record LeadsPieces (text : List ℕ) (end : ℕ) (x : Pieces) (wanted : StylePieces) : Type 0 where
  pub within : IsWithin text x
  pub held : x.to ≤ end
  pub pieces : style_pieces_at text end x ≡ wanted

pub record Reads (text : List ℕ) (part : Part) (s : State) (x : Pieces) (before : PiecesReading) : Type 0 where
  pub within : IsWithin text x
  pub held : x.to ≤ part.to
  pub point : read_style_at text part.to s x ≡ style_read_on (get_or text part.from 0) (style_slice text part.from part.to) before
