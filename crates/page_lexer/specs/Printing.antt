-- The listing of a page's tokens: a line for each token, each attribute and each piece. A text stands in it as a script would have it, a string of JSON.
use Rattle.std.specs.Prelude.{ℕ, Bool, true, false, codes, List, [], ◌∷◌, ◌++◌}
use Rattle.js_lexer.specs.Sanitizers.{js_value}
use Rattle.page_datum.specs.Data.{text}
use Rattle.page_piece.specs.Words.{kind_word}
use Rattle.page_piece.specs.declared.piece.Piece.{Piece}
use Rattle.page_url.specs.declared.scheme.Scheme.{Scheme}
use Rattle.page_url.specs.declared.scheme.Scheme.TheVariants as scheme
use Rattle.page_lexer.specs.Characters.{shown_text}
use Rattle.page_lexer.specs.Parts.{part}
use Rattle.page_lexer.specs.declared.token.Attr.{Attr}
use Rattle.page_lexer.specs.declared.token.PageToken.{PageToken}
use Rattle.page_lexer.specs.declared.token.Read.{Read}
use Rattle.page_lexer.specs.declared.token.Read.TheVariants as read
use Rattle.page_lexer.specs.declared.token.What.{What}
use Rattle.page_lexer.specs.declared.token.What.TheVariants as what

abbrev pub quoted_text : List ℕ → List ℕ
quoted_text t = js_value (text t)

-- a line of a word, behind what stands before it; and of a word and a text
abbrev pub word_line : List ℕ → List ℕ → List ℕ
word_line front word = front ++ (word ++ 10 ∷ [])

abbrev pub quoted_line : List ℕ → List ℕ → List ℕ → List ℕ
quoted_line front word t = front ++ (word ++ 32 ∷ (quoted_text t ++ 10 ∷ []))

abbrev pub piece_lines : List ℕ → List Piece → List ℕ
piece_lines front [] = []
piece_lines front (p ∷ ps) = quoted_line front (kind_word p.kind) p.text ++ piece_lines front ps

-- the pieces of a token two spaces in, those of an attribute four
abbrev pub pieces_under_token : List ℕ → List Piece → List ℕ
pieces_under_token word pieces = word_line [] word ++ piece_lines (codes "  ") pieces

abbrev pub pieces_under_attribute : List ℕ → List ℕ → List Piece → List ℕ
pieces_under_attribute front word pieces = word_line front word ++ piece_lines (codes "    ") pieces

abbrev pub scheme_word : Scheme → List ℕ
scheme_word scheme.Nothing = codes "-"
scheme_word (scheme.Named name) = name

-- A value of a kind that decides how an element is read, or that no hole may stand in, is shown as a plain one.
abbrev pub value_lines : List ℕ → Read → List ℕ
value_lines front (read.Chars t) = quoted_line front (codes "plain") t
value_lines front (read.Url s t) = quoted_line front (codes "url " ++ scheme_word s) t
value_lines front (read.Script pieces) = pieces_under_attribute front (codes "script") pieces
value_lines front (read.Style pieces) = pieces_under_attribute front (codes "style") pieces

abbrev pub attribute_lines : List Attr → List ℕ
attribute_lines [] = []
attribute_lines (a ∷ more) = value_lines (codes "  attr " ++ (a.name ++ 32 ∷ [])) a.value ++ attribute_lines more

abbrev pub closing_mark : Bool → List ℕ
closing_mark true = codes " /"
closing_mark false = []

-- the bytes of a token, and what it is
abbrev pub token_lines : List ℕ → What → List ℕ
token_lines bytes what.Text = quoted_line [] (codes "text") (shown_text bytes)
token_lines bytes (what.Start tag) = word_line (codes "start ") (tag.name ++ closing_mark tag.closing) ++ attribute_lines tag.attrs
token_lines bytes (what.End tag) = word_line (codes "end ") tag.name ++ attribute_lines tag.attrs
token_lines bytes what.Comment = quoted_line [] (codes "comment") (shown_text bytes)
token_lines bytes what.Doctype = quoted_line [] (codes "doctype") (shown_text bytes)
token_lines bytes what.Block = quoted_line [] (codes "block") (shown_text bytes)
token_lines bytes what.Escape = word_line [] (codes "escape")
token_lines bytes what.Unfinished = quoted_line [] (codes "unfinished") (shown_text bytes)
token_lines bytes (what.Script pieces) = pieces_under_token (codes "script") pieces
token_lines bytes (what.Style pieces) = pieces_under_token (codes "style") pieces

abbrev pub printed_tokens : List ℕ → List PageToken → List ℕ
printed_tokens page [] = []
printed_tokens page (t ∷ ts) = token_lines (part page t.from t.to) t.what ++ printed_tokens page ts
