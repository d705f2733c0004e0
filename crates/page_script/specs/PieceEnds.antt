-- Where the pieces of a script end, by the machine that reads its tokens (ECMA-262, section 12). A piece is a token or a comment, and a
-- whole template literal is one.
use Rattle.std.specs.Prelude.{ℕ, Bool, true, false, List, [], ◌∷◌, Option, Some, None}
use Rattle.js_lexer.specs.States.{At, Code, Word, Number, Pluses, Minuses, Slash, LineComment, BlockComment, InString, InRegexp, InTemplate, TooDeep}
use Rattle.js_lexer.specs.Steps.{is_word, is_number, is_taken_in_string}
use Rattle.js_lexer.specs.declared.class.ScriptClass.{ScriptClass}
use Rattle.js_lexer.specs.declared.class.ScriptClass.TheVariants as class
use Rattle.js_lexer.specs.declared.sense.Sense.{Sense}
use Rattle.js_lexer.specs.declared.sense.Sense.TheVariants as sense
use Rattle.page_piece.specs.declared.piece.PieceKind.{PieceKind}
use Rattle.page_piece.specs.declared.piece.PieceKind.TheVariants as kind

abbrev pub unless : Bool → PieceKind → Option PieceKind
unless true k = None
unless false k = Some k

-- A slash that may begin a comment, before a byte that begins none: a division by itself, or a regular expression, which the end of a
-- line cuts.
abbrev pub slash_ends : Sense → ScriptClass → Option PieceKind
slash_ends s class.Solidus = None
slash_ends s class.Asterisk = None
slash_ends sense.Re class.LineEnd = Some kind.BadString
slash_ends sense.Re c = None
slash_ends s c = Some kind.Punct

abbrev pub pluses_end : ScriptClass → Option PieceKind
pluses_end class.Plus = None
pluses_end c = Some kind.Punct

abbrev pub minuses_end : ScriptClass → Option PieceKind
minuses_end class.Minus = None
minuses_end c = Some kind.Punct

abbrev pub ends_at_line : PieceKind → ScriptClass → Option PieceKind
ends_at_line k class.LineEnd = Some k
ends_at_line k c = None

abbrev pub string_ends : Bool → ScriptClass → Option PieceKind
string_ends true c = None
string_ends false c = ends_at_line kind.BadString c

-- The piece that ends before a byte, in no template literal.
abbrev pub token_ends : At → ScriptClass → ℕ → Option PieceKind
token_ends (Word w) c b = unless (is_word c) kind.Word
token_ends Number c b = unless (is_number c) kind.Number
token_ends (Pluses odd) c b = pluses_end c
token_ends (Minuses odd) c b = minuses_end c
token_ends (Slash s) c b = slash_ends s c
token_ends (LineComment s) c b = ends_at_line kind.Comment c
token_ends (InString q e) c b = string_ends (is_taken_in_string e b) c
token_ends (InRegexp k e) c b = ends_at_line kind.BadString c
token_ends a c b = None

-- The piece that ends before a byte. All that stands in a template literal is in its piece.
abbrev pub ends_before : List ℕ → At → ScriptClass → ℕ → Option PieceKind
ends_before [] a c b = token_ends a c b
ends_before (n ∷ fs) a c b = None

-- What a piece is that ends with a byte: one that is open there, or the byte by itself.
abbrev pub token_closed : At → PieceKind
token_closed (BlockComment s star) = kind.Comment
token_closed (InString q e) = kind.String
token_closed (InRegexp k e) = kind.Regexp
token_closed a = kind.Punct

abbrev pub kind_closed : List ℕ → At → PieceKind
kind_closed [] a = token_closed a
kind_closed (n ∷ fs) a = kind.Template

-- No piece is open behind a token, in no template literal.
abbrev pub is_code : At → Bool
is_code (Code s) = true
is_code a = false

abbrev pub is_between : List ℕ → At → Bool
is_between [] a = is_code a
is_between (n ∷ fs) a = false

-- White space and the ends of lines are in no piece where none is open.
abbrev pub is_white_class : ScriptClass → Bool
is_white_class class.Space = true
is_white_class class.LineEnd = true
is_white_class c = false

-- What a piece is that the end of the script cuts.
abbrev pub slash_cut : Sense → PieceKind
slash_cut sense.Re = kind.Regexp
slash_cut s = kind.Punct

abbrev pub token_cut : At → Option PieceKind
token_cut (Code s) = None
token_cut (Word w) = Some kind.Word
token_cut Number = Some kind.Number
token_cut (Pluses odd) = Some kind.Punct
token_cut (Minuses odd) = Some kind.Punct
token_cut (Slash s) = Some (slash_cut s)
token_cut (LineComment s) = Some kind.Comment
token_cut (BlockComment s star) = Some kind.Comment
token_cut (InString q e) = Some kind.String
token_cut (InRegexp k e) = Some kind.Regexp
token_cut (InTemplate e d) = Some kind.Template
token_cut TooDeep = Some kind.Unfinished

abbrev pub template_cut : At → Option PieceKind
template_cut TooDeep = Some kind.Unfinished
template_cut a = Some kind.Template

abbrev pub kind_cut : List ℕ → At → Option PieceKind
kind_cut [] a = token_cut a
kind_cut (n ∷ fs) a = template_cut a
