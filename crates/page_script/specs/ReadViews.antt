-- The states of the code.
use Rattle.std.specs.Prelude.{ℕ, ◌-◌, ◌^◌, ◌≤◌, Bool, true, false, get_or, List, [], ◌∷◌, ◌++◌, ⊤, drop}
use Rattle.js_lexer.specs.States.{ScriptEscape, NoEscape, AfterBackslash, AfterX, AfterX3, AfterCarriageReturn, At, Code, Word, Number, Pluses, Minuses, Slash, LineComment, BlockComment, InString, InRegexp, InTemplate, TooDeep, ScriptPoint, point}
use Rattle.js_lexer.specs.Steps.{is_word}
use Rattle.js_lexer.specs.WhiteSpace.{PastAscii, IsSpace, IsSeparator, BeginsWhite, IsOther}
use Rattle.js_lexer.specs.declared.class.ScriptClass.{ScriptClass}
use Rattle.js_lexer.specs.declared.class.ScriptClass.TheVariants as class
use Rattle.page_script.specs.declared.point.ReadAt.{ReadAt}
use Rattle.page_script.specs.declared.point.ReadAt.TheVariants as at
use Rattle.page_script.specs.declared.point.ReadEscape.{ReadEscape}
use Rattle.page_script.specs.declared.point.ReadEscape.TheVariants as escape
use Rattle.page_script.specs.declared.point.ReadLiterals.{ReadLiterals}
use Rattle.page_script.specs.declared.point.ReadPoint.{ReadPoint}
use Rattle.page_script.specs.declared.white.Held.{Held}
use Rattle.page_script.specs.declared.white.Held.TheVariants as held
use Rattle.page_script.specs.declared.white.Past.{Past}
use Rattle.page_script.specs.declared.white.Past.TheVariants as past

abbrev pub read_escape_at : ReadEscape → ScriptEscape
read_escape_at escape.None = NoEscape
read_escape_at escape.Backslash = AfterBackslash
read_escape_at escape.X = AfterX
read_escape_at escape.X3 = AfterX3
read_escape_at escape.Return = AfterCarriageReturn

-- the first argument: the bytes of the word, where it is one
abbrev pub token_at : List ℕ → ReadAt → At
token_at w (at.Code s) = Code s
token_at w at.Word = Word w
token_at w at.Number = Number
token_at w (at.Pluses odd) = Pluses odd
token_at w (at.Minuses odd) = Minuses odd
token_at w (at.Slash s) = Slash s
token_at w (at.Line s) = LineComment s
token_at w (at.Block s star) = BlockComment s star
token_at w (at.InString q e) = InString q (read_escape_at e)
token_at w (at.InRegexp k e) = InRegexp k (read_escape_at e)
token_at w (at.InTemplate e d) = InTemplate (read_escape_at e) d
token_at w at.TooDeep = TooDeep

-- The bytes of the word that there may be behind a byte: those before it and the byte where the word goes on, or the byte alone.
abbrev pub word_behind_in : Bool → List ℕ → ℕ → List ℕ
word_behind_in true w b = w ++ b ∷ []
word_behind_in false w b = b ∷ []

abbrev pub word_behind : ReadAt → ScriptClass → List ℕ → ℕ → List ℕ
word_behind at.Word c w b = word_behind_in (is_word c) w b
word_behind a c w b = b ∷ []

abbrev pub literals_at : ReadLiterals → List ℕ
literals_at x = drop x.free x.braces

abbrev pub read_point_at : List ℕ → ReadPoint → ScriptPoint
read_point_at w p = point (literals_at p.literals) (token_at w p.at)

abbrev pub held_bytes : Held → List ℕ
held_bytes held.None = []
held_bytes (held.One a) = a ∷ []
held_bytes (held.Two a b) = a ∷ b ∷ []

-- What bytes past ASCII are. No more than two bytes are held back, so none of three begin a character.
abbrev pub past_at : Past → PastAscii
past_at past.Space = IsSpace
past_at past.Separator = IsSeparator
past_at past.BeginsWhite = BeginsWhite
past_at past.Other = IsOther

abbrev pub past_begins : Bool → PastAscii
past_begins true = BeginsWhite
past_begins false = IsOther

abbrev pub IsPast : PastAscii → (held : List ℕ) → Type 0
IsPast BeginsWhite (a ∷ b ∷ held) = ⊥
IsPast p held = ⊤

-- Behind so many bytes no more braces are open in a literal; so many bytes may have been read before one.
pub record BracesFit (k : ℕ) (x : ReadLiterals) : Type 0 where
  pub fit : (i : ℕ) → get_or x.braces i 0 ≤ k

abbrev pub most_script_bytes : ℕ
most_script_bytes = 2 ^ 128 - 4

-- how many braces a byte of a class opens
abbrev pub braces_of_class : ScriptClass → ℕ
braces_of_class class.OpenBrace = 1
braces_of_class c = 0

-- a byte of this class opens and closes no literal and no brace
abbrev pub ScriptNestsNothing : ScriptClass → Type 0
ScriptNestsNothing class.GraveAccent = ⊥
ScriptNestsNothing class.OpenBrace = ⊥
ScriptNestsNothing class.CloseBrace = ⊥
ScriptNestsNothing c = ⊤
