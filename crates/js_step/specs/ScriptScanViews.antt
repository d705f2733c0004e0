-- The scan states of the code, and its answers.
use Rattle.std.specs.Prelude.{ℕ, ◌+◌, ◌-◌, ◌^◌, ◌≤◌, Bool, true, false, codes, get_or, not, List, [], ◌∷◌, Option, Some, None, ⊤, take, drop}
use Rattle.js_lexer.specs.Refusals.{Cause, is_one_of}
use Rattle.js_lexer.specs.States.{ScriptEscape, NoEscape, AfterBackslash, AfterX, AfterX3, AfterCarriageReturn, At, Code, Word, Number, Pluses, Minuses, Slash, LineComment, BlockComment, InString, InRegexp, InTemplate, TooDeep, PartLines, HasLine, NoLineYet, Trail, ScriptPoint, point}
use Rattle.js_lexer.specs.Trails.{is_empty}
use Rattle.js_lexer.specs.WhiteSpace.{ClassedByte, PastAscii, IsSpace, IsSeparator, BeginsWhite, IsOther}
use Rattle.js_lexer.specs.declared.class.ScriptClass.{ScriptClass}
use Rattle.js_lexer.specs.declared.class.ScriptClass.TheVariants as class
use Rattle.js_step.specs.ScriptScans.{ScriptScan, script_scan}
use Rattle.js_step.specs.declared.cause.ScriptCause.{ScriptCause}
use Rattle.js_step.specs.declared.point.ScriptPoint.{ScriptPoint as ReadPoint}
use Rattle.js_step.specs.declared.scan.ScriptAt.{ScriptAt}
use Rattle.js_step.specs.declared.scan.ScriptAt.TheVariants as at
use Rattle.js_step.specs.declared.scan.ScriptEscape.{ScriptEscape as ReadEscape}
use Rattle.js_step.specs.declared.scan.ScriptEscape.TheVariants as escape
use Rattle.js_step.specs.declared.scan.ScriptHeld.{ScriptHeld}
use Rattle.js_step.specs.declared.scan.ScriptHeld.TheVariants as held
use Rattle.js_step.specs.declared.scan.ScriptLetters.{ScriptLetters}
use Rattle.js_step.specs.declared.scan.ScriptLetters.TheVariants as letters
use Rattle.js_step.specs.declared.scan.ScriptLiterals.{ScriptLiterals}
use Rattle.js_step.specs.declared.scan.ScriptMarkup.{ScriptMarkup}
use Rattle.js_step.specs.declared.scan.ScriptMarkup.TheVariants as markup
use Rattle.js_step.specs.declared.scan.ScriptPart.{ScriptPart}
use Rattle.js_step.specs.declared.scan.ScriptPart.TheVariants as part
use Rattle.js_step.specs.declared.scan.ScriptScan.{ScriptScan as ReadScan}
use Rattle.js_step.specs.declared.scan.ScriptTrail.{ScriptTrail}
use Rattle.js_step.specs.declared.scan.ScriptUnfinished.{ScriptUnfinished}
use Rattle.js_step.specs.declared.scan.ScriptUnfinished.TheVariants as unfinished
use Rattle.js_step.specs.declared.scan.ScriptWord.{ScriptWord}
use Rattle.js_step.specs.declared.white.PastAscii.{PastAscii as ReadPast}
use Rattle.js_step.specs.declared.white.PastAscii.TheVariants as past
use Rattle.place_core.specs.page.Tags.{script_code}

abbrev pub script_escape_at : ReadEscape → ScriptEscape
script_escape_at escape.None = NoEscape
script_escape_at escape.Backslash = AfterBackslash
script_escape_at escape.X = AfterX
script_escape_at escape.X3 = AfterX3
script_escape_at escape.Return = AfterCarriageReturn

abbrev pub script_word_at : ScriptWord → List ℕ
script_word_at w = take w.count w.bytes

abbrev pub script_lexeme_at : ScriptAt → At
script_lexeme_at (at.Code s) = Code s
script_lexeme_at (at.Word w) = Word (script_word_at w)
script_lexeme_at at.Number = Number
script_lexeme_at (at.Pluses odd) = Pluses odd
script_lexeme_at (at.Minuses odd) = Minuses odd
script_lexeme_at (at.Slash s) = Slash s
script_lexeme_at (at.Line s) = LineComment s
script_lexeme_at (at.Block s star) = BlockComment s star
script_lexeme_at (at.InString q e) = InString q (script_escape_at e)
script_lexeme_at (at.InRegexp k e) = InRegexp k (script_escape_at e)
script_lexeme_at (at.InTemplate e d) = InTemplate (script_escape_at e) d
script_lexeme_at at.TooDeep = TooDeep

abbrev pub script_literals_at : ScriptLiterals → List ℕ
script_literals_at x = drop x.free x.braces

abbrev pub script_held_at : ScriptHeld → List ℕ
script_held_at held.None = []
script_held_at (held.One a) = a ∷ []
script_held_at (held.Two a b) = a ∷ b ∷ []

abbrev pub script_letters_at : ScriptLetters → List ℕ
script_letters_at letters.None = []
script_letters_at letters.S = codes "s"
script_letters_at letters.Sc = codes "sc"
script_letters_at letters.Scr = codes "scr"
script_letters_at letters.Scri = codes "scri"
script_letters_at letters.Scrip = codes "scrip"
script_letters_at letters.Script = codes "script"

abbrev pub script_markup_at : ScriptMarkup → List ℕ
script_markup_at markup.None = []
script_markup_at (markup.Tag false l) = 60 ∷ script_letters_at l
script_markup_at (markup.Tag true l) = 60 ∷ 47 ∷ script_letters_at l
script_markup_at markup.LessBang = codes "<!"
script_markup_at markup.LessBangMinus = codes "<!-"
script_markup_at markup.Opened = codes "<!--"
script_markup_at markup.Hash = codes "#"
script_markup_at markup.HashBang = codes "#!"
script_markup_at markup.Minus = codes "-"
script_markup_at markup.Minuses = codes "--"
script_markup_at markup.Closed = codes "-->"

-- of these bytes, in lower case, what is refused in code, and in the code of a template literal of an element
abbrev pub script_is_refused : List ℕ → Bool
script_is_refused m = is_one_of (codes "<!--" ∷ codes "-->" ∷ codes "#!" ∷ []) m

abbrev pub script_is_refused_inside : List ℕ → Bool
script_is_refused_inside m = is_one_of (codes "<!--" ∷ codes "<script" ∷ codes "</script" ∷ []) m

abbrev pub script_unfinished_at : ScriptUnfinished → List ℕ
script_unfinished_at unfinished.None = []
script_unfinished_at unfinished.Backslash = 92 ∷ []
script_unfinished_at (unfinished.One a) = 92 ∷ a ∷ []
script_unfinished_at (unfinished.Two a b) = 92 ∷ a ∷ b ∷ []
script_unfinished_at (unfinished.Three a b c) = 92 ∷ a ∷ b ∷ c ∷ []
script_unfinished_at (unfinished.Four a b c d) = 92 ∷ a ∷ b ∷ c ∷ d ∷ []

abbrev pub script_lines_at : ScriptPart → PartLines
script_lines_at part.None = NoLineYet []
script_lines_at part.E2 = NoLineYet (0xE2 ∷ [])
script_lines_at part.E280 = NoLineYet (0xE2 ∷ 0x80 ∷ [])
script_lines_at part.Line = HasLine

abbrev pub script_trail_at : ScriptTrail → Trail
script_trail_at t = record {
  fresh = t.fresh;
  markup = script_markup_at t.markup;
  escape = script_unfinished_at t.escape;
  brace = t.brace;
  bracket = t.bracket;
  literal = t.literal;
  lines = script_lines_at t.lines;
}

abbrev pub script_scan_at : ReadScan → ScriptScan
script_scan_at n =
    script_scan n.senses n.before n.star (record {
      literals = script_literals_at n.literals;
      at = script_lexeme_at n.at;
      held = script_held_at n.held;
      trail = script_trail_at n.trail;
    })

abbrev pub script_cause_at : Cause → ScriptCause
script_cause_at e = record { code = script_code e.refusal; back = e.back; shown = e.shown }

-- What bytes past ASCII are. No more than two bytes are held back, so none of three begin a character.
abbrev pub script_past_at : ReadPast → PastAscii
script_past_at past.Space = IsSpace
script_past_at past.Separator = IsSeparator
script_past_at past.BeginsWhite = BeginsWhite
script_past_at past.Other = IsOther

abbrev pub IsPastAscii : PastAscii → (held : List ℕ) → Type 0
IsPastAscii BeginsWhite (a ∷ b ∷ held) = ⊥
IsPastAscii p held = ⊤

-- the class of the first of the bytes that are released
abbrev pub script_first_class : List ClassedByte → Option ScriptClass
script_first_class [] = None
script_first_class (x ∷ xs) = Some x.class

-- Where the reading of tokens stands.
abbrev pub script_point_at : ReadPoint → ScriptPoint
script_point_at p = point (script_literals_at p.literals) (script_lexeme_at p.at)

-- so many bytes may have been read before one that is stepped
abbrev pub most_bytes : ℕ
most_bytes = 2 ^ 128 - 4

-- How far the counts of a state go when that many bytes have been read: of the braces that are open in a literal; and of the bytes since a
-- `\u{`, which is three bytes when it begins, since a `[` and since the outermost literal.
pub record ScriptBracesFit (k : ℕ) (x : ScriptLiterals) : Type 0 where
  pub fit : (i : ℕ) → get_or x.braces i 0 ≤ k

pub record ScriptTrailFits (k : ℕ) (t : ScriptTrail) : Type 0 where
  pub brace : t.brace ≤ k + 2
  pub bracket : t.bracket ≤ k
  pub literal : t.literal ≤ k

pub record ScriptScanFits (k : ℕ) (n : ReadScan) : Type 0 where
  pub braces : ScriptBracesFit k n.literals
  pub trail : ScriptTrailFits k n.trail

-- how many braces a byte of a class opens
abbrev pub braces_opened : ScriptClass → ℕ
braces_opened class.OpenBrace = 1
braces_opened c = 0

-- a byte of this class opens and closes no literal and no brace
abbrev pub NestsNothing : ScriptClass → Type 0
NestsNothing class.GraveAccent = ⊥
NestsNothing class.OpenBrace = ⊥
NestsNothing class.CloseBrace = ⊥
NestsNothing c = ⊤

abbrev pub script_begins_white : Bool → PastAscii
script_begins_white true = BeginsWhite
script_begins_white false = IsOther

-- whether any are
abbrev pub script_releases : List ClassedByte → Bool
script_releases xs = not (is_empty xs)
