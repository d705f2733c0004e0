-- What is refused on two paths together that meet before a text or a hole, none of which is refused alone; and paths that are apart in the
-- beginning of a URL.
use Rattle.std.specs.Prelude.{◌≡◌, ℕ, zero, suc, Bool, true, false, not, List, [], ◌∷◌, Option, Some, None, option_map, ◌⊎◌}
use Rattle.css_lexer.specs.States.{Bare, Quoted, Style, InUrl}
use Rattle.js_lexer.specs.States as script
use Rattle.js_lexer.specs.Steps.{sense_if_odd}
use Rattle.js_lexer.specs.Words.{sense_after}
use Rattle.js_lexer.specs.declared.sense.Sense.{Sense}
use Rattle.js_lexer.specs.declared.sense.Sense.TheVariants as sense
use Rattle.place_core.specs.page.Classes.{Class, White, class_of}
use Rattle.place_core.specs.page.Html.{next}
use Rattle.place_core.specs.page.References.{Closed, Open, ReferenceStep, Breaks, turn}
use Rattle.place_core.specs.page.States.{Template, LexState, BeforeAttributeValue, AttributeValue, InLanguage, InContent}
use Rattle.place_core.specs.page.Tags.{ValueOf, ValueState, OfUrl, OfStyle, OfScript, Unquoted, languages, refusal_code}
use Rattle.place_core.specs.place.ApartPlaces.{ArePlacesApart, side}
use Rattle.place_core.specs.place.Errors.{byte_error, node, path_refusal, place_before_bytes, value_before}
use Rattle.place_core.specs.place.Membership.{Bears}
use Rattle.place_core.specs.place.StatePlaces.{placed}
use Rattle.url_lexer.specs.Parts.{UrlPart, UrlStart, UrlOpen}
use Rattle.url_lexer.specs.Prefixes.{Differs}
use Rattle.url_lexer.specs.States.{Url}
use Rattle.url_lexer.specs.TwoPaths.{is_open, refuses_hole_on_two}
use Rattle.place_core.specs.declared.code.Code.{Code}
use Rattle.place_core.specs.declared.code.Code.TheVariants as code
use Rattle.place_core.specs.declared.kind.Kind.{Kind}
use Rattle.place_core.specs.declared.kind.Kind.TheVariants as kind
use Rattle.place_core.specs.declared.place.Place.{Place}

-- A value of a kind that has a place where it begins.
abbrev pub begun_clash : Kind → Option Code
begun_clash kind.ScriptType = None
begun_clash k = Some code.AmbigContext

-- White space, where one path is in a value without quotes and the other before a value: it ends the one and does nothing to the other.
abbrev pub byte_clash : LexState ValueState → LexState ValueState → Class → Option Code
byte_clash (BeforeAttributeValue t k) (AttributeValue Unquoted u (ValueOf v) r) White = begun_clash k
byte_clash (AttributeValue Unquoted u (ValueOf v) r) (BeforeAttributeValue t k) White = begun_clash k
byte_clash s r c = None

-- Two paths are apart at the end of a node: both are in the beginning of a URL, and it spells different things.
pub record Apart (s r : LexState ValueState) : Type 0 where
  pub own : Place
  pub other_own : Place
  pub stands : placed s ≡ Some own
  pub other_stands : placed r ≡ Some other_own
  pub apart : ArePlacesApart own other_own

-- Whether a reference is open before the bytes that are left of a text, with which the next byte goes on.
abbrev pub is_broken_by : ReferenceStep → Bool
is_broken_by Breaks = true
is_broken_by step = false

abbrev pub is_in_reference : LexState ValueState → List ℕ → Bool
is_in_reference (AttributeValue q t v (Open f bytes)) (b ∷ bs) = not (is_broken_by (turn (class_of b) f))
is_in_reference s bs = false

-- likewise, before the bytes that are left of a text, and not within a reference
pub record ApartBefore (bytes : List ℕ) (s r : LexState ValueState) : Type 0 where
  pub own : Place
  pub other_own : Place
  pub between : is_in_reference s bytes ≡ false
  pub other_between : is_in_reference r bytes ≡ false
  pub stands : place_before_bytes s bytes ≡ Some own
  pub other_stands : place_before_bytes r bytes ≡ Some other_own
  pub apart : ArePlacesApart own other_own

-- The state before the bytes that are left of a text: a reference that the next byte breaks has been read.
abbrev pub read_before : ReferenceStep → LexState ValueState → LexState ValueState → LexState ValueState
read_before Breaks read s = read
read_before step read s = s

abbrev pub state_before : LexState ValueState → List ℕ → LexState ValueState
state_before (AttributeValue q t v (Open f bytes)) (b ∷ bs) =
    read_before (turn (class_of b) f) (AttributeValue q t (value_before Breaks v (class_of b) f bytes) Closed) (AttributeValue q t v (Open f bytes))
state_before s bs = s

-- the URL of a style in which a path is
abbrev pub url_in_style : Style Url → Option Url
url_in_style (InUrl Bare u) = Some u
url_in_style (InUrl (Quoted q e) u) = Some u
url_in_style s = None

-- A path that is in the beginning of a URL stays in it, at each byte of a text and at its end.
abbrev pub is_in_open : Option Url → Bool
is_in_open (Some u) = is_open u.part
is_in_open None = false

abbrev pub is_in_beginning : LexState ValueState → Bool
is_in_beginning (AttributeValue q t (ValueOf (OfUrl u)) r) = is_open u.part
is_in_beginning (AttributeValue q t (ValueOf (OfStyle s)) r) = is_in_open (url_in_style s)
is_in_beginning (InContent e (InLanguage (OfStyle s)) h) = is_in_open (url_in_style s)
is_in_beginning s = false

abbrev pub Keeps : List ℕ → LexState ValueState → Type 0
Keeps [] s = Bears (node [] s) side
Keeps (b ∷ bs) s = (is_in_beginning s ≡ true) × Keeps bs (next languages Template s (class_of b) b)

-- Two paths come apart within a text, and both stay in the beginning from there to its end.
abbrev pub PartWithin : List ℕ → LexState ValueState → LexState ValueState → Type 0
PartWithin [] s r = ⊥
PartWithin (b ∷ bs) s r =
    (ApartBefore bs (next languages Template s (class_of b) b) (next languages Template r (class_of b) b)
    × Keeps bs (state_before (next languages Template s (class_of b) b) bs)
    × Keeps bs (state_before (next languages Template r (class_of b) b) bs))
    ⊎ PartWithin bs (next languages Template s (class_of b) b) (next languages Template r (class_of b) b)

-- The path with a beginning of which it is not known what it spells. A `:` is refused on it, as long as it stays in the beginning.
abbrev pub unknown_part : UrlPart → UrlPart
unknown_part (UrlOpen p) = UrlOpen Differs
unknown_part p = p

abbrev pub unknown_url : Url → Url
unknown_url u = record { part = unknown_part u.part; scheme = u.scheme; triple = u.triple; free = u.free }

abbrev pub unknown_style : Style Url → Style Url
unknown_style (InUrl f u) = InUrl f (unknown_url u)
unknown_style s = s

abbrev pub unknown_beginning : LexState ValueState → LexState ValueState
unknown_beginning (AttributeValue q t (ValueOf (OfUrl u)) r) = AttributeValue q t (ValueOf (OfUrl (unknown_url u))) r
unknown_beginning (AttributeValue q t (ValueOf (OfStyle s)) r) = AttributeValue q t (ValueOf (OfStyle (unknown_style s))) r
unknown_beginning (InContent e (InLanguage (OfStyle s)) h) = InContent e (InLanguage (OfStyle (unknown_style s))) h
unknown_beginning s = s

pub record MeetsColon (bytes : List ℕ) (s : LexState ValueState) (at : ℕ) : Type 0 where
  pub shown : ℕ
  pub begins : is_in_beginning s ≡ true
  pub refused : path_refusal bytes (unknown_beginning s) ≡ Some (record { code = code.AmbigContext; at = at; shown = shown })

-- Two paths that met apart before a text are refused together at a `:` of it, where both stay in the beginning up to there.
pub record ClashesApart (bytes : List ℕ) (s r : LexState ValueState) (e : Code) (at : ℕ) : Type 0 where
  pub is : e ≡ code.AmbigContext
  pub one : MeetsColon bytes s at
  pub other : MeetsColon bytes r at

-- Two paths, of which neither is refused before this byte of a text, are refused together there: for white space, or at a `:` behind a byte of
-- the text behind which they were apart.
abbrev pub ClashesInText : List ℕ → LexState ValueState → LexState ValueState → Code → ℕ → Type 0
ClashesInText [] s r e at = ⊥
ClashesInText (b ∷ bs) s r e zero = byte_clash s r (class_of b) ≡ Some e
ClashesInText (b ∷ bs) s r e (suc at) =
    (byte_error s (class_of b) b ≡ None) × (byte_error r (class_of b) b ≡ None)
    × ((ApartBefore bs (next languages Template s (class_of b) b) (next languages Template r (class_of b) b)
    × ClashesApart bs (state_before (next languages Template s (class_of b) b) bs) (state_before (next languages Template r (class_of b) b) bs) e at)
    ⊎ ClashesInText bs (next languages Template s (class_of b) b) (next languages Template r (class_of b) b) e at)

-- What a slash would be on a path in a script where a text begins, unless that goes on with what stands before; inside a string or a regular expression
-- it is a part of it.
abbrev pub sense_at_text : script.At → Option Sense
sense_at_text (script.Code s) = Some s
sense_at_text (script.Word w) = Some (sense_after w)
sense_at_text script.Number = Some sense.Div
sense_at_text (script.Pluses odd) = Some (sense_if_odd odd)
sense_at_text (script.Minuses odd) = Some (sense_if_odd odd)
sense_at_text (script.Slash sense.Re) = None
sense_at_text (script.Slash s) = Some sense.Re
sense_at_text (script.LineComment s) = Some s
sense_at_text (script.BlockComment s star) = Some s
sense_at_text a = None

abbrev pub slash_sense : LexState ValueState → Option Sense
slash_sense (BeforeAttributeValue t kind.Script) = Some sense.Re
slash_sense (AttributeValue q t (ValueOf (OfScript s)) r) = sense_at_text s.at
slash_sense (InContent e (InLanguage (OfScript s)) h) = sense_at_text s.at
slash_sense s = None

abbrev pub senses_part : Option Sense → Option Sense → Bool
senses_part (Some sense.Re) (Some sense.Div) = true
senses_part (Some sense.Div) (Some sense.Re) = true
senses_part o p = false

-- The path on which it is not known what a slash would be: as behind a `}`, one that begins no comment is refused.
abbrev pub with_either_slash : script.At → script.At
with_either_slash (script.LineComment s) = script.LineComment sense.Brace
with_either_slash (script.BlockComment s star) = script.BlockComment sense.Brace star
with_either_slash a = script.Code sense.Brace

-- No minus stands before its text, so nothing is kept of what one would begin.
abbrev pub either_slash_markup : script.At → List ℕ → List ℕ
either_slash_markup (script.Minuses odd) m = []
either_slash_markup a m = m

abbrev pub either_slash_trail : script.At → script.Trail → script.Trail
either_slash_trail a t = record {
  fresh = t.fresh;
  markup = either_slash_markup a t.markup;
  escape = t.escape;
  brace = t.brace;
  bracket = t.bracket;
  literal = t.literal;
  lines = t.lines;
}

abbrev pub either_slash_script : script.ScriptState → script.ScriptState
either_slash_script s = record { literals = s.literals; at = with_either_slash s.at; held = s.held; trail = either_slash_trail s.at s.trail }

abbrev pub either_slash : LexState ValueState → LexState ValueState
either_slash (AttributeValue q t (ValueOf (OfScript s)) r) = AttributeValue q t (ValueOf (OfScript (either_slash_script s))) r
either_slash (InContent e (InLanguage (OfScript s)) h) = InContent e (InLanguage (OfScript (either_slash_script s))) h
either_slash s = s

-- Two paths at which a slash would be one thing and the other where a text begins are refused together at such a slash of it.
pub record ClashesSlash (bytes : List ℕ) (s r : LexState ValueState) (e : Code) (at : ℕ) : Type 0 where
  pub is : e ≡ code.SlashAmbig
  pub part : senses_part (slash_sense s) (slash_sense r) ≡ true
  pub shown : ℕ
  pub refused : path_refusal bytes (either_slash s) ≡ Some (record { code = code.SlashAmbig; at = at; shown = shown })

-- What two paths that meet before a text are refused for in it, together.
abbrev pub Clashes : List ℕ → LexState ValueState → LexState ValueState → Code → ℕ → Type 0
Clashes bytes s r e at = ClashesInText bytes s r e at ⊎ ClashesSlash bytes s r e at

-- Two paths at one hole are refused together there where both are in one URL, in different parts of it: no one chain of sanitizers fits both.
abbrev pub url_part_at : LexState ValueState → Option UrlPart
url_part_at (BeforeAttributeValue t kind.Url) = Some UrlStart
url_part_at (AttributeValue q t (ValueOf (OfUrl u)) r) = Some u.part
url_part_at (AttributeValue q t (ValueOf (OfStyle s)) r) = option_map (λ u. u.part) (url_in_style s)
url_part_at (InContent e (InLanguage (OfStyle s)) h) = option_map (λ u. u.part) (url_in_style s)
url_part_at s = None

abbrev pub parts_clash : Option UrlPart → Option UrlPart → Option Code
parts_clash (Some p) (Some q) = option_map refusal_code (refuses_hole_on_two p q)
parts_clash o r = None

abbrev pub ClashesHole : LexState ValueState → LexState ValueState → Code → Type 0
ClashesHole s r e = parts_clash (url_part_at s) (url_part_at r) ≡ Some e
