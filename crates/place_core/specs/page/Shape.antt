-- The shape of a page: what it reads as, with a mark for each hole whose bytes are plain in their place.
use Rattle.std.specs.Prelude.{◌≡◌, ℕ, List, [], ◌∷◌, ◌++◌, reverse, Option, Some, None, ◌⊎◌}
use Rattle.place_core.specs.page.Contents.{content_behind}
use Rattle.place_core.specs.page.Events.{LexEvent, TextByte, Mark, StartTagBegins, EndTagBegins, TagEnds, Comment}
use Rattle.place_core.specs.page.Html.{read, read_over}
use Rattle.place_core.specs.page.Paths.{mark_in}
use Rattle.place_core.specs.page.Plain.{settled_state, IsPlain}
use Rattle.place_core.specs.page.States.{Page, LexState, BeforeAttributeValue, AttributeValue, Content, Bytes, InContent, Config, config}
use Rattle.place_core.specs.page.Tags.{ValueLanguage, Value, attribute_value_of, value_behind, languages, ValueState}

-- a part of a page: bytes of a text, or bytes of a hole; a hole in a comment of HTML has no part
pub data ShapePart : Type 0 where
  TextPart : List ℕ → ShapePart
  HolePart : List ℕ → ShapePart

-- the bytes of parts
abbrev pub event_bytes : List ShapePart → List ℕ
event_bytes [] = []
event_bytes (TextPart bytes ∷ parts) = bytes ++ event_bytes parts
event_bytes (HolePart bytes ∷ parts) = bytes ++ event_bytes parts

-- The bytes of a hole are passed over: the reading goes on where they end, and has told the mark instead of them; in a value and in a style the
-- language says what of them it still knows. A mark needs no number: the order of the marks gives it. After a name the next byte of the page says whether the
-- name is the hole alone: any more of it is told.
abbrev pub open_value : {B : Type 0} → ValueLanguage B → LexState B → Option (Value B)
open_value x (AttributeValue q tag v r) = Some v
open_value x (BeforeAttributeValue tag k) = Some (attribute_value_of x k)
open_value x s = None

-- the content that is open there; outside of one it does not matter what it is
abbrev pub open_content : {B : Type 0} → LexState B → Content B
open_content (InContent e y h) = y
open_content s = Bytes

abbrev pub state_past_hole : {B : Type 0} → ValueLanguage B → LexState B → LexState B → LexState B
state_past_hole x before (AttributeValue q tag v r) = AttributeValue q tag (value_behind x (open_value x before) v) r
state_past_hole x before (InContent e y h) = InContent e (content_behind x y (open_content before)) h
state_past_hole x before after = after

abbrev pub marked_over : {B : Type 0} → ValueLanguage B → List ℕ → Config B → Config B
marked_over x bytes c =
    config (state_past_hole x (settled_state x c.at) (read_over x Page bytes (config (settled_state x c.at) [])).at) (mark_in x c.at c.emitted)

abbrev pub marked : List ℕ → Config ValueState → Config ValueState
marked bytes c = marked_over languages bytes c

-- Reading the parts leads from one config to another: a hole that is plain in its place tells its mark, any other is read as its bytes.
abbrev pub PageReads : List ShapePart → Config ValueState → Config ValueState → Type 0
PageReads [] from to = to ≡ from
PageReads (TextPart bytes ∷ parts) from to = PageReads parts (read Page bytes from) to
PageReads (HolePart bytes ∷ parts) from to =
    (IsPlain bytes from × PageReads parts (marked bytes from) to) ⊎ ((IsPlain bytes from → ⊥) × PageReads parts (read Page bytes from) to)

-- a token: a longest text with its marks, or another event; in a data block each byte is one, and each run of marks
pub data Token : Type 0 where
  TextToken : List LexEvent → Token
  OtherToken : LexEvent → Token

-- a text so far, as a token
abbrev pub text_token : List LexEvent → List Token
text_token [] = []
text_token (x ∷ xs) = TextToken (x ∷ xs) ∷ []

-- What is open where an event is told: a text, whose bytes and marks are one token; or a tag, where a mark is a part of a name or a value.
pub data OpenToken : Type 0 where
  InText : OpenToken
  InTag : OpenToken

-- What an event does to the token that is open: it is a part of it; it says nothing, as a comment does, so that the texts on its two sides
-- are one; or it ends it and is a token by itself, behind which this is open. What has no line of its own is a token by itself, so nothing
-- that is told is lost.
pub data Grouping : Type 0 where
  GoesOn : Grouping
  SaysNothing : Grouping
  StandsAlone : OpenToken → Grouping

abbrev pub grouping : OpenToken → LexEvent → Grouping
grouping InText (TextByte b) = GoesOn
grouping InText Mark = GoesOn
grouping InText Comment = SaysNothing
grouping here StartTagBegins = StandsAlone InTag
grouping here EndTagBegins = StandsAlone InTag
grouping here (TagEnds closes) = StandsAlone InText
grouping here e = StandsAlone here

-- the tokens that an event ends, and what is open behind it, with its text so far
abbrev pub ended_tokens : Grouping → List LexEvent → LexEvent → List Token
ended_tokens GoesOn front e = []
ended_tokens SaysNothing front e = []
ended_tokens (StandsAlone behind) front e = text_token front ++ (OtherToken e ∷ [])

abbrev pub open_next : Grouping → OpenToken → OpenToken
open_next GoesOn here = here
open_next SaysNothing here = here
open_next (StandsAlone behind) here = behind

abbrev pub front_behind : Grouping → List LexEvent → LexEvent → List LexEvent
front_behind GoesOn front e = front ++ e ∷ []
front_behind SaysNothing front e = front
front_behind (StandsAlone behind) front e = []

-- what was told, in order, by what is open and after a text so far
abbrev pub tokens_from : OpenToken → List LexEvent → List LexEvent → List Token
tokens_from here front [] = text_token front
tokens_from here front (e ∷ t) = ended_tokens (grouping here e) front e ++ tokens_from (open_next (grouping here e) here) (front_behind (grouping here e) front e) t

-- the shape of what was read
abbrev pub shape_of : Config ValueState → List Token
shape_of c = tokens_from InText [] (reverse c.emitted)
