-- Where a page's reading stands for a path, and what follows. So nobody has to trust the definition of that: it holds where both begin, it holds
-- after all pieces that are accepted, and where it holds the page has told what the path has told.
use Rattle.std.specs.Prelude.{◌≡◌, not, Bool, true, false, codes, List}
use Rattle.css_lexer.specs.States.{Comment, StarAtCut, Out}
use Rattle.js_lexer.specs.Holes.{script_has_mark}
use Rattle.place_core.specs.page.Contents.{pending_bytes}
use Rattle.place_core.specs.page.Events.{LexEvent}
use Rattle.place_core.specs.page.Html.{start}
use Rattle.place_core.specs.place.Membership.{IsIn}
use Rattle.place_core.specs.page.Paths.{read_path}
use Rattle.place_core.specs.place.Places.{IsValid}
use Rattle.place_core.specs.page.References.{Reference, Closed, Open}
use Rattle.place_core.specs.page.Shape.{PageReads, shape_of}
use Rattle.place_core.specs.page.States.{LexState, Text, TagOpen, EndTagOpen, DeclarationOpen, InComment, WholeTagName, WholeAttributeName, AttributeValue, Content, Characters, Bytes, InLanguage, Pending, Nothing, LessAtCut, InContent, Config, config}
use Rattle.place_core.specs.page.Tags.{Value, ValueOf, Deciding, ValueState, OfKind, OfUrl, OfStyle, OfScript, languages, emits_fed}
use Rattle.place_core.specs.declared.place.Place.{Place}
use Rattle.place_core.specs.declared.place.Place.TheVariants as place
use Rattle.text_norm.specs.Pieces.{TextPiece, AreAccepted, ArePlainIn, page_of, path_of}
use Rattle.text_norm.specs.Standing.{TextStands, page}

-- A path and its page begin in text, having told nothing. There the page stands for the path.
abbrev pub StandsAtStart : Type 0
StandsAtStart = IsIn place.Text start.at × TextStands languages start.at start.emitted start

-- after pieces that a path and a page have read
pub record StandsBehind (pieces : List TextPiece) (q : Place) (c d : Config ValueState) : Type 0 where
  pub valid : IsValid q
  pub is_in : IsIn q (read_path languages (path_of pieces) c).at
  pub plain : ArePlainIn (page_of pieces) d
  pub end : Config ValueState
  pub reads : PageReads (page_of pieces) d end
  pub stands : TextStands languages (read_path languages (path_of pieces) c).at (read_path languages (path_of pieces) c).emitted end

-- Where it stands for a path before pieces that are accepted, it stands for it after them: the place after them stands for the path, and each
-- hole of theirs is plain.
abbrev pub StandsSomewhere : Type 0
StandsSomewhere = (pieces : List TextPiece) (p q : Place) (c d : Config ValueState) → IsValid p → IsIn p c.at → AreAccepted pieces p q
    → TextStands languages c.at c.emitted d → StandsBehind pieces q c d

-- Where it stands for a path that is at a place, as at the end of each text, the page has told what the path has. In the element of a style or a script a `<` may
-- be pending back from the page, which the style or the script has then told; and in a comment of it the page tells by a space what the path has told.
abbrev pub told_of_content : Content ValueState → Pending → List LexEvent → List LexEvent
told_of_content (InLanguage v) h t = emits_fed languages v (pending_bytes h) t
told_of_content y h t = t

abbrev pub told_there : Config ValueState → LexState ValueState → List LexEvent
told_there d (InContent e y h) = told_of_content y h d.emitted
told_there d s = d.emitted

abbrev pub in_comment_of_element : LexState ValueState → Bool
in_comment_of_element (InContent e (InLanguage (OfStyle (Out (Comment star)))) h) = true
in_comment_of_element (InContent e (InLanguage (OfStyle (Out StarAtCut))) h) = true
in_comment_of_element (InContent e (InLanguage (OfScript s)) h) = not (script_has_mark s)
in_comment_of_element s = false

abbrev pub told_beside : Bool → Config ValueState → List LexEvent
told_beside true d = (page languages (codes " ") d).emitted
told_beside false d = told_there d d.at

abbrev pub EmitsTheSame : Type 0
EmitsTheSame = (p : Place) (s : LexState ValueState) (t : List LexEvent) (d : Config ValueState) → IsIn p s → TextStands languages s t d
    → told_beside (in_comment_of_element s) d ≡ t

-- Whether nothing is pending back from the page at a state. Pending back are a reference, a `<`, a comment, and that a name is at its end: where the end
-- of a text has ended it, or it is a hole, the page is in that name still. In a data block nothing is; but where a text has ended in `<`, the page's
-- state is another one than the path's. In a URL, in a style, in a value or in its element, and in a script, the page's state need not be the path's either: it
-- is one that is alike.
abbrev pub is_closed : Reference → Bool
is_closed Closed = true
is_closed (Open f bytes) = false

abbrev pub value_holds_nothing : Value ValueState → Reference → Bool
value_holds_nothing (ValueOf (OfKind k)) r = is_closed r
value_holds_nothing (ValueOf (OfUrl u)) r = false
value_holds_nothing (ValueOf (OfStyle s)) r = false
value_holds_nothing (ValueOf (OfScript s)) r = false
value_holds_nothing (Deciding k before) r = is_closed r

abbrev pub holds_nothing : LexState ValueState → Bool
holds_nothing (Text r) = is_closed r
holds_nothing (TagOpen r) = false
holds_nothing (EndTagOpen r) = false
holds_nothing (DeclarationOpen r pending) = false
holds_nothing (InComment s) = false
holds_nothing (WholeTagName tag) = false
holds_nothing (WholeAttributeName tag k) = false
holds_nothing (AttributeValue q tag v r) = value_holds_nothing v r
holds_nothing (InContent e (Characters r) Nothing) = is_closed r
holds_nothing (InContent e Bytes LessAtCut) = false
holds_nothing (InContent e Bytes h) = true
holds_nothing (InContent e y h) = false
holds_nothing s = true

-- There the page is in the path's very state, and has told the same. So it is at the place text, where pages end.
abbrev pub StandsWhereNothingIsPending : Type 0
StandsWhereNothingIsPending =
    ((s : LexState ValueState) (t : List LexEvent) (d : Config ValueState) → holds_nothing s ≡ true → TextStands languages s t d → d ≡ config s t)
    × ((s : LexState ValueState) → IsIn place.Text s → holds_nothing s ≡ true)

-- A whole page of a path, from text to text. Its reading, each hole of it as a mark, comes to where the path comes and to nothing else; so its
-- shape is the path's own.
pub record IsReadAsPath (pieces : List TextPiece) : Type 0 where
  pub in_text : (read_path languages (path_of pieces) start).at ≡ Text Closed
  pub plain : ArePlainIn (page_of pieces) start
  pub reads : PageReads (page_of pieces) start (read_path languages (path_of pieces) start)
  pub no_other : (end : Config ValueState) → PageReads (page_of pieces) start end → end ≡ read_path languages (path_of pieces) start
  pub shape : (end : Config ValueState) → PageReads (page_of pieces) start end → shape_of end ≡ shape_of (read_path languages (path_of pieces) start)

abbrev pub PagesReadAsPaths : Type 0
PagesReadAsPaths = (pieces : List TextPiece) → AreAccepted pieces place.Text place.Text → IsReadAsPath pieces
