-- The place of a path: what is kept of the state that it has come to. Inside a lexeme, such as a name or a reference, it has none.
use Rattle.std.specs.Prelude.{Bool, true, false, Option, Some, None, option_map, if◌then◌else◌}
use Rattle.place_core.specs.page.References.{Reference, Closed, Open}
use Rattle.place_core.specs.page.States.{LexState, Text, TagOpen, EndTagOpen, DeclarationOpen, CommentState, Started, StartedDash, Inside, Dash, DashDash, Bang, Broken, InComment, BogusComment, InDoctype, TagName, WholeTagName, BeforeAttributeName, AttributeName, WholeAttributeName, AfterAttributeName, BeforeAttributeValue, AttributeValue, AfterAttributeValue, SelfClosingStartTag, Content, Characters, Bytes, InLanguage, Pending, Nothing, LessAtCut, InContent}
use Rattle.place_core.specs.page.Tags.{Tag, is_second_type, Value, ValueOf, Deciding, ValueState, OfKind, OfUrl, OfStyle, OfScript, languages, attribute_value_of, without_value, Quoting, DoubleQuoted, SingleQuoted, Unquoted}
use Rattle.place_core.specs.place.ScriptParts.{script_body, script_body_before, script_js}
use Rattle.place_core.specs.place.StyleParts.{style_body, style_css}
use Rattle.place_core.specs.place.UrlParts.{parts_of}
use Rattle.url_lexer.specs.Spots.{url_spot}
use Rattle.place_core.specs.declared.body.Body.{Body}
use Rattle.place_core.specs.declared.body.Body.TheVariants as body
use Rattle.place_core.specs.declared.element.Element.{Element}
use Rattle.place_core.specs.declared.element.Element.TheVariants as element
use Rattle.place_core.specs.declared.kind.Kind.{Kind}
use Rattle.place_core.specs.declared.kind.Kind.TheVariants as kind
use Rattle.place_core.specs.declared.place.Place.{Place}
use Rattle.place_core.specs.declared.place.Place.TheVariants as place
use Rattle.place_core.specs.declared.quotes.Quotes.{Quotes}
use Rattle.place_core.specs.declared.quotes.Quotes.TheVariants as quotes
use Rattle.place_core.specs.declared.spots.Spots.{Spots}
use Rattle.place_core.specs.declared.tag_place.TagPlace.{TagPlace}

-- the one spot of a path in a tag
abbrev pub only_name : Spots
only_name = record { name = true; before = false; inside = false; after = false }

abbrev pub only_before : Spots
only_before = record { name = false; before = true; inside = false; after = false }

abbrev pub only_inside : Spots
only_inside = record { name = false; before = false; inside = true; after = false }

abbrev pub only_after : Spots
only_after = record { name = false; before = false; inside = false; after = true }

-- A `type` has been seen also where only its name has been read.
abbrev pub is_typed_after : Tag → Option Kind → Bool
is_typed_after t None = t.typed
is_typed_after t (Some k) = (without_value t k).typed

abbrev pub tag_spot : Tag → Spots → Option Kind → TagPlace
tag_spot t spots k = record { tag = t.tag; typed = is_typed_after t k; spots = spots; kind = k }

-- Where a second `type` of a script has been read, which is refused, a path is at no place.
abbrev pub unless_second_type : Tag → Kind → Place → Option Place
unless_second_type t k p = if is_second_type t.typed k then None else Some p

-- The body of a value, by the state of its language. In a URL it is the part, and in a style or a script what is kept
-- where a node ends; inside a percent triple, and inside a lexeme of a style or a script, there is none.
abbrev pub body_at : ValueState → Option Body
body_at (OfKind kind.Plain) = Some body.Plain
body_at (OfKind kind.NoHole) = Some body.NoHole
body_at (OfKind kind.Url) = None
body_at (OfKind kind.Script) = None
body_at (OfKind kind.Style) = None
body_at (OfKind kind.ScriptType) = None
body_at (OfUrl u) = option_map (λ p. body.Url (parts_of p)) (url_spot u)
body_at (OfStyle s) = style_body s
body_at (OfScript s) = script_body s

-- The body that is shown before a byte of a text: where the text would end there. In a script it is shown within more lexemes.
abbrev pub body_before : ValueState → Option Body
body_before (OfScript s) = script_body_before s
body_before v = body_at (languages.after_cut v)

abbrev pub value_body : Value ValueState → Option Body
value_body (ValueOf v) = body_at v
value_body (Deciding k before) = None

abbrev pub value_body_before : Value ValueState → Option Body
value_body_before (ValueOf v) = body_before v
value_body_before (Deciding k before) = None

abbrev pub value_spot : Tag → Quotes → Option Body → Option Place
value_spot t q None = None
value_spot t q (Some b) = Some (place.Value (record { tag = t.tag; typed = t.typed; quotes = q; body = b }))

abbrev pub quotes_at : Quoting → Quotes
quotes_at DoubleQuoted = quotes.Dq
quotes_at SingleQuoted = quotes.Sq
quotes_at Unquoted = quotes.Bare (record { uq = true; unbegun = false })

abbrev pub unbegun : Quotes
unbegun = quotes.Bare (record { uq = false; unbegun = true })

abbrev pub comment_place : CommentState → Option Place
comment_place Inside = Some (place.Comment false)
comment_place Broken = Some (place.Comment true)
comment_place Started = None
comment_place StartedDash = None
comment_place Dash = None
comment_place DashDash = None
comment_place Bang = None

abbrev pub content_place : Element → Option Place
content_place element.Title = Some (place.Rcdata element.Title)
content_place element.Textarea = Some (place.Rcdata element.Textarea)
content_place element.DataBlock = None
content_place element.Script = None
content_place element.Style = None
content_place element.Other = None

abbrev pub where_closed : Reference → Option Place → Option Place
where_closed Closed o = o
where_closed (Open f bytes) o = None

abbrev pub block_place : Element → Bool → Option Place
block_place element.DataBlock lt = Some (place.Block lt)
block_place e lt = None

abbrev pub language_place : Element → ValueState → Option Place
language_place element.Style (OfStyle s) = option_map place.Style (style_css s)
language_place element.Script (OfScript s) = option_map place.Script (script_js s)
language_place e v = None

abbrev pub content_spot : Pending → Content ValueState → Element → Option Place
content_spot Nothing (Characters r) e = where_closed r (content_place e)
content_spot Nothing Bytes e = block_place e false
content_spot Nothing (InLanguage v) e = language_place e v
content_spot LessAtCut Bytes e = block_place e true
content_spot h y e = None

abbrev pub placed : LexState ValueState → Option Place
placed (Text r) = where_closed r (Some place.Text)
placed (TagOpen r) = None
placed (EndTagOpen r) = None
placed (DeclarationOpen r pending) = None
placed (InComment s) = comment_place s
placed BogusComment = None
placed InDoctype = Some place.Doctype
placed (TagName ends name) = None
placed (WholeTagName t) = Some (place.Tag (tag_spot t only_name None))
placed (BeforeAttributeName t) = Some (place.Tag (tag_spot t only_before None))
placed (AttributeName t name) = None
placed (WholeAttributeName t k) = unless_second_type t k (place.Tag (tag_spot t only_inside (Some k)))
placed (AfterAttributeName t k) = unless_second_type t k (place.Tag (tag_spot t only_after (Some k)))
placed (BeforeAttributeValue t k) = value_spot t unbegun (value_body (attribute_value_of languages k))
placed (AttributeValue q t v r) = where_closed r (value_spot t (quotes_at q) (value_body v))
placed (AfterAttributeValue t) = Some (place.Tag (tag_spot t only_before None))
placed (SelfClosingStartTag t) = Some (place.Tag (tag_spot t only_before None))
placed (InContent e y h) = content_spot h y e
