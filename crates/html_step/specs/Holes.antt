-- A value of data at a place: what is done to it, and the place after it, or why none may stand there; and where a template may name an escaper.
use Rattle.std.specs.Prelude.{Bool, true, false, not, is_none, ◌||◌, ◌&&◌, [], ◌∷◌, ◌++◌, Some, Result, Ok, Err}
use Rattle.place_core.specs.place.StatePlaces.{only_inside}
use Rattle.place_core.specs.declared.body.Body.{Body}
use Rattle.place_core.specs.declared.body.Body.TheVariants as body
use Rattle.place_core.specs.declared.chain.Chain.{Chain}
use Rattle.place_core.specs.declared.code.Code.{Code}
use Rattle.place_core.specs.declared.code.Code.TheVariants as code
use Rattle.place_core.specs.declared.css.Css.{Css}
use Rattle.place_core.specs.declared.css.Css.TheVariants as css
use Rattle.place_core.specs.declared.js.Js.{Js}
use Rattle.place_core.specs.declared.kind.Kind.TheVariants as kind
use Rattle.place_core.specs.declared.parts.Parts.{Parts}
use Rattle.place_core.specs.declared.place.Place.{Place}
use Rattle.place_core.specs.declared.place.Place.TheVariants as place
use Rattle.place_core.specs.declared.quotes.Quotes.{Quotes}
use Rattle.place_core.specs.declared.quotes.Quotes.TheVariants as quotes
use Rattle.place_core.specs.declared.san.San.{San}
use Rattle.place_core.specs.declared.san.San.TheVariants as san
use Rattle.place_core.specs.declared.tag_place.TagPlace.{TagPlace}
use Rattle.place_core.specs.declared.value_place.ValuePlace.{ValuePlace}
use Rattle.html_scan.specs.Scans.{bare_begun}
use Rattle.css_step.specs.StyleChains.{style_hole_with_chain, style_sans}
use Rattle.css_step.specs.StyleScanViews.{style_hole_answer}
use Rattle.js_step.specs.ScriptSanitizers.{script_sanitizer}
use Rattle.js_step.specs.ScriptScans.{script_at_hole}
use Rattle.url_step.specs.Chains.{chain_of}
use Rattle.url_step.specs.PartSets.{hole_answer, part_sans}
use Rattle.html_step.specs.declared.escaper.Escaper.{Escaper}
use Rattle.html_step.specs.declared.escaper.Escaper.TheVariants as escaper

abbrev pub Holed : Type 0
Holed = Result (Place × Chain) Code

-- a chain of one sanitizer, of two, and of three
abbrev pub only : San → Chain
only s = chain_of (s ∷ [])

abbrev pub both_of : San → San → Chain
both_of s t = chain_of (s ∷ t ∷ [])

abbrev pub all_of : San → San → San → Chain
all_of s t u = chain_of (s ∷ t ∷ u ∷ [])

-- The name of an attribute, which is a plain one: where paths stand in a name, the value would go on with it.
abbrev pub named_by_data : Bool → TagPlace → Holed
named_by_data true t = Err code.SplitToken
named_by_data false t = Ok (place.Tag (record { tag = t.tag; typed = t.typed; spots = only_inside; kind = Some kind.Plain }), only san.AttrName)

-- in a value that is read as text, by its quotes
abbrev pub plain_hole : Quotes → ValuePlace → Holed
plain_hole quotes.Dq v = Ok (place.Value v, only san.Attr)
plain_hole quotes.Sq v = Ok (place.Value v, only san.Attr)
plain_hole (quotes.Bare b) v = Ok (place.Value (record { tag = v.tag; typed = v.typed; quotes = bare_begun; body = v.body }), only san.AttrNospace)

-- In a URL the last sanitizer is that of the value's quotes; without quotes the value has begun.
abbrev pub last_of : Quotes → San
last_of quotes.Dq = san.Attr
last_of quotes.Sq = san.Attr
last_of (quotes.Bare b) = san.AttrNospace

abbrev pub holed_quotes : Quotes → Quotes
holed_quotes quotes.Dq = quotes.Dq
holed_quotes quotes.Sq = quotes.Sq
holed_quotes (quotes.Bare b) = bare_begun

-- Where all paths are in one part of the URL, the sanitizers of that part, and the last one.
abbrev pub url_chain : Parts → San → Chain
url_chain p last = chain_of (part_sans p ++ last ∷ [])

abbrev pub url_holed : ValuePlace → Parts → Result Parts Code → Holed
url_holed v before (Ok after) =
    Ok (place.Value (record { tag = v.tag; typed = v.typed; quotes = holed_quotes v.quotes; body = body.Url after }), url_chain before (last_of v.quotes))
url_holed v before (Err e) = Err e

-- In a style the last sanitizer is that of the value's quotes too; before it stand those of the place in the style.
abbrev pub css_chain : Css → San → Chain
css_chain c last = chain_of (style_sans c ++ last ∷ [])

abbrev pub css_holed : ValuePlace → Css → Result Css Code → Holed
css_holed v before (Ok after) =
    Ok (place.Value (record { tag = v.tag; typed = v.typed; quotes = holed_quotes v.quotes; body = body.Css after }), css_chain before (last_of v.quotes))
css_holed v before (Err e) = Err e

-- In a script each hole is accepted. Its last sanitizer is that of the value's quotes.
abbrev pub js_holed : ValuePlace → Js → Holed
js_holed v j =
    Ok (
      place.Value (record { tag = v.tag; typed = v.typed; quotes = holed_quotes v.quotes; body = body.Js (script_at_hole j) }),
      both_of (script_sanitizer j) (last_of v.quotes),
    )

abbrev pub value_hole : Body → ValuePlace → Holed
value_hole body.Plain v = plain_hole v.quotes v
value_hole body.NoHole v = Err code.BadHTML
value_hole (body.Url parts) v = url_holed v parts (hole_answer parts)
value_hole (body.Js j) v = js_holed v j
value_hole (body.Css css) v = css_holed v css (style_hole_answer css)

-- In the element `style` no quotes stand around the style: its chain is the whole one.
abbrev pub element_holed : Result (Css × Chain) Code → Holed
element_holed (Ok held) = Ok (place.Style held.0, held.1)
element_holed (Err e) = Err e

-- in a data block, where no node has ended in `<`
abbrev pub block_hole : Bool → Holed
block_hole true = Err code.SplitToken
block_hole false = Ok (place.Block false, only san.Html)

abbrev pub after_hole : Place → Holed
after_hole place.Text = Ok (place.Text, only san.Html)
after_hole place.Doctype = Err code.BadHTML
after_hole (place.Comment dash) = Ok (place.Comment dash, only san.Drop)
after_hole (place.Rcdata e) = Ok (place.Rcdata e, only san.Html)
after_hole (place.Tag t) = named_by_data (t.spots.name || t.spots.inside) t
after_hole (place.Value v) = value_hole v.body v
after_hole (place.Script js) = Ok (place.Script (script_at_hole js), only (script_sanitizer js))
after_hole (place.Style css) = element_holed (style_hole_with_chain css (style_hole_answer css))
after_hole (place.Block lt) = block_hole lt

-- Text, and values with quotes that are read as text, are where a value is written as text; the query of a URL is where it is written so.
abbrev pub is_only_query : Parts → Bool
is_only_query p = p.query && (not p.start && (is_none p.opened && (not p.openhole && (not p.prequery && not p.bad))))

abbrev pub css_query : Css → Bool
css_query (css.Url p) = is_only_query p
css_query (css.UrlDq p) = is_only_query p
css_query (css.UrlSq p) = is_only_query p
css_query (css.Code tails) = false
css_query css.Dq = false
css_query css.Sq = false
css_query css.UrlFresh = false
css_query css.UrlEnd = false
css_query (css.Comment star) = false

abbrev pub body_query : Body → Bool
body_query (body.Url p) = is_only_query p
body_query (body.Css c) = css_query c
body_query body.Plain = false
body_query body.NoHole = false
body_query (body.Js js) = false

abbrev pub in_query : Place → Bool
in_query (place.Value v) = body_query v.body
in_query (place.Style c) = css_query c
in_query place.Text = false
in_query place.Doctype = false
in_query (place.Comment dash) = false
in_query (place.Rcdata e) = false
in_query (place.Tag t) = false
in_query (place.Script js) = false
in_query (place.Block lt) = false

abbrev pub is_quoted : Quotes → Bool
is_quoted quotes.Dq = true
is_quoted quotes.Sq = true
is_quoted (quotes.Bare b) = false

abbrev pub plain_text : Body → Quotes → Bool
plain_text body.Plain q = is_quoted q
plain_text body.NoHole q = false
plain_text (body.Url p) q = false
plain_text (body.Js js) q = false
plain_text (body.Css css) q = false

abbrev pub as_text : Place → Bool
as_text place.Text = true
as_text (place.Rcdata e) = true
as_text (place.Block lt) = true
as_text (place.Value v) = plain_text v.body v.quotes
as_text place.Doctype = false
as_text (place.Comment dash) = false
as_text (place.Tag t) = false
as_text (place.Script js) = false
as_text (place.Style css) = false

abbrev pub may_escape : Place → Escaper → Bool
may_escape p escaper.Html = as_text p
may_escape p escaper.Urlquery = in_query p
