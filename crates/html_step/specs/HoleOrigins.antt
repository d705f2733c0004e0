-- Which member of a place a member after a hole comes from, and which ones show that a hole is refused, or an escaper.
use Rattle.std.specs.Prelude.{is_some, Result, Err, if◌then◌else◌}
use Rattle.place_core.specs.declared.body.Body.{Body}
use Rattle.place_core.specs.declared.body.Body.TheVariants as body
use Rattle.place_core.specs.declared.code.Code.{Code}
use Rattle.place_core.specs.declared.code.Code.TheVariants as code
use Rattle.place_core.specs.declared.css.Css.{Css}
use Rattle.place_core.specs.declared.css.Css.TheVariants as css
use Rattle.place_core.specs.declared.js.Js.{Js}
use Rattle.place_core.specs.declared.js.Js.TheVariants as js
use Rattle.place_core.specs.declared.member.Member.{Member}
use Rattle.place_core.specs.declared.member.Member.TheVariants as member
use Rattle.place_core.specs.declared.parts.Parts.{Parts}
use Rattle.place_core.specs.declared.place.Place.{Place}
use Rattle.place_core.specs.declared.place.Place.TheVariants as place
use Rattle.place_core.specs.declared.quotes.Quotes.{Quotes}
use Rattle.place_core.specs.declared.quotes.Quotes.TheVariants as quotes
use Rattle.url_step.specs.PartSets.{hole_answer}
use Rattle.html_step.specs.Laws.{EvidenceData, one, two}
use Rattle.html_step.specs.Origins.{in_value_origin, typed_origin}
use Rattle.html_step.specs.declared.escaper.Escaper.{Escaper}
use Rattle.html_step.specs.declared.escaper.Escaper.TheVariants as escaper

-- In a URL a path that is in the beginning behind the hole comes from the first of these parts that is there; the other parts stay as they are.
abbrev pub part_hole_origin : Parts → Member → Member
part_hole_origin s member.PartOpenhole =
    if s.start then member.PartStart else (if is_some s.opened then member.PartOpen else member.PartOpenhole)
part_hole_origin s y = y

-- In a style all paths are in a word behind a hole, and a URL that has not begun begins with it; the rest stays as it is.
abbrev pub word_hole_origin : Member → Member
word_hole_origin member.CssWord = member.Whole
word_hole_origin y = y

abbrev pub fresh_hole_origin : Member → Member
fresh_hole_origin member.PartOpenhole = member.Whole
fresh_hole_origin y = y

abbrev pub css_hole_origin : Css → Member → Member
css_hole_origin (css.Code x) y = word_hole_origin y
css_hole_origin css.UrlFresh y = fresh_hole_origin y
css_hole_origin (css.Url s) y = part_hole_origin s y
css_hole_origin (css.UrlDq s) y = part_hole_origin s y
css_hole_origin (css.UrlSq s) y = part_hole_origin s y
css_hole_origin c y = y

-- In the code of a script a slash divides on all paths behind a hole; the rest stays as it is.
abbrev pub slash_hole_origin : Member → Member
slash_hole_origin member.SenseDiv = member.Whole
slash_hole_origin y = y

abbrev pub js_hole_origin : Js → Member → Member
js_hole_origin (js.Code s x) y = slash_hole_origin y
js_hole_origin j y = y

abbrev pub body_hole_origin : Body → Member → Member
body_hole_origin (body.Url s) y = part_hole_origin s y
body_hole_origin (body.Css c) y = css_hole_origin c y
body_hole_origin (body.Js j) y = js_hole_origin j y
body_hole_origin b y = y

-- a value without quotes has begun after the hole, and else the place stays as it is
abbrev pub quotes_origin : Quotes → Member → Member
quotes_origin quotes.Dq y = y
quotes_origin quotes.Sq y = y
quotes_origin (quotes.Bare b) y = in_value_origin y

abbrev pub hole_origin : Place → Member → Member
hole_origin (place.Tag t) y = typed_origin y
hole_origin (place.Value v) y = body_hole_origin v.body (quotes_origin v.quotes y)
hole_origin (place.Style c) y = css_hole_origin c y
hole_origin (place.Script j) y = js_hole_origin j y
hole_origin p y = y

-- Where several parts of a URL are there, the first two of them: the first one behind each, and so these two.
abbrev pub behind_prequery : Parts → Member
behind_prequery p = if p.query then member.PartQuery else member.PartBad

abbrev pub behind_openhole : Parts → Member
behind_openhole p = if p.prequery then member.PartPrequery else behind_prequery p

abbrev pub behind_open : Parts → Member
behind_open p = if p.openhole then member.PartOpenhole else behind_openhole p

abbrev pub behind_start : Parts → Member
behind_start p = if is_some p.opened then member.PartOpen else behind_open p

abbrev pub first_two : Parts → EvidenceData
first_two p =
    if p.start then two member.PartStart (behind_start p)
    else (if is_some p.opened then two member.PartOpen (behind_open p)
    else (if p.openhole then two member.PartOpenhole (behind_openhole p)
    else (if p.prequery then two member.PartPrequery (behind_prequery p) else two member.PartQuery member.PartBad)))

-- in a URL several parts are refused together, and else each path behind a scheme that is code
abbrev pub url_hole_shows : Result Parts Code → Parts → EvidenceData
url_hole_shows (Err code.AmbigContext) p = first_two p
url_hole_shows o p = one member.PartBad

-- likewise in a URL of a style; behind one each path is refused
abbrev pub css_hole_shows : Css → EvidenceData
css_hole_shows (css.Url p) = url_hole_shows (hole_answer p) p
css_hole_shows (css.UrlDq p) = url_hole_shows (hole_answer p) p
css_hole_shows (css.UrlSq p) = url_hole_shows (hole_answer p) p
css_hole_shows c = one member.Whole

abbrev pub value_hole_shows : Body → EvidenceData
value_hole_shows (body.Url p) = url_hole_shows (hole_answer p) p
value_hole_shows (body.Css c) = css_hole_shows c
value_hole_shows b = one member.Whole

-- in a name the hole would go on with it, and in a data block with a `<`; elsewhere each path is refused
abbrev pub hole_shows : Place → EvidenceData
hole_shows (place.Tag t) = one (if t.spots.name then member.NameSpot else member.InsideSpot)
hole_shows (place.Block lt) = one member.BlockLt
hole_shows (place.Value v) = value_hole_shows v.body
hole_shows (place.Style c) = css_hole_shows c
hole_shows p = one member.Whole

-- In a URL the first part of it that is not its query shows that a value is not written as in one; elsewhere no path is in a query.
abbrev pub parts_show : Parts → Member
parts_show p = if p.start then member.PartStart else (if is_some p.opened then member.PartOpen else (if p.openhole then member.PartOpenhole
    else (if p.prequery then member.PartPrequery else (if p.bad then member.PartBad else member.Whole))))

abbrev pub css_shows : Css → Member
css_shows (css.Url p) = parts_show p
css_shows (css.UrlDq p) = parts_show p
css_shows (css.UrlSq p) = parts_show p
css_shows c = member.Whole

abbrev pub body_shows : Body → Member
body_shows (body.Url p) = parts_show p
body_shows (body.Css c) = css_shows c
body_shows b = member.Whole

abbrev pub query_shows : Place → Member
query_shows (place.Value v) = body_shows v.body
query_shows (place.Style c) = css_shows c
query_shows p = member.Whole

-- a value is written as text on all paths that a place stands for, or on none
abbrev pub escape_shows : Place → Escaper → Member
escape_shows p escaper.Html = member.Whole
escape_shows p escaper.Urlquery = query_shows p
