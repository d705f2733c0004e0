-- Which member of a place a member after a text comes from, and which one shows that a text is refused.
use Rattle.std.specs.Prelude.{ℕ, Bool, true, false, List, [], ◌∷◌, ◌++◌, codes, Option, Some, None, option_map, is_some, if◌then◌else◌}
use Rattle.css_lexer.specs.Classes.{style_class}
use Rattle.css_lexer.specs.declared.class.StyleClass.{StyleClass}
use Rattle.css_lexer.specs.declared.class.StyleClass.TheVariants as style
use Rattle.css_step.specs.StyleOrigins.{scan_set_has, style_scan_parts}
use Rattle.css_step.specs.StyleScans.{StyleScan, ScanCode, ScanSplitEscape, ScanStarBefore, ScanBareUrl, ScanQuotedUrl, style_scan_next, style_scan_start}
use Rattle.js_lexer.specs.Refusals.{Cause as ScriptCause}
use Rattle.js_step.specs.ScriptEvidence.{script_shown_by, script_split_shows}
use Rattle.js_step.specs.ScriptOrigins.{script_set_has}
use Rattle.js_step.specs.ScriptScans.{ScriptScan, script_scan_cut_error, script_scan_end_error, script_scan_error, script_scan_start}
use Rattle.place_core.specs.page.Classes.{Class, White, QuotationMark, Apostrophe, Solidus, LessThan, EqualsSign, GreaterThan, Letter, class_of}
use Rattle.place_core.specs.page.Contents.{ScriptStep, Reads, EndsContent, is_name_of, may_be_name_of, pending_bytes}
use Rattle.place_core.specs.page.References.{Reference, Closed, undone_byte, as_it_stands}
use Rattle.place_core.specs.page.States.{Pending, Nothing, PendingLess, LessAtCut, PendingName, PendingBang, PendingBangDash, PendingOpening}
use Rattle.place_core.specs.page.Tags.{feed_bytes}
use Rattle.place_core.specs.place.Errors.{FedByte, PathCause, at_value_end, body_error, step_asks, value_end_cause}
use Rattle.place_core.specs.declared.body.Body.{Body}
use Rattle.place_core.specs.declared.body.Body.TheVariants as body
use Rattle.place_core.specs.declared.code.Code.{Code}
use Rattle.place_core.specs.declared.code.Code.TheVariants as code
use Rattle.place_core.specs.declared.element.Element.TheVariants as element
use Rattle.place_core.specs.declared.member.Member.{Member}
use Rattle.place_core.specs.declared.member.Member.TheVariants as member
use Rattle.place_core.specs.declared.parts.Parts.{Parts}
use Rattle.place_core.specs.declared.place.Place.{Place}
use Rattle.place_core.specs.declared.place.Place.TheVariants as place
use Rattle.place_core.specs.declared.quotes.Quotes.{Quotes}
use Rattle.place_core.specs.declared.quotes.Quotes.TheVariants as quotes
use Rattle.place_core.specs.declared.spots.Spots.{Spots}
use Rattle.place_core.specs.declared.value_place.ValuePlace.{ValuePlace}
use Rattle.html_scan.specs.Scans.{Scan, At, InAttributeName, InUrl, InStyle, InScript, InScriptElement, InStyleElement, script_scan_step, all_scripts, body_cause, ends_quoted, quoted_error, quoted_places, scan_error, scan_next, script_fed_byte, script_feeding, style_feeding}
use Rattle.html_step.specs.Laws.{EvidenceData, one, two, apart}
use Rattle.url_lexer.specs.Classes.{url_class_of}
use Rattle.url_lexer.specs.declared.class.UrlClass.{UrlClass}
use Rattle.url_lexer.specs.declared.class.UrlClass.TheVariants as class
use Rattle.url_step.specs.PartSets.{parts_next, spells_apart}

-- In a URL, the part before a byte that a part behind it comes from: the first of those in which paths are, and from which a path comes there. Behind
-- a `:`, a `/`, a `?` or `#`, and behind another character, which begins a URL.
abbrev pub colon_origin : Parts → Member → Member
colon_origin s member.PartPrequery = if s.start then member.PartStart else (if s.prequery then member.PartPrequery else member.PartOpen)
colon_origin s member.PartBad = if s.bad then member.PartBad else member.PartOpen
colon_origin s y = y

abbrev pub slash_origin : Parts → Member → Member
slash_origin s member.PartPrequery =
    if s.start then member.PartStart
    else (if is_some s.opened then member.PartOpen else (if s.openhole then member.PartOpenhole else member.PartPrequery))
slash_origin s y = y

abbrev pub mark_origin : Parts → Member → Member
mark_origin s member.PartQuery =
    if s.start then member.PartStart
    else (if is_some s.opened then member.PartOpen
    else (if s.openhole then member.PartOpenhole else (if s.prequery then member.PartPrequery else member.PartQuery)))
mark_origin s y = y

abbrev pub character_origin : Parts → Member → Member
character_origin s member.PartOpen = if s.start then member.PartStart else member.PartOpen
character_origin s y = y

abbrev pub part_origin : Parts → UrlClass → Member → Member
part_origin s class.TabOrNewline y = y
part_origin s class.ControlOrSpace y = y
part_origin s class.Colon y = colon_origin s y
part_origin s class.Slash y = slash_origin s y
part_origin s class.QueryMark y = mark_origin s y
part_origin s c y = character_origin s y

-- the one before several bytes that a URL is fed; the other members come from themselves
abbrev pub fed_origin : List ℕ → Parts → Member → Member
fed_origin [] s y = y
fed_origin (b ∷ bs) s y = part_origin s (url_class_of b) (fed_origin bs (parts_next s (url_class_of b) b) y)

-- In a style, the member before a byte that one behind it comes from: a part of a URL from a part, where the URL has begun; and that a word may be one
-- from before the text, from itself. All else that is behind the byte is so on all paths.
abbrev pub style_part_origin : Option Parts → ℕ → Member → Member
style_part_origin (Some s) b y = part_origin s (url_class_of b) y
style_part_origin None b y = member.Whole

abbrev pub style_byte_origin : StyleScan → ℕ → Member → Member
style_byte_origin n b member.Typed = member.Typed
style_byte_origin n b member.CssWord = member.CssWord
style_byte_origin n b member.PartStart = style_part_origin (style_scan_parts n) b member.PartStart
style_byte_origin n b member.PartOpen = style_part_origin (style_scan_parts n) b member.PartOpen
style_byte_origin n b member.PartOpenhole = style_part_origin (style_scan_parts n) b member.PartOpenhole
style_byte_origin n b member.PartPrequery = style_part_origin (style_scan_parts n) b member.PartPrequery
style_byte_origin n b member.PartQuery = style_part_origin (style_scan_parts n) b member.PartQuery
style_byte_origin n b member.PartBad = style_part_origin (style_scan_parts n) b member.PartBad
style_byte_origin n b y = member.Whole

-- likewise before several bytes that a style is fed
abbrev pub style_fed_origin : List ℕ → StyleScan → Member → Member
style_fed_origin [] n y = y
style_fed_origin (b ∷ bs) n y = style_byte_origin n b (style_fed_origin bs (style_scan_next n (style_class b) b) y)

-- In a script, the member before the bytes that it is fed: what the scan state has as a set comes from itself, and all else is so on all paths.
abbrev pub typed_origin : Member → Member
typed_origin member.Typed = member.Typed
typed_origin y = member.Whole

abbrev pub script_origin : ScriptScan → Member → Member
script_origin n y = if script_set_has n y then y else typed_origin y

abbrev pub body_origin : Body → List ℕ → Member → Member
body_origin (body.Url s) bytes y = fed_origin bytes s y
body_origin (body.Css c) bytes y = style_fed_origin bytes (style_scan_start c) y
body_origin (body.Js j) bytes y = script_origin (script_scan_start j) y
body_origin x bytes y = y

-- White space in a tag leads from a name to before one, and from in a name to after one.
abbrev pub white_origin : Spots → Member → Member
white_origin s member.Typed = member.Typed
white_origin s member.BeforeSpot = if s.name then member.NameSpot else member.BeforeSpot
white_origin s member.AfterSpot = if s.inside then member.InsideSpot else member.AfterSpot
white_origin s y = member.Whole

-- Elsewhere in a tag only that a `type` may have been seen stays as it is; all else holds of each path.
abbrev pub tag_origin : Class → Spots → Member → Member
tag_origin White s y = white_origin s y
tag_origin c s y = typed_origin y

abbrev pub name_origin : Bool → Member
name_origin typed = if typed then member.Typed else member.Whole

-- In a value so do the parts of a URL, and what the paths of a style ended in, which come from those before the bytes that it is fed. White space and
-- quotes before a value are not fed.
abbrev pub in_value_origin : Member → Member
in_value_origin member.PartStart = member.PartStart
in_value_origin member.PartOpen = member.PartOpen
in_value_origin member.PartOpenhole = member.PartOpenhole
in_value_origin member.PartPrequery = member.PartPrequery
in_value_origin member.PartQuery = member.PartQuery
in_value_origin member.PartBad = member.PartBad
in_value_origin member.CssWord = member.CssWord
in_value_origin member.CssSlash = member.CssSlash
in_value_origin member.CssLt = member.CssLt
in_value_origin member.CssStar = member.CssStar
in_value_origin member.SenseRe = member.SenseRe
in_value_origin member.SenseDiv = member.SenseDiv
in_value_origin member.SenseBrace = member.SenseBrace
in_value_origin member.JsWord = member.JsWord
in_value_origin member.JsNum = member.JsNum
in_value_origin member.JsLt = member.JsLt
in_value_origin member.JsSlash = member.JsSlash
in_value_origin member.JsPlus = member.JsPlus
in_value_origin member.JsMinus = member.JsMinus
in_value_origin member.JsHash = member.JsHash
in_value_origin member.RegexpSlash = member.RegexpSlash
in_value_origin member.JsStar = member.JsStar
in_value_origin y = typed_origin y

-- In a value that is no script nothing is said of a slash, which is so behind its tag alone: where that enters the content of a script.
abbrev pub unsensed : Member → Member
unsensed member.SenseRe = member.Whole
unsensed y = y

abbrev pub in_body_origin : Body → Member → Member
in_body_origin (body.Js j) y = in_value_origin y
in_body_origin x y = unsensed (in_value_origin y)

abbrev pub fed_in : Quotes → Reference → Class → ℕ → List ℕ
fed_in (quotes.Bare s) r White b = []
fed_in (quotes.Bare s) r QuotationMark b = []
fed_in (quotes.Bare s) r Apostrophe b = []
fed_in q r c b = undone_byte true r c b

abbrev pub value_origin : ValuePlace → Reference → Class → ℕ → Member → Member
value_origin v r c b y = body_origin v.body (fed_in v.quotes r c b) (in_body_origin v.body y)

abbrev pub style_value_origin : ValuePlace → StyleScan → Reference → Class → ℕ → Member → Member
style_value_origin v s r c b y = style_fed_origin (fed_in v.quotes r c b) s (unsensed (in_value_origin y))

-- In the element `style`: the bytes that the style is fed at a byte, those first that were pending back and come to nothing. A `<` is pending itself.
abbrev pub loose_fed : Class → ℕ → List ℕ
loose_fed LessThan b = []
loose_fed c b = b ∷ []

abbrev pub less_fed : Class → ℕ → List ℕ
less_fed Solidus b = []
less_fed c b = codes "<" ++ loose_fed c b

abbrev pub end_name_fed : (grows whole : Bool) → Class → ℕ → List ℕ → List ℕ
end_name_fed true whole (Letter l) b letters = []
end_name_fed grows true White b letters = []
end_name_fed grows true Solidus b letters = []
end_name_fed grows true GreaterThan b letters = []
end_name_fed grows whole c b letters = (codes "</" ++ letters) ++ loose_fed c b

abbrev pub element_fed : Pending → Class → ℕ → List ℕ
element_fed Nothing c b = loose_fed c b
element_fed PendingLess c b = less_fed c b
element_fed LessAtCut c b = codes "<" ++ loose_fed c b
element_fed (PendingName letters) c b =
    end_name_fed (may_be_name_of element.Style (letters ++ b ∷ [])) (is_name_of element.Style letters) c b letters
element_fed PendingBang c b = codes "<!" ++ loose_fed c b
element_fed PendingBangDash c b = codes "<!-" ++ loose_fed c b
element_fed (PendingOpening letters) c b = (codes "<" ++ letters) ++ loose_fed c b

-- in the element `script`, by what the byte does there: what the script is asked of
abbrev pub step_asked : ScriptStep → List ℕ
step_asked (Reads bytes h) = step_asks bytes h
step_asked (EndsContent letters) = []

-- Behind these bytes nothing has changed, but that the name of its end tag may have ended, behind which all is so on each path.
abbrev pub end_name_origin : (whole : Bool) → Class → Member → Member
end_name_origin true White y = member.Whole
end_name_origin true Solidus y = member.Whole
end_name_origin true GreaterThan y = member.Whole
end_name_origin whole c y = y

abbrev pub element_origin : Pending → Class → Member → Member
element_origin (PendingName letters) c y = end_name_origin (is_name_of element.Style letters) c y
element_origin h c y = y

abbrev pub step_origin : ScriptStep → Member → Member
step_origin (Reads bytes h) y = y
step_origin (EndsContent letters) y = member.Whole

-- The member that a member after a byte comes from: behind the bytes that a value or a style is fed, and before them.
abbrev pub place_origin : Place → Class → Member → Member
place_origin (place.Tag t) c y = tag_origin c t.spots y
place_origin (place.Value v) c y = in_body_origin v.body y
place_origin (place.Style p) c y = y
place_origin (place.Script j) c y = y
place_origin _ c y = member.Whole

abbrev pub behind_origin : Scan → Class → ℕ → Member → Member
behind_origin (At p) c b y = place_origin p c y
behind_origin (InAttributeName t typed name) c b y = name_origin typed
behind_origin (InUrl v t r) c b y = in_body_origin v.body y
behind_origin (InStyle v s r) c b y = unsensed (in_value_origin y)
behind_origin (InScript v n r) c b y = in_value_origin y
behind_origin (InStyleElement s h) c b y = element_origin h c y
behind_origin (InScriptElement n h) c b y = step_origin (script_scan_step n h c b) y
behind_origin f c b y = member.Whole

abbrev pub place_fed_origin : Place → Class → ℕ → Member → Member
place_fed_origin (place.Value v) c b y = body_origin v.body (fed_in v.quotes Closed c b) y
place_fed_origin (place.Style p) c b y = style_fed_origin (loose_fed c b) (style_scan_start p) y
place_fed_origin (place.Script j) c b y = script_origin (script_scan_start j) y
place_fed_origin p c b y = y

abbrev pub scan_fed_origin : Scan → Class → ℕ → Member → Member
scan_fed_origin (At p) c b y = place_fed_origin p c b y
scan_fed_origin (InUrl v t r) c b y = body_origin v.body (fed_in v.quotes r c b) y
scan_fed_origin (InStyle v s r) c b y = style_fed_origin (fed_in v.quotes r c b) s y
scan_fed_origin (InScript v n r) c b y = script_origin n y
scan_fed_origin (InStyleElement s h) c b y = style_fed_origin (element_fed h c b) s y
scan_fed_origin (InScriptElement n h) c b y = script_origin n y
scan_fed_origin f c b y = y

abbrev pub byte_origin : Scan → Class → ℕ → Member → Member
byte_origin f c b y = scan_fed_origin f c b (behind_origin f c b y)

-- The one before the end of a text. In a style what the scan state has as a set stays as it is, and what the place there has else is so on all paths.
abbrev pub style_end_origin : StyleScan → Member → Member
style_end_origin n y = if scan_set_has n y then y else typed_origin y

-- before the bytes that it is fed there
abbrev pub style_ends_origin : StyleScan → List ℕ → Member → Member
style_ends_origin s bytes y = style_fed_origin bytes s (style_end_origin (feed_bytes style_feeding s bytes) y)

abbrev pub end_origin : Scan → Member → Member
end_origin (At p) y = y
end_origin (InAttributeName t typed name) y = name_origin typed
end_origin (InUrl v t r) y = body_origin v.body (as_it_stands r) y
end_origin (InStyle v s r) y = style_ends_origin s (as_it_stands r) y
end_origin (InScript v n r) y = script_origin n y
end_origin (InStyleElement s h) y = style_ends_origin s (pending_bytes h) y
end_origin (InScriptElement n h) y = script_origin n y
end_origin f y = member.Whole

-- the one before a text
abbrev pub origin : List ℕ → Scan → Member → Member
origin [] f y = end_origin f y
origin (b ∷ bs) f y = byte_origin f (class_of b) b (origin bs (scan_next f (class_of b) b) y)

-- The member that shows why a byte is refused in a tag: the spot at which it is; else each path is refused.
abbrev pub tag_shows : Class → Spots → Member
tag_shows White s = member.Whole
tag_shows Solidus s = member.Whole
tag_shows GreaterThan s = member.Whole
tag_shows EqualsSign s = if s.name then member.NameSpot else (if s.before then member.BeforeSpot else member.Whole)
tag_shows QuotationMark s = if s.name then member.NameSpot else member.Whole
tag_shows Apostrophe s = if s.name then member.NameSpot else member.Whole
tag_shows LessThan s = if s.name then member.NameSpot else member.Whole
tag_shows c s = if s.name then member.NameSpot else member.InsideSpot

-- likewise, and in a value without quotes: a quotation mark is refused where the value has begun, white space where paths stand at both
abbrev pub bare_shows : Class → EvidenceData
bare_shows White = two member.UnquotedValue member.UnbegunValue
bare_shows QuotationMark = one member.UnquotedValue
bare_shows Apostrophe = one member.UnquotedValue
bare_shows c = one member.Whole

abbrev pub quotes_show : Option Code → Quotes → Class → EvidenceData
quotes_show (Some e) q c = one member.Whole
quotes_show None (quotes.Bare b) c = bare_shows c
quotes_show None q c = one member.Whole

-- The parts of a URL at which a scan state stands; and whether paths in its beginning have spelled different things.
abbrev pub body_parts : Body → Option Parts
body_parts (body.Url s) = Some s
body_parts (body.Css c) = style_scan_parts (style_scan_start c)
body_parts x = None

abbrev pub place_parts : Place → Option Parts
place_parts (place.Value v) = body_parts v.body
place_parts (place.Style c) = style_scan_parts (style_scan_start c)
place_parts p = None

abbrev pub scan_parts : Scan → Option Parts
scan_parts (At p) = place_parts p
scan_parts (InUrl v t r) = body_parts v.body
scan_parts (InStyle v s r) = style_scan_parts s
scan_parts (InStyleElement s h) = style_scan_parts s
scan_parts f = None

abbrev pub is_apart : Option Parts → Bool
is_apart (Some s) = spells_apart s.opened
is_apart None = false

-- What a URL refuses: on each path a reference by a name that stands for no character; a `:` behind a hole, or where paths have spelled different
-- things. These come apart where a URL begins on one path and has begun on the other, so two paths show it together where they come apart in the
-- bytes that are fed before the `:`.
abbrev pub colon_shows : Parts → EvidenceData
colon_shows s = if s.openhole then one member.PartOpenhole else (if spells_apart s.opened then apart else two member.PartStart member.PartOpen)

abbrev pub url_shows : Parts → Code → EvidenceData
url_shows s code.BadHTML = one member.Whole
url_shows s e = colon_shows s

-- What a style refuses of a byte: what would go on with what some path ended in, or what its URL refuses; else each path is refused.
abbrev pub style_tails_show : StyleClass → Member
style_tails_show style.Asterisk = member.CssSlash
style_tails_show style.Solidus = member.CssLt
style_tails_show c = member.CssWord

abbrev pub style_url_shows : Parts → Code → EvidenceData
style_url_shows s code.AmbigContext = colon_shows s
style_url_shows s e = one member.Whole

abbrev pub style_byte_shows : StyleScan → StyleClass → Code → EvidenceData
style_byte_shows (ScanCode x) c e = one (style_tails_show c)
style_byte_shows (ScanSplitEscape k) c e = one member.CssWord
style_byte_shows ScanStarBefore c e = one member.CssStar
style_byte_shows (ScanBareUrl s t) c e = style_url_shows s e
style_byte_shows (ScanQuotedUrl q k s t) c e = style_url_shows s e
style_byte_shows n c e = one member.Whole

-- Of several bytes that it is fed, the first one that is refused. The members that show it are so before all of them; that paths met apart they show
-- where it was so before them, and else two members do, as in a URL.
abbrev pub first_shown : Option EvidenceData → Option EvidenceData → Option EvidenceData
first_shown (Some x) o = Some x
first_shown None o = o

abbrev pub style_byte_shown : StyleScan → ℕ → Option EvidenceData
style_byte_shown n b = option_map (style_byte_shows n (style_class b)) (style_feeding.refuses n b)

abbrev pub style_fed_shown : List ℕ → StyleScan → Option EvidenceData
style_fed_shown [] n = None
style_fed_shown (b ∷ bs) n = first_shown (style_byte_shown n b) (style_fed_shown bs (style_scan_next n (style_class b) b))

abbrev pub met_before : Option Parts → Option EvidenceData → EvidenceData
met_before o None = one member.Whole
met_before o (Some apart) = if is_apart o then apart else two member.PartStart member.PartOpen
met_before o (Some x) = x

abbrev pub fed_shows : StyleScan → List ℕ → EvidenceData
fed_shows n bytes = met_before (style_scan_parts n) (style_fed_shown bytes n)

-- these bytes, or before them a reference by a name that stands for no character
abbrev pub style_shows : StyleScan → List ℕ → Code → EvidenceData
style_shows n bytes code.BadHTML = one member.Whole
style_shows n bytes e = fed_shows n bytes

-- What a script refuses of the bytes that it is fed, the first of them, or behind them of its end: by members before all of them. A slash that begins a
-- regular expression on some paths and divides on others two members show.
abbrev pub script_evidence : Option Member → EvidenceData
script_evidence (Some y) = one y
script_evidence None = two member.SenseDiv member.SenseRe

abbrev pub script_byte_shown : (element : Bool) → ScriptScan → ℕ → Option EvidenceData
script_byte_shown element n b = option_map (λ e. script_evidence (script_shown_by n (script_split_shows n b) e.refusal)) (script_scan_error element n b)

abbrev pub script_told_shown : (element : Bool) → (ScriptScan → Option ScriptCause) → List ℕ → ScriptScan → Option EvidenceData
script_told_shown element ends [] n = option_map (λ e. script_evidence (script_shown_by n member.Whole e.refusal)) (ends n)
script_told_shown element ends (b ∷ bs) n = first_shown (script_byte_shown element n b) (script_told_shown element ends bs (script_fed_byte n b))

abbrev pub script_back : ScriptScan → EvidenceData → EvidenceData
script_back n (one y) = one (script_origin n y)
script_back n (two x y) = two (script_origin n x) (script_origin n y)
script_back n apart = apart

abbrev pub script_shows : (element : Bool) → (ScriptScan → Option ScriptCause) → List ℕ → ScriptScan → Option EvidenceData
script_shows element ends bytes n = option_map (script_back n) (script_told_shown element ends bytes n)

-- in the element, of the bytes that it is asked at a byte, and of the script that the end tag ends
abbrev pub ends_by_step : ScriptStep → ScriptScan → Option ScriptCause
ends_by_step (Reads bytes h) n = None
ends_by_step (EndsContent letters) n = script_scan_end_error n

abbrev pub script_step_shown : ScriptStep → ScriptScan → Option EvidenceData
script_step_shown step n = script_shows true (ends_by_step step) (step_asked step) n

-- at a byte of the text, which may end the value
abbrev pub bytes_of_places : List FedByte → List ℕ
bytes_of_places [] = []
bytes_of_places (x ∷ xs) = x.byte ∷ bytes_of_places xs

abbrev pub script_value_ends : (ends : Bool) → ScriptScan → Option ScriptCause
script_value_ends ends n = at_value_end (value_end_cause all_scripts ends n)

abbrev pub script_step_shows : Quotes → ScriptScan → Reference → Class → ℕ → Option EvidenceData
script_step_shows q n r c b = script_shows false (script_value_ends (ends_quoted q c)) (bytes_of_places (quoted_places q 0 r c b)) n

abbrev pub begun_script_shows : Body → Quotes → Class → ℕ → Option EvidenceData
begun_script_shows (body.Js j) q c b = script_step_shows q (script_scan_start j) Closed c b
begun_script_shows x q c b = None

abbrev pub script_shown : Scan → Class → ℕ → Option EvidenceData
script_shown (At (place.Value v)) c b = begun_script_shows v.body v.quotes c b
script_shown (At (place.Script j)) c b = script_step_shown (script_scan_step (script_scan_start j) Nothing c b) (script_scan_start j)
script_shown (InScript v n r) c b = script_step_shows v.quotes n r c b
script_shown (InScriptElement n h) c b = script_step_shown (script_scan_step n h c b) n
script_shown f c b = None

-- What the language of a value refuses of the bytes that it is fed.
abbrev pub body_refusal_shows : Body → List ℕ → Code → EvidenceData
body_refusal_shows (body.Url s) bytes e = url_shows s e
body_refusal_shows (body.Css c) bytes e = style_shows (style_scan_start c) bytes e
body_refusal_shows x bytes e = one member.Whole

abbrev pub body_or_quotes : Option PathCause → Body → List ℕ → EvidenceData → EvidenceData
body_or_quotes (Some e) x bytes later = body_refusal_shows x bytes e.code
body_or_quotes None x bytes later = later

abbrev pub value_shows : ValuePlace → Reference → Class → ℕ → EvidenceData
value_shows v r c b = body_or_quotes (body_cause v.body v.quotes r c b) v.body (undone_byte true r c b) (quotes_show (body_error v.body) v.quotes c)

abbrev pub style_or_quotes : Option PathCause → StyleScan → List ℕ → EvidenceData → EvidenceData
style_or_quotes (Some e) n bytes later = style_shows n bytes e.code
style_or_quotes None n bytes later = later

abbrev pub style_value_shows : ValuePlace → StyleScan → Reference → Class → ℕ → EvidenceData
style_value_shows v n r c b = style_or_quotes (quoted_error style_feeding v.quotes n r c b) n (undone_byte true r c b) (quotes_show None v.quotes c)

-- Where a script refuses none of them, a reference by a name that stands for no character is, or what its quotes refuse.
abbrev pub name_or_quotes : Option PathCause → EvidenceData → EvidenceData
name_or_quotes (Some e) later = one member.Whole
name_or_quotes None later = later

abbrev pub script_value_shows : ValuePlace → ScriptScan → Reference → Class → ℕ → EvidenceData
script_value_shows v n r c b = name_or_quotes (quoted_error script_feeding v.quotes n r c b) (quotes_show None v.quotes c)

abbrev pub place_shows : Place → Class → ℕ → EvidenceData
place_shows (place.Comment dash) c b = one member.CommentDash
place_shows (place.Tag t) c b = one (tag_shows c t.spots)
place_shows (place.Value v) c b = value_shows v Closed c b
place_shows (place.Block lt) c b = one member.BlockLt
place_shows (place.Style p) c b = fed_shows (style_scan_start p) (loose_fed c b)
place_shows _ c b = one member.Whole

abbrev pub byte_shows : Scan → Class → ℕ → EvidenceData
byte_shows (At p) c b = place_shows p c b
byte_shows (InAttributeName t typed name) c b = one (name_origin typed)
byte_shows (InUrl v t r) c b = value_shows v r c b
byte_shows (InStyle v s r) c b = style_value_shows v s r c b
byte_shows (InScript v n r) c b = script_value_shows v n r c b
byte_shows (InStyleElement s h) c b = fed_shows s (element_fed h c b)
byte_shows f c b = one member.Whole

-- The end of a text is refused in a name, and elsewhere on each path; in a style a reference with which it ends is read as text, and in the element
-- what is pending back.
abbrev pub shown_member : Option EvidenceData → Member
shown_member (Some (one x)) = x
shown_member o = member.Whole

abbrev pub end_shows : Scan → Member
end_shows (InAttributeName t typed name) = name_origin typed
end_shows (InStyle v s r) = shown_member (style_fed_shown (as_it_stands r) s)
end_shows (InStyleElement s h) = shown_member (style_fed_shown (pending_bytes h) s)
end_shows f = member.Whole

-- What shows the refusal of a text, by members before it. That two paths met apart they show where it was so before, and else two members do, on
-- whose paths the byte makes them come apart.
abbrev pub back_by : Scan → Class → ℕ → EvidenceData → EvidenceData
back_by f c b (one x) = one (byte_origin f c b x)
back_by f c b (two x y) = two (byte_origin f c b x) (byte_origin f c b y)
back_by f c b apart = if is_apart (scan_parts f) then apart else two member.PartStart member.PartOpen

abbrev pub unless_shown : Option PathCause → EvidenceData → EvidenceData → EvidenceData
unless_shown (Some e) here later = here
unless_shown None here later = later

abbrev pub or_evidence : Option EvidenceData → EvidenceData → EvidenceData
or_evidence (Some x) later = x
or_evidence None later = later

-- at the end of a text
abbrev pub script_end_shown : Scan → Option EvidenceData
script_end_shown (InScript v n r) = script_shows false script_scan_cut_error (as_it_stands r) n
script_end_shown (InScriptElement n h) = script_shows true script_scan_cut_error (pending_bytes h) n
script_end_shown f = None

abbrev pub shows : List ℕ → Scan → EvidenceData
shows [] f = or_evidence (script_end_shown f) (one (end_shows f))
shows (b ∷ bs) f =
    or_evidence (script_shown f (class_of b) b)
    (unless_shown (scan_error f (class_of b) b) (byte_shows f (class_of b) b) (back_by f (class_of b) b (shows bs (scan_next f (class_of b) b))))
