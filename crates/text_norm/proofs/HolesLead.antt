-- Wherever a hole may stand on a path, what its sanitizer promises leads the page on.
use Rattle.std.proofs.Common.{◌≡◌, ℕ, Bool, true, false, List, [], ◌∷◌, Option, Some, None, option_map, if◌then◌else◌, Ok, Err, refl, sym, subst, true≢false, ◌||◌}
use Rattle.std.proofs.lemmas.Bool.{and_parts}
use Rattle.html_step.proofs.HoleOrder.{covers-hole}
use Rattle.html_step.specs.Holes.{Holed, after_hole, both_of, last_of, url_chain}
use Rattle.js_lexer.specs.BackLaws.{TakesData, behind_slash, in_code, in_regexp, in_string}
use Rattle.js_lexer.specs.Holes.{script_after_hole, script_has_mark_at}
use Rattle.js_lexer.specs.Refusals.{is_cut_markup, within_escape}
use Rattle.js_lexer.specs.Spots.{BlockSpot, CodeSpot, LineSpot, RegexpSpot, MinusTail, NumberTail, PlusTail, SlashTail, Spot, StringSpot, Tail, WordTail, script_spot, spot_at, tail_of, unless_within}
use Rattle.js_lexer.specs.States.{At, BlockComment, Code, InRegexp, InTemplate, LineComment, Minuses, Number, Pluses, ScriptState, Slash, TooDeep, Trail}
use Rattle.js_lexer.specs.States as script
use Rattle.js_lexer.specs.Steps.{sense_if_odd}
use Rattle.js_lexer.specs.Words.{sense_after}
use Rattle.js_lexer.specs.declared.sense.Sense.{Sense}
use Rattle.js_lexer.specs.declared.sense.Sense.TheVariants as sense
use Rattle.js_step.specs.ScriptSanitizers.{script_sanitizer}
use Rattle.page_datum.specs.Data.{Data}
use Rattle.page_datum.specs.Printed.{printed}
use Rattle.place_core.specs.page.Events.{LexEvent}
use Rattle.place_core.specs.place.Membership.{IsIn}
use Rattle.place_core.specs.page.Paths.{at_hole}
use Rattle.place_core.specs.place.Places.{IsValid}
use Rattle.place_core.specs.page.References.{Closed, Reference}
use Rattle.place_core.specs.place.ScriptParts.{is_trail_of_cut, may_begin_text_at, script_may_begin_text, script_place}
use Rattle.place_core.specs.place.StatePlaces.{content_spot, only_after, only_inside, placed, tag_spot, quotes_at, value_body, value_spot, where_closed}
use Rattle.place_core.specs.page.States.{AfterAttributeName, AfterAttributeValue, AttributeName, AttributeValue, BeforeAttributeName, BeforeAttributeValue, Broken, Bytes, Characters, Config, Content, InLanguage, Pending, InComment, InContent, Inside, LessAtCut, Nothing, SelfClosingStartTag, LexState, Text, WholeAttributeName}
use Rattle.place_core.specs.page.Tags.{DoubleQuoted, Quoting, SingleQuoted, Tag, Unquoted, Value, ValueOf, ValueState, OfKind, OfStyle, OfUrl, is_second_type, languages, without_value, OfScript}
use Rattle.place_core.specs.place.StyleParts.{style_body, style_css}
use Rattle.place_core.specs.place.UrlParts.{parts_of}
use Rattle.css_lexer.specs.Escapes.{NoEscape, AfterBackslash, HexDigits, AfterReturn}
use Rattle.css_lexer.specs.PartSpots.{has_read_nothing, is_at_start, is_no_triple, is_scheme_ahead}
use Rattle.css_lexer.specs.Paths.{has_mark}
use Rattle.css_lexer.specs.ReadBack.{IsBackInCode}
use Rattle.css_lexer.specs.States.{Quote, DoubleQuote, SingleQuote, Outside, Between, AfterLessThan, Word, AfterSolidus, Comment, InString, BadUrl, BehindHole, SplitWord, SolidusAtCut, LessThanAtCut, StarAtCut, Fresh, Bare, Quoted, Ended, Style, Out, InUrl}
use Rattle.css_lexer.specs.Urls.{urls}
use Rattle.place_core.specs.declared.body.Body.TheVariants as body
use Rattle.place_core.specs.declared.chain.Chain.{Chain}
use Rattle.place_core.specs.declared.css.Css.TheVariants as css
use Rattle.place_core.specs.declared.element.Element.{Element}
use Rattle.place_core.specs.declared.element.Element.TheVariants as element
use Rattle.place_core.specs.declared.kind.Kind.{Kind}
use Rattle.place_core.specs.declared.kind.Kind.TheVariants as kind
use Rattle.place_core.specs.declared.place.Place.{Place}
use Rattle.place_core.specs.declared.place.Place.TheVariants as place
use Rattle.san_html.specs.ReadBack.{as_name, in_block, in_rcdata}
use Rattle.url_lexer.specs.Parts.{UrlPart, UrlStart, UrlOpen, UrlOpenhole, UrlPrequery, UrlQuery, UrlBad}
use Rattle.url_lexer.specs.Refusals.{refuses_hole_in}
use Rattle.url_lexer.specs.Schemes.{UrlScheme}
use Rattle.url_lexer.specs.Spots.{where_whole}
use Rattle.url_lexer.specs.States.{Url, url_at}
use Rattle.url_lexer.specs.Triples.{Triple, NoTriple, AfterPercent, AfterDigit}
use Rattle.text_norm.proofs.FilledMarks.{Leads, StandsRaw, block-leads, content-leads, double-leads, in_plain, in_style, in_url, leads-on, marked-is, name-leads, single-leads, text-leads, unbegun-leads, unquoted-leads, url-begun-leads, url-leads}
use Rattle.text_norm.proofs.ScriptElementLeads.{script-element-leads, script-raw-stays}
use Rattle.text_norm.proofs.ScriptElementPromises.{script-element-hole, script_element_chain}
use Rattle.text_norm.proofs.ScriptLeads as scripts
use Rattle.text_norm.proofs.ScriptLeads.{SiteFills, in_script, plain-first, plain-within, regexp-leads, script-begun-leads}
use Rattle.text_norm.proofs.StyleElementHoles.{IsLoose}
use Rattle.text_norm.proofs.StyleElementLeads.{element-code-leads, element-string-leads, element-url-leads}
use Rattle.text_norm.proofs.StyleElementPromises.{part_chain}
use Rattle.text_norm.proofs.StyleHoles.{IsCode, at-start, no-triple}
use Rattle.text_norm.proofs.StyleLeads.{CodeFills, IsCodeState, code-leads, comment-leads, string-leads, style-begun-leads, url-style-leads}
use Rattle.text_norm.specs.Fillings.{Filling, ScriptCodeSite, fillings_at}
use Rattle.text_norm.specs.HoleLaws.{IsBackBy, IsBackInElement, IsBackInLanguage, leaves_out}
use Rattle.text_norm.specs.Standing.{TextStands, in_element}

-- What the chain promises leads the page on. A value that is left out has no part: the reading with marks stays where it is, and so does that of
-- bytes alone.
abbrev pub LeadsUnless : Bool → LexState ValueState → List ℕ → List ℕ → Type 0
LeadsUnless true s text bytes =
    (vs : List Filling) (t : List LexEvent) (m d : Config ValueState) → TextStands languages s t m → StandsRaw s vs m d
    → StandsRaw (at_hole languages s) (fillings_at s text vs) m d
LeadsUnless false s text bytes = Leads s text bytes

abbrev LeadsBy : Chain → LexState ValueState → Type 0
LeadsBy c s = (datum : Data) (bytes : List ℕ) → IsBackBy c datum bytes → LeadsUnless (leaves_out c) s (printed datum) bytes

abbrev SafeBy : LexState ValueState → Holed → Type 0
SafeBy s (Ok h) = LeadsBy h.1 s
SafeBy s (Err e) = Unit {0}

abbrev SafeAt : LexState ValueState → Option Place → Type 0
SafeAt s (Some p) = SafeBy s (after_hole p)
SafeAt s None = Unit {0}

-- In the element of a style, by the state of the path: none may stand within a lexeme, and behind a URL; in a comment a value is left out.
abbrev in_style_element : Style Url → LexState ValueState
in_style_element v = in_element element.Style (OfStyle v) Nothing

abbrev SafeInElement : Style Url → Type 0
SafeInElement v = SafeAt (in_style_element v) (option_map place.Style (style_css v))

code-element-safe : (v : Outside) → IsCodeState v → IsCode v → IsLoose (Out v) → CodeFills v → has_mark {U = Url} (Out v) ≡ true → (datum : Data) (bytes : List ℕ)
    → IsBackInElement (IsBackInCode urls (printed datum)) bytes → Leads (in_style_element (Out v)) (printed datum) bytes
code-element-safe v c i o own m datum bytes k = element-code-leads element.Style v c i o own m (printed datum) bytes k

fresh-element-leads : (u : Url) (datum : Data) (bytes : List ℕ) → has_read_nothing u ≡ true → IsBackBy (part_chain UrlStart) datum bytes
    → Leads (in_style_element (InUrl Fresh u)) (printed datum) bytes
fresh-element-leads u datum bytes e k =
    let first = and_parts (is_at_start u.part) _ e in
    let second = and_parts (is_scheme_ahead u.scheme) _ first.1 in
    let third = and_parts _ (is_no_triple u.triple) second.1 in
    let part = at-start u.part first.0 in
    element-url-leads element.Style Fresh u tt datum bytes (no-triple u.triple third.1) (subst (λ (p : UrlPart). refuses_hole_in p ≡ None) (sym part) refl)
    (subst (λ (p : UrlPart). IsBackBy (part_chain p) datum bytes) (sym part) k)

fresh-element : (b : Bool) (u : Url) → has_read_nothing u ≡ b → SafeAt (in_style_element (InUrl Fresh u)) (option_map place.Style (if b then Some css.UrlFresh else None))
fresh-element false u e = tt
fresh-element true u e = λ datum bytes k. fresh-element-leads u datum bytes e k

bare-element : (p : UrlPart) (s : UrlScheme) (free : Bool) (t : Triple) → SafeInElement (InUrl Bare (url_at p s free t))
bare-element UrlStart s free NoTriple = λ datum bytes k. element-url-leads element.Style Bare (url_at UrlStart s free NoTriple) tt datum bytes refl refl k
bare-element (UrlOpen p) s free NoTriple = λ datum bytes k. element-url-leads element.Style Bare (url_at (UrlOpen p) s free NoTriple) tt datum bytes refl refl k
bare-element UrlOpenhole s free NoTriple = λ datum bytes k. element-url-leads element.Style Bare (url_at UrlOpenhole s free NoTriple) tt datum bytes refl refl k
bare-element UrlPrequery s free NoTriple = λ datum bytes k. element-url-leads element.Style Bare (url_at UrlPrequery s free NoTriple) tt datum bytes refl refl k
bare-element UrlQuery s free NoTriple = λ datum bytes k. element-url-leads element.Style Bare (url_at UrlQuery s free NoTriple) tt datum bytes refl refl k
bare-element UrlBad s free NoTriple = tt
bare-element p s free AfterPercent = tt
bare-element p s free AfterDigit = tt

quoted-element-leads : (j : Quote) (u : Url) (datum : Data) (bytes : List ℕ) → u.triple ≡ NoTriple → refuses_hole_in u.part ≡ None → IsBackBy (part_chain u.part) datum bytes
    → Leads (in_style_element (InUrl (Quoted j NoEscape) u)) (printed datum) bytes
quoted-element-leads j u datum bytes t n k = element-url-leads element.Style (Quoted j NoEscape) u tt datum bytes t n k

quoted-element : (j : Quote) (p : UrlPart) (s : UrlScheme) (free : Bool) (t : Triple) → SafeInElement (InUrl (Quoted j NoEscape) (url_at p s free t))
quoted-element DoubleQuote UrlStart s free NoTriple = λ datum bytes k. quoted-element-leads DoubleQuote (url_at UrlStart s free NoTriple) datum bytes refl refl k
quoted-element DoubleQuote (UrlOpen p) s free NoTriple = λ datum bytes k. quoted-element-leads DoubleQuote (url_at (UrlOpen p) s free NoTriple) datum bytes refl refl k
quoted-element DoubleQuote UrlOpenhole s free NoTriple = λ datum bytes k. quoted-element-leads DoubleQuote (url_at UrlOpenhole s free NoTriple) datum bytes refl refl k
quoted-element DoubleQuote UrlPrequery s free NoTriple = λ datum bytes k. quoted-element-leads DoubleQuote (url_at UrlPrequery s free NoTriple) datum bytes refl refl k
quoted-element DoubleQuote UrlQuery s free NoTriple = λ datum bytes k. quoted-element-leads DoubleQuote (url_at UrlQuery s free NoTriple) datum bytes refl refl k
quoted-element DoubleQuote UrlBad s free NoTriple = tt
quoted-element SingleQuote UrlStart s free NoTriple = λ datum bytes k. quoted-element-leads SingleQuote (url_at UrlStart s free NoTriple) datum bytes refl refl k
quoted-element SingleQuote (UrlOpen p) s free NoTriple = λ datum bytes k. quoted-element-leads SingleQuote (url_at (UrlOpen p) s free NoTriple) datum bytes refl refl k
quoted-element SingleQuote UrlOpenhole s free NoTriple = λ datum bytes k. quoted-element-leads SingleQuote (url_at UrlOpenhole s free NoTriple) datum bytes refl refl k
quoted-element SingleQuote UrlPrequery s free NoTriple = λ datum bytes k. quoted-element-leads SingleQuote (url_at UrlPrequery s free NoTriple) datum bytes refl refl k
quoted-element SingleQuote UrlQuery s free NoTriple = λ datum bytes k. quoted-element-leads SingleQuote (url_at UrlQuery s free NoTriple) datum bytes refl refl k
quoted-element SingleQuote UrlBad s free NoTriple = tt
quoted-element j p s free AfterPercent = tt
quoted-element j p s free AfterDigit = tt

element-safe : (v : Style Url) → SafeInElement v
element-safe (Out (Between k)) = λ datum bytes b. code-element-safe (Between k) tt tt tt (λ q text vs. refl) refl datum bytes b
element-safe (Out AfterLessThan) = tt
element-safe (Out (Word w e)) = tt
element-safe (Out (AfterSolidus k)) = tt
element-safe (Out (Comment true)) = tt
element-safe (Out (Comment false)) = λ datum bytes b vs t m d l r. r
element-safe (Out (InString DoubleQuote NoEscape)) = λ datum bytes b. element-string-leads element.Style DoubleQuote (printed datum) bytes b
element-safe (Out (InString SingleQuote NoEscape)) = λ datum bytes b. element-string-leads element.Style SingleQuote (printed datum) bytes b
element-safe (Out (InString j AfterBackslash)) = tt
element-safe (Out (InString j (HexDigits n))) = tt
element-safe (Out (InString j AfterReturn)) = tt
element-safe (Out BadUrl) = tt
element-safe (Out (BehindHole solidus less)) = λ datum bytes b. code-element-safe (BehindHole solidus less) tt tt tt (λ q text vs. refl) refl datum bytes b
element-safe (Out (SplitWord NoEscape)) = λ datum bytes b. code-element-safe (SplitWord NoEscape) tt tt tt (λ q text vs. refl) refl datum bytes b
element-safe (Out (SplitWord AfterBackslash)) = tt
element-safe (Out (SplitWord (HexDigits n))) = tt
element-safe (Out (SplitWord AfterReturn)) = tt
element-safe (Out (SolidusAtCut k)) = λ datum bytes b. code-element-safe (SolidusAtCut k) tt tt tt (λ q text vs. refl) refl datum bytes b
element-safe (Out LessThanAtCut) = λ datum bytes b. code-element-safe LessThanAtCut tt tt tt (λ q text vs. refl) refl datum bytes b
element-safe (Out StarAtCut) = λ datum bytes b vs t m d l r. r
element-safe (InUrl Fresh u) = fresh-element (has_read_nothing u) u refl
element-safe (InUrl Bare u) = bare-element u.part u.scheme u.free u.triple
element-safe (InUrl (Quoted j NoEscape) u) = quoted-element j u.part u.scheme u.free u.triple
element-safe (InUrl (Quoted j AfterBackslash) u) = tt
element-safe (InUrl (Quoted j (HexDigits n)) u) = tt
element-safe (InUrl (Quoted j AfterReturn) u) = tt
element-safe (InUrl Ended u) = tt

-- in a URL, by its part
url-led-on : (q : Quoting) (tag : Tag) (u : Url) (datum : Data) (bytes : List ℕ) → u.triple ≡ NoTriple → refuses_hole_in u.part ≡ None
    → IsBackBy (url_chain (parts_of u.part) (last_of (quotes_at q))) datum bytes → Leads (in_url q tag u) (printed datum) bytes
url-led-on q tag u datum bytes e n k = leads-on (in_url q tag u) (printed datum) bytes tt (url-leads q tag u datum bytes e n k)

url-safe : (q : Quoting) (tag : Tag) (p : UrlPart) (s : UrlScheme) (free : Bool) (t : Triple)
    → SafeAt (in_url q tag (url_at p s free t)) (value_spot tag (quotes_at q) (option_map (λ p. body.Url (parts_of p)) (where_whole t p)))
url-safe q tag UrlStart s free NoTriple = λ datum bytes k. url-led-on q tag (url_at UrlStart s free NoTriple) datum bytes refl refl k
url-safe q tag (UrlOpen p) s free NoTriple = λ datum bytes k. url-led-on q tag (url_at (UrlOpen p) s free NoTriple) datum bytes refl refl k
url-safe q tag UrlOpenhole s free NoTriple = λ datum bytes k. url-led-on q tag (url_at UrlOpenhole s free NoTriple) datum bytes refl refl k
url-safe q tag UrlPrequery s free NoTriple = λ datum bytes k. url-led-on q tag (url_at UrlPrequery s free NoTriple) datum bytes refl refl k
url-safe q tag UrlQuery s free NoTriple = λ datum bytes k. url-led-on q tag (url_at UrlQuery s free NoTriple) datum bytes refl refl k
url-safe q tag UrlBad s free NoTriple = tt
url-safe q tag p s free AfterPercent = tt
url-safe q tag p s free AfterDigit = tt

-- In a style, by the state of the path: none may stand within a lexeme, and behind a URL.
abbrev SafeInStyle : Quoting → Tag → Style Url → Type 0
SafeInStyle q tag v = SafeAt (in_style q tag v) (value_spot tag (quotes_at q) (style_body v))

code-safe : (v : Outside) → IsCodeState v → CodeFills v → has_mark {U = Url} (Out v) ≡ true
    → (q : Quoting) (tag : Tag) (datum : Data) (bytes : List ℕ)
    → IsBackInLanguage (IsBackInCode urls (printed datum)) (last_of (quotes_at q)) bytes → Leads (in_style q tag (Out v)) (printed datum) bytes
code-safe v c own m q tag datum bytes k = code-leads v c own m q tag (printed datum) bytes k

-- before a URL, of which nothing has been read
fresh-leads : (q : Quoting) (tag : Tag) (u : Url) (datum : Data) (bytes : List ℕ) → has_read_nothing u ≡ true
    → IsBackBy (url_chain (parts_of UrlStart) (last_of (quotes_at q))) datum bytes → Leads (in_style q tag (InUrl Fresh u)) (printed datum) bytes
fresh-leads q tag u datum bytes e k =
    let first = and_parts (is_at_start u.part) _ e in
    let second = and_parts (is_scheme_ahead u.scheme) _ first.1 in
    let third = and_parts _ (is_no_triple u.triple) second.1 in
    let part = at-start u.part first.0 in
    url-style-leads Fresh u tt q tag datum bytes (no-triple u.triple third.1) (subst (λ (p : UrlPart). refuses_hole_in p ≡ None) (sym part) refl)
    (subst (λ (p : UrlPart). IsBackBy (url_chain (parts_of p) (last_of (quotes_at q))) datum bytes) (sym part) k)

fresh-safe : (b : Bool) (u : Url) (q : Quoting) (tag : Tag) → has_read_nothing u ≡ b
    → SafeAt (in_style q tag (InUrl Fresh u)) (value_spot tag (quotes_at q) (if b then Some (body.Css css.UrlFresh) else None))
fresh-safe false u q tag e = tt
fresh-safe true u q tag e = λ datum bytes k. fresh-leads q tag u datum bytes e k

-- in one, by its part, without quotes and with them
bare-safe : (q : Quoting) (tag : Tag) (p : UrlPart) (s : UrlScheme) (free : Bool) (t : Triple) → SafeInStyle q tag (InUrl Bare (url_at p s free t))
bare-safe q tag UrlStart s free NoTriple = λ datum bytes k. url-style-leads Bare (url_at UrlStart s free NoTriple) tt q tag datum bytes refl refl k
bare-safe q tag (UrlOpen p) s free NoTriple = λ datum bytes k. url-style-leads Bare
    (url_at (UrlOpen p) s free NoTriple) tt q tag datum bytes refl refl k
bare-safe q tag UrlOpenhole s free NoTriple = λ datum bytes k. url-style-leads Bare
    (url_at UrlOpenhole s free NoTriple) tt q tag datum bytes refl refl k
bare-safe q tag UrlPrequery s free NoTriple = λ datum bytes k. url-style-leads Bare
    (url_at UrlPrequery s free NoTriple) tt q tag datum bytes refl refl k
bare-safe q tag UrlQuery s free NoTriple = λ datum bytes k. url-style-leads Bare (url_at UrlQuery s free NoTriple) tt q tag datum bytes refl refl k
bare-safe q tag UrlBad s free NoTriple = tt
bare-safe q tag p s free AfterPercent = tt
bare-safe q tag p s free AfterDigit = tt

quoted-safe : (j : Quote) (q : Quoting) (tag : Tag) (p : UrlPart) (s : UrlScheme) (free : Bool) (t : Triple)
    → SafeInStyle q tag (InUrl (Quoted j NoEscape) (url_at p s free t))
quoted-safe DoubleQuote q tag UrlStart s free NoTriple = λ datum bytes k. url-style-leads (Quoted DoubleQuote NoEscape)
    (url_at UrlStart s free NoTriple) tt q tag datum bytes refl refl k
quoted-safe DoubleQuote q tag (UrlOpen p) s free NoTriple = λ datum bytes k. url-style-leads (Quoted DoubleQuote NoEscape)
    (url_at (UrlOpen p) s free NoTriple) tt q tag datum bytes refl refl k
quoted-safe DoubleQuote q tag UrlOpenhole s free NoTriple = λ datum bytes k. url-style-leads (Quoted DoubleQuote NoEscape)
    (url_at UrlOpenhole s free NoTriple) tt q tag datum bytes refl refl k
quoted-safe DoubleQuote q tag UrlPrequery s free NoTriple = λ datum bytes k. url-style-leads (Quoted DoubleQuote NoEscape)
    (url_at UrlPrequery s free NoTriple) tt q tag datum bytes refl refl k
quoted-safe DoubleQuote q tag UrlQuery s free NoTriple = λ datum bytes k. url-style-leads (Quoted DoubleQuote NoEscape)
    (url_at UrlQuery s free NoTriple) tt q tag datum bytes refl refl k
quoted-safe DoubleQuote q tag UrlBad s free NoTriple = tt
quoted-safe SingleQuote q tag UrlStart s free NoTriple = λ datum bytes k. url-style-leads (Quoted SingleQuote NoEscape)
    (url_at UrlStart s free NoTriple) tt q tag datum bytes refl refl k
quoted-safe SingleQuote q tag (UrlOpen p) s free NoTriple = λ datum bytes k. url-style-leads (Quoted SingleQuote NoEscape)
    (url_at (UrlOpen p) s free NoTriple) tt q tag datum bytes refl refl k
quoted-safe SingleQuote q tag UrlOpenhole s free NoTriple = λ datum bytes k. url-style-leads (Quoted SingleQuote NoEscape)
    (url_at UrlOpenhole s free NoTriple) tt q tag datum bytes refl refl k
quoted-safe SingleQuote q tag UrlPrequery s free NoTriple = λ datum bytes k. url-style-leads (Quoted SingleQuote NoEscape)
    (url_at UrlPrequery s free NoTriple) tt q tag datum bytes refl refl k
quoted-safe SingleQuote q tag UrlQuery s free NoTriple = λ datum bytes k. url-style-leads (Quoted SingleQuote NoEscape)
    (url_at UrlQuery s free NoTriple) tt q tag datum bytes refl refl k
quoted-safe SingleQuote q tag UrlBad s free NoTriple = tt
quoted-safe j q tag p s free AfterPercent = tt
quoted-safe j q tag p s free AfterDigit = tt

style-safe : (v : Style Url) (q : Quoting) (tag : Tag) → SafeInStyle q tag v
style-safe (Out (Between k)) q tag = λ datum bytes b. code-safe (Between k) tt (λ q text vs. refl) refl q tag datum bytes b
style-safe (Out AfterLessThan) q tag = tt
style-safe (Out (Word w e)) q tag = tt
style-safe (Out (AfterSolidus k)) q tag = tt
style-safe (Out (Comment true)) q tag = tt
style-safe (Out (Comment false)) q tag = λ datum bytes b. comment-leads (Comment false) tt (λ q text vs. refl) q tag (printed datum) bytes b
style-safe (Out (InString DoubleQuote NoEscape)) q tag = λ datum bytes b. string-leads DoubleQuote q tag (printed datum) bytes b
style-safe (Out (InString SingleQuote NoEscape)) q tag = λ datum bytes b. string-leads SingleQuote q tag (printed datum) bytes b
style-safe (Out (InString j AfterBackslash)) q tag = tt
style-safe (Out (InString j (HexDigits n))) q tag = tt
style-safe (Out (InString j AfterReturn)) q tag = tt
style-safe (Out BadUrl) q tag = tt
style-safe (Out (BehindHole solidus less)) q tag = λ datum bytes b. code-safe (BehindHole solidus less) tt
    (λ q text vs. refl) refl q tag datum bytes b
style-safe (Out (SplitWord NoEscape)) q tag = λ datum bytes b. code-safe (SplitWord NoEscape) tt (λ q text vs. refl) refl q tag datum bytes b
style-safe (Out (SplitWord AfterBackslash)) q tag = tt
style-safe (Out (SplitWord (HexDigits n))) q tag = tt
style-safe (Out (SplitWord AfterReturn)) q tag = tt
style-safe (Out (SolidusAtCut k)) q tag = λ datum bytes b. code-safe (SolidusAtCut k) tt (λ q text vs. refl) refl q tag datum bytes b
style-safe (Out LessThanAtCut) q tag = λ datum bytes b. code-safe LessThanAtCut tt (λ q text vs. refl) refl q tag datum bytes b
style-safe (Out StarAtCut) q tag = λ datum bytes b. comment-leads StarAtCut tt (λ q text vs. refl) q tag (printed datum) bytes b
style-safe (InUrl Fresh u) q tag = fresh-safe (has_read_nothing u) u q tag refl
style-safe (InUrl Bare u) q tag = bare-safe q tag u.part u.scheme u.free u.triple
style-safe (InUrl (Quoted j NoEscape) u) q tag = quoted-safe j q tag u.part u.scheme u.free u.triple
style-safe (InUrl (Quoted j AfterBackslash) u) q tag = tt
style-safe (InUrl (Quoted j (HexDigits n)) u) q tag = tt
style-safe (InUrl (Quoted j AfterReturn) u) q tag = tt
style-safe (InUrl Ended u) q tag = tt

-- In a script, by where its path is: each place takes a value.
abbrev SafeAtSpot : Quoting → Tag → ScriptState → Spot → Type 0
SafeAtSpot q tag s p = LeadsBy (both_of (script_sanitizer (script_place p)) (last_of (quotes_at q))) (in_script q tag s)

some-spot : (x p : Spot) → Some x ≡ Some p → p ≡ x
some-spot x p e = cc

spot-within : (within : Bool) (x p : Spot) → unless_within within x ≡ Some p → p ≡ x
spot-within true x p e = cc
spot-within false x p e = some-spot x p e

no-spot : (p : Spot) → None ≡ Some p → ⊥
no-spot p e = cc

no-true : false ≡ true → ⊥
no-true e = true≢false (sym e)

code-spot-safe : (a : At) (t : Trail) → TakesData a → script_has_mark_at a ≡ true → (q : Quoting) → SiteFills a q ScriptCodeSite
    → (tag : Tag) (s : Sense) (x : Tail) (p : Spot) → p ≡ CodeSpot s x → SafeAtSpot q tag (in_code a t) p
code-spot-safe a t h m q own tag s x p e =
    subst (SafeAtSpot q tag (in_code a t)) (sym e) (λ datum bytes k. scripts.code-leads a t h m q own tag datum bytes k)

string-spot-safe : (j : Bool) (t : Trail) (q : Quoting) (tag : Tag) (p : Spot) → p ≡ StringSpot j → SafeAtSpot q tag (in_string j t) p
string-spot-safe true t q tag p e =
    subst (SafeAtSpot q tag (in_string true t)) (sym e) (λ datum bytes k. scripts.string-leads true t q (λ t text vs. refl) tag (printed datum) bytes k)
string-spot-safe false t q tag p e =
    subst (SafeAtSpot q tag (in_string false t)) (sym e) (λ datum bytes k. scripts.string-leads false t q (λ t text vs. refl) tag (printed datum) bytes k)

spot-safe : (a : At) (t : Trail) (q : Quoting) (tag : Tag) (p : Spot) → may_begin_text_at a t.markup ≡ true → spot_at a t ≡ Some p
    → SafeAtSpot q tag (in_code a t) p
spot-safe (Code s) t q tag p b e =
    code-spot-safe (Code s) t tt refl q (λ t text vs. refl) tag s (tail_of t.markup) p (spot-within (is_cut_markup t.markup) _ p e)
spot-safe (script.Word w) t q tag p b e = code-spot-safe (script.Word w) t tt refl q (λ t text vs. refl) tag (sense_after w) WordTail p (some-spot _ p e)
spot-safe Number t q tag p b e = code-spot-safe Number t tt refl q (λ t text vs. refl) tag sense.Div NumberTail p (some-spot _ p e)
spot-safe (Pluses odd) t q tag p b e =
    code-spot-safe (Pluses odd) t tt refl q (λ t text vs. refl) tag (sense_if_odd odd) PlusTail p (some-spot _ p e)
spot-safe (Minuses odd) t q tag p b e =
    code-spot-safe (Minuses odd) t tt refl q (λ t text vs. refl) tag (sense_if_odd odd) MinusTail p (spot-within (is_cut_markup t.markup) _ p e)
spot-safe (Slash sense.Re) t q tag p b e =
    subst (SafeAtSpot q tag (behind_slash t)) (sym (spot-within (is_cut_markup t.markup) _ p e))
    (λ datum bytes k. regexp-leads (Slash sense.Re) t refl refl q (λ t text vs. refl) plain-first tag (printed datum) bytes k)
spot-safe (Slash sense.Div) t q tag p b e =
    code-spot-safe (Slash sense.Div) t tt refl q (λ t text vs. refl) tag sense.Re SlashTail p (some-spot _ p e)
spot-safe (Slash sense.Brace) t q tag p b e = absurd (no-spot p e)
spot-safe (LineComment s) t q tag p b e =
    subst (SafeAtSpot q tag (in_code (LineComment s) t)) (sym (some-spot _ p e)) (λ datum bytes k. scripts.line-leads s t q tag (printed datum) bytes k)
spot-safe (BlockComment s star) t q tag p b e =
    subst (SafeAtSpot q tag (in_code (BlockComment s star) t)) (sym (some-spot _ p e))
    (λ datum bytes k. scripts.block-leads s star t q tag (printed datum) bytes k)
spot-safe (script.InString j script.NoEscape) t q tag p b e = string-spot-safe j t q tag p (spot-within (within_escape t) _ p e)
spot-safe (InRegexp false script.NoEscape) t q tag p b e =
    subst (SafeAtSpot q tag (in_regexp t)) (sym (spot-within (within_escape t || is_cut_markup t.markup) _ p e))
    (λ datum bytes k. regexp-leads (InRegexp false script.NoEscape) t refl refl q (λ t text vs. refl) plain-within tag (printed datum) bytes k)
spot-safe (script.InString j _) t q tag p b e = absurd (no-true b)
spot-safe (InRegexp true _) t q tag p b e = absurd (no-true b)
spot-safe (InRegexp false _) t q tag p b e = absurd (no-true b)
spot-safe (InTemplate x d) t q tag p b e = absurd (no-true b)
spot-safe TooDeep t q tag p b e = absurd (no-true b)

-- in no template literal, and between characters
place-safe : (fs held : List ℕ) (a : At) (t : Trail) (q : Quoting) (tag : Tag) (p : Spot) (s : ScriptState)
    → s ≡ record { literals = fs; at = a; held = held; trail = t }
    → may_begin_text_at a t.markup ≡ true → script_spot (record { literals = fs; at = a; held = held; trail = t }) ≡ Some p → SafeAtSpot q tag s p
place-safe [] [] a t q tag p s i b e = subst (λ (z : ScriptState). SafeAtSpot q tag z p) (sym i) (spot-safe a t q tag p b e)
place-safe [] (c ∷ held) a t q tag p s i b e = absurd (no-spot p e)
place-safe (n ∷ fs) held a t q tag p s i b e = absurd (no-spot p e)

script-safe : (begins : Bool) (o : Option Spot) (q : Quoting) (tag : Tag) (s : ScriptState) → script_may_begin_text s ≡ begins → script_spot s ≡ o
    → SafeAt (in_script q tag s) (value_spot tag (quotes_at q) (option_map body.Js (if begins then option_map script_place o else None)))
script-safe true (Some p) q tag s b e =
    place-safe s.literals s.held s.at s.trail q tag p s refl (and_parts (is_trail_of_cut s.trail) (may_begin_text_at s.at s.trail.markup) b).1 e
script-safe true None q tag s b e = tt
script-safe false o q tag s b e = tt

-- In the element of a script, by where its path is: in a comment a value is left out.
abbrev in_script_element : ScriptState → LexState ValueState
in_script_element s = in_element element.Script (OfScript s) Nothing

abbrev SafeAtElementSpot : ScriptState → Spot → Type 0
SafeAtElementSpot s p = LeadsBy (script_element_chain p) (in_script_element s)

-- the path is there, and a text may begin
record MayStand (a : At) (t : Trail) (p : Spot) : Type 0 where
  begins : script_may_begin_text (in_code a t) ≡ true
  spot : script_spot (in_code a t) ≡ Some p

fresh-there : (a : At) (t : Trail) (p : Spot) → MayStand a t p → t.fresh ≡ true
fresh-there a t p h = (and_parts t.fresh _ (and_parts (is_trail_of_cut t) (may_begin_text_at a t.markup) h.begins).0).0

begins-there : (a : At) (t : Trail) (p : Spot) → MayStand a t p → may_begin_text_at a t.markup ≡ true
begins-there a t p h = (and_parts (is_trail_of_cut t) (may_begin_text_at a t.markup) h.begins).1

code-element-spot : (a : At) (t : Trail) → TakesData a → script_has_mark_at a ≡ true → SiteFills a DoubleQuoted ScriptCodeSite
    → (s : Sense) (x : Tail) (p : Spot)
    → p ≡ CodeSpot s x → MayStand a t p → SafeAtElementSpot (in_code a t) p
code-element-spot a t h m own s x p e o =
    subst (λ (z : Spot). MayStand a t z → SafeAtElementSpot (in_code a t) z) (sym e)
    (λ o datum bytes k.
    let g = script-element-hole (in_code a t) (CodeSpot s x) o.begins o.spot datum bytes k in
    script-element-leads element.Script a t (printed datum) bytes (fresh-there a t _ o) (begins-there a t _ o) g.0 g.1
    (scripts.code-filled a t h m DoubleQuoted own datum bytes k.there)) o

string-element-spot : (j : Bool) (t : Trail) (p : Spot) → p ≡ StringSpot j → MayStand (script.InString j script.NoEscape) t p
    → SafeAtElementSpot (in_string j t) p
string-element-spot true t p e o =
    subst (λ (z : Spot). MayStand (script.InString true script.NoEscape) t z → SafeAtElementSpot (in_string true t) z) (sym e)
    (λ o datum bytes k.
    let g = script-element-hole (in_string true t) (StringSpot true) o.begins o.spot datum bytes k in
    script-element-leads element.Script (script.InString true script.NoEscape) t (printed datum) bytes (fresh-there _ t _ o) (begins-there _ t _ o) g.0 g.1
    (scripts.string-filled true t DoubleQuoted (λ t text vs. refl) (printed datum) bytes k.there)) o
string-element-spot false t p e o =
    subst (λ (z : Spot). MayStand (script.InString false script.NoEscape) t z → SafeAtElementSpot (in_string false t) z) (sym e)
    (λ o datum bytes k.
    let g = script-element-hole (in_string false t) (StringSpot false) o.begins o.spot datum bytes k in
    script-element-leads element.Script (script.InString false script.NoEscape) t (printed datum) bytes (fresh-there _ t _ o) (begins-there _ t _ o) g.0 g.1
    (scripts.string-filled false t DoubleQuoted (λ t text vs. refl) (printed datum) bytes k.there)) o

regexp-element-spot : (t : Trail) (p : Spot) → p ≡ RegexpSpot false → MayStand (InRegexp false script.NoEscape) t p → SafeAtElementSpot (in_regexp t) p
regexp-element-spot t p e o =
    subst (λ (z : Spot). MayStand (InRegexp false script.NoEscape) t z → SafeAtElementSpot (in_regexp t) z) (sym e)
    (λ o datum bytes k.
    let g = script-element-hole (in_regexp t) (RegexpSpot false) o.begins o.spot datum bytes k in
    script-element-leads element.Script (InRegexp false script.NoEscape) t (printed datum) bytes (fresh-there _ t _ o) (begins-there _ t _ o) g.0 g.1
    (scripts.regexp-filled (InRegexp false script.NoEscape) t refl refl DoubleQuoted (λ t text vs. refl) plain-within (printed datum) bytes k.there)) o

slash-element-spot : (t : Trail) (p : Spot) → p ≡ RegexpSpot true → MayStand (Slash sense.Re) t p → SafeAtElementSpot (behind_slash t) p
slash-element-spot t p e o =
    subst (λ (z : Spot). MayStand (Slash sense.Re) t z → SafeAtElementSpot (behind_slash t) z) (sym e)
    (λ o datum bytes k.
    let g = script-element-hole (behind_slash t) (RegexpSpot true) o.begins o.spot datum bytes k in
    script-element-leads element.Script (Slash sense.Re) t (printed datum) bytes (fresh-there _ t _ o) (begins-there _ t _ o) g.0 g.1
    (scripts.regexp-filled (Slash sense.Re) t refl refl DoubleQuoted (λ t text vs. refl) plain-first (printed datum) bytes k.there)) o

line-element-spot : (s : Sense) (t : Trail) → SafeAtElementSpot (in_code (LineComment s) t) (LineSpot s)
line-element-spot s t datum bytes k vs u m d l r =
    script-raw-stays element.Script (in_code (LineComment s) t) (script_after_hole (in_code (LineComment s) t)) vs m d r

block-element-spot : (s : Sense) (star : Bool) (t : Trail) → SafeAtElementSpot (in_code (BlockComment s star) t) (BlockSpot s star)
block-element-spot s star t datum bytes k vs u m d l r =
    script-raw-stays element.Script (in_code (BlockComment s star) t) (script_after_hole (in_code (BlockComment s star) t)) vs m d r

element-spot-safe : (a : At) (t : Trail) (p : Spot) → MayStand a t p → may_begin_text_at a t.markup ≡ true → spot_at a t ≡ Some p
    → SafeAtElementSpot (in_code a t) p
element-spot-safe (Code s) t p o b e =
    code-element-spot (Code s) t tt refl (λ t text vs. refl) s (tail_of t.markup) p (spot-within (is_cut_markup t.markup) _ p e) o
element-spot-safe (script.Word w) t p o b e =
    code-element-spot (script.Word w) t tt refl (λ t text vs. refl) (sense_after w) WordTail p (some-spot _ p e) o
element-spot-safe Number t p o b e = code-element-spot Number t tt refl (λ t text vs. refl) sense.Div NumberTail p (some-spot _ p e) o
element-spot-safe (Pluses odd) t p o b e = code-element-spot (Pluses odd) t tt refl (λ t text vs. refl) (sense_if_odd odd) PlusTail p (some-spot _ p e) o
element-spot-safe (Minuses odd) t p o b e =
    code-element-spot (Minuses odd) t tt refl (λ t text vs. refl) (sense_if_odd odd) MinusTail p (spot-within (is_cut_markup t.markup) _ p e) o
element-spot-safe (Slash sense.Re) t p o b e = slash-element-spot t p (spot-within (is_cut_markup t.markup) _ p e) o
element-spot-safe (Slash sense.Div) t p o b e = code-element-spot (Slash sense.Div) t tt refl (λ t text vs. refl) sense.Re SlashTail p (some-spot _ p e) o
element-spot-safe (Slash sense.Brace) t p o b e = absurd (no-spot p e)
element-spot-safe (LineComment s) t p o b e = subst (SafeAtElementSpot (in_code (LineComment s) t)) (sym (some-spot _ p e)) (line-element-spot s t)
element-spot-safe (BlockComment s star) t p o b e =
    subst (SafeAtElementSpot (in_code (BlockComment s star) t)) (sym (some-spot _ p e)) (block-element-spot s star t)
element-spot-safe (script.InString j script.NoEscape) t p o b e = string-element-spot j t p (spot-within (within_escape t) _ p e) o
element-spot-safe (InRegexp false script.NoEscape) t p o b e = regexp-element-spot t p (spot-within (within_escape t || is_cut_markup t.markup) _ p e) o
element-spot-safe (script.InString j _) t p o b e = absurd (no-true b)
element-spot-safe (InRegexp true _) t p o b e = absurd (no-true b)
element-spot-safe (InRegexp false _) t p o b e = absurd (no-true b)
element-spot-safe (InTemplate x d) t p o b e = absurd (no-true b)
element-spot-safe TooDeep t p o b e = absurd (no-true b)

abbrev at_with : List ℕ → List ℕ → At → Trail → ScriptState
at_with fs held a t = record { literals = fs; at = a; held = held; trail = t }

element-place-safe : (fs held : List ℕ) (a : At) (t : Trail) (p : Spot) → script_may_begin_text (at_with fs held a t) ≡ true
    → script_spot (at_with fs held a t) ≡ Some p → SafeAtElementSpot (at_with fs held a t) p
element-place-safe [] [] a t p b e =
    element-spot-safe a t p (record { begins = b; spot = e }) (and_parts (is_trail_of_cut t) (may_begin_text_at a t.markup) b).1 e
element-place-safe [] (c ∷ held) a t p b e = absurd (no-spot p e)
element-place-safe (n ∷ fs) held a t p b e = absurd (no-spot p e)

script-element-safe : (begins : Bool) (o : Option Spot) (s : ScriptState) → script_may_begin_text s ≡ begins → script_spot s ≡ o
    → SafeAt (in_script_element s) (option_map place.Script (if begins then option_map script_place o else None))
script-element-safe true (Some p) s b e = element-place-safe s.literals s.held s.at s.trail p b e
script-element-safe true None s b e = tt
script-element-safe false o s b e = tt

content-safe : (h : Pending) (x : Content ValueState) (e : Element) → SafeAt (InContent e x h) (content_spot h x e)
content-safe Nothing (InLanguage (OfStyle s)) element.Style = element-safe s
content-safe Nothing (InLanguage (OfKind k)) element.Style = tt
content-safe Nothing (InLanguage (OfUrl u)) element.Style = tt
content-safe Nothing (InLanguage (OfScript s)) element.Style = tt
content-safe Nothing (InLanguage (OfScript s)) element.Script = script-element-safe (script_may_begin_text s) (script_spot s) s refl refl
content-safe Nothing (Characters Closed) element.Title = λ datum bytes k. leads-on (in_rcdata element.Title) (printed datum) bytes tt
    (content-leads element.Title (printed datum) bytes k.1)
content-safe Nothing (Characters Closed) element.Textarea = λ datum bytes k. leads-on (in_rcdata element.Textarea) (printed datum) bytes tt
    (content-leads element.Textarea (printed datum) bytes k.1)
content-safe Nothing Bytes element.DataBlock = λ datum bytes k. leads-on in_block (printed datum) bytes tt (block-leads (printed datum) bytes k.2)
content-safe LessAtCut Bytes element.DataBlock = tt
content-safe _ _ _ = tt

value-safe : (r : Reference) (v : Value ValueState) (q : Quoting) (tag : Tag)
    → SafeAt (AttributeValue q tag v r) (where_closed r (value_spot tag (quotes_at q) (value_body v)))
value-safe Closed (ValueOf (OfKind kind.Plain)) DoubleQuoted tag = λ datum bytes k. leads-on (in_plain DoubleQuoted tag) (printed datum) bytes tt
    (double-leads tag (printed datum) bytes k)
value-safe Closed (ValueOf (OfKind kind.Plain)) SingleQuoted tag = λ datum bytes k. leads-on (in_plain SingleQuoted tag) (printed datum) bytes tt
    (single-leads tag (printed datum) bytes k)
value-safe Closed (ValueOf (OfKind kind.Plain)) Unquoted tag = λ datum bytes k. leads-on (in_plain Unquoted tag) (printed datum) bytes tt
    (unquoted-leads tag (printed datum) bytes k)
value-safe Closed (ValueOf (OfUrl u)) q tag = url-safe q tag u.part u.scheme u.free u.triple
value-safe Closed (ValueOf (OfStyle s)) q tag = style-safe s q tag
value-safe Closed (ValueOf (OfScript s)) q tag = script-safe (script_may_begin_text s) (script_spot s) q tag s refl refl
value-safe _ _ _ tag = tt

-- after a name, unless it is a second `type`, where a path is at no place
after-name-safe : (o : Bool) (tag : Tag) (k : Kind)
    → SafeAt (AfterAttributeName tag k) (if o then None else Some (place.Tag (tag_spot tag only_after (Some k))))
after-name-safe true tag k = tt
after-name-safe false tag k = λ datum bytes p.
    leads-on (AfterAttributeName tag k) (printed datum) bytes tt
    (name-leads (AfterAttributeName tag k) (without_value tag k) (printed datum) bytes p refl tt (λ u d l. l)
    (λ t. marked-is (AfterAttributeName tag k) (AttributeName (without_value tag k) (as_name (printed datum))) bytes t _
    (p.reads (AfterAttributeName tag k) (without_value tag k) [] refl)) (λ vs. refl))

whole-name-safe : (o : Bool) (tag : Tag) (k : Kind)
    → SafeAt (WholeAttributeName tag k) (if o then None else Some (place.Tag (tag_spot tag only_inside (Some k))))
whole-name-safe true tag k = tt
whole-name-safe false tag k = tt

safe-at : (s : LexState ValueState) → SafeAt s (placed s)
safe-at (Text Closed) = λ datum bytes k. leads-on (Text Closed) (printed datum) bytes tt (text-leads (printed datum) bytes k.0)
safe-at (InComment Inside) = λ datum bytes k vs t m d l r. r
safe-at (InComment Broken) = λ datum bytes k vs t m d l r. r
safe-at (BeforeAttributeName tag) = λ datum bytes k.
    leads-on (BeforeAttributeName tag) (printed datum) bytes tt
    (name-leads (BeforeAttributeName tag) tag (printed datum) bytes k refl tt (λ u d l. l)
    (λ t. marked-is (BeforeAttributeName tag) (AttributeName tag (as_name (printed datum))) bytes t _
    (k.reads (BeforeAttributeName tag) tag [] refl)) (λ vs. refl))
safe-at (AfterAttributeName tag j) = after-name-safe (is_second_type tag.typed j) tag j
safe-at (AfterAttributeValue tag) = λ datum bytes k.
    leads-on (AfterAttributeValue tag) (printed datum) bytes tt
    (name-leads (AfterAttributeValue tag) tag (printed datum) bytes k refl tt (λ u d l. l)
    (λ t. marked-is (AfterAttributeValue tag) (AttributeName tag (as_name (printed datum))) bytes t _
    (k.reads (AfterAttributeValue tag) tag [] refl)) (λ vs. refl))
safe-at (SelfClosingStartTag tag) = λ datum bytes k.
    leads-on (SelfClosingStartTag tag) (printed datum) bytes tt
    (name-leads (SelfClosingStartTag tag) tag (printed datum) bytes k refl tt (λ u d l. l)
    (λ t. marked-is (SelfClosingStartTag tag) (AttributeName tag (as_name (printed datum))) bytes t _
    (k.reads (SelfClosingStartTag tag) tag [] refl)) (λ vs. refl))
safe-at (WholeAttributeName tag k) = whole-name-safe (is_second_type tag.typed k) tag k
safe-at (BeforeAttributeValue tag kind.Plain) = λ datum bytes k. leads-on (BeforeAttributeValue tag kind.Plain) (printed datum) bytes tt
    (unbegun-leads tag (printed datum) bytes k)
safe-at (BeforeAttributeValue tag kind.Url) = λ datum bytes k. leads-on (BeforeAttributeValue tag kind.Url) (printed datum) bytes tt
    (url-begun-leads tag datum bytes k)
safe-at (BeforeAttributeValue tag kind.Style) = λ datum bytes k. leads-on (BeforeAttributeValue tag kind.Style) (printed datum) bytes tt
    (style-begun-leads tag (printed datum) bytes k)
safe-at (BeforeAttributeValue tag kind.Script) = λ datum bytes k. leads-on (BeforeAttributeValue tag kind.Script) (printed datum) bytes tt
    (script-begun-leads tag datum bytes k)
safe-at (AttributeValue q tag v r) = value-safe r v q tag
safe-at (InContent e x h) = content-safe h x e
safe-at _ = tt

-- a place that accepts a hole, on each path for which it stands
pub hole-leads : (p q : Place) (c : Chain) (s : LexState ValueState) (datum : Data) (bytes : List ℕ) → IsValid p → IsIn p s → after_hole p ≡ Ok (q, c)
    → IsBackBy c datum bytes → LeadsUnless (leaves_out c) s (printed datum) bytes
hole-leads p q c s datum bytes v i accepted k =
    let own = (covers-hole p q c s v i accepted).1 i.own i.stands in
    let safe : LeadsBy c s = subst (SafeBy s) own.1 (subst (SafeAt s) i.stands (safe-at s)) in
    safe datum bytes k
