-- Scan states of URLs, which may be in a style: their parts, and the reference that is open in them, where a byte leads.
use Rattle.std.proofs.Common.{◌≡◌, ◌≤◌, ℕ, ◌+◌, Bool, true, false, ◌⊎◌, inl, inr, List, [], ◌∷◌, ◌++◌, codes, length, Option, Some, None, if◌then◌else◌, refl, sym, ap, ◌∙◌, subst, arith, length-append}
use Rattle.place_core.specs.page.Classes.{Class, White, Ampersand, ExclamationMark, QuotationMark, Apostrophe, HyphenMinus, Solidus, LessThan, EqualsSign, GreaterThan, Letter, class_of}
use Rattle.place_core.specs.page.Comments.{Declaration, OpensComment, OpensDoctype, Undecided, OpensNothing, closes_comment, declared_by, next_comment}
use Rattle.place_core.specs.page.Contents.{is_name_of, may_be_name_of, ScriptStep, Reads, EndsContent}
use Rattle.place_core.specs.page.Html.{ends_value}
use Rattle.place_core.specs.page.References.{Form, Reference, Closed, Open, ReferenceStep, Grows, Closes, Breaks, begin_reference, next_reference, reference_turned, turn, undone_byte}
use Rattle.place_core.specs.page.States.{CommentState, Inside, Broken, Pending, Nothing, PendingLess, PendingName, PendingBang, PendingBangDash, PendingOpening, LessAtCut}
use Rattle.place_core.specs.page.Tags.{element_on, feed_bytes, tag_of_name, Quoting, DoubleQuoted, SingleQuoted, Unquoted, Value, ValueState}
use Rattle.place_core.specs.page.Words.{kind_of}
use Rattle.place_core.specs.declared.body.Body.{Body}
use Rattle.place_core.specs.declared.body.Body.TheVariants as body
use Rattle.place_core.specs.declared.css.Css.{Css}
use Rattle.place_core.specs.declared.css.Css.TheVariants as css
use Rattle.place_core.specs.declared.member.Member.{Member}
use Rattle.place_core.specs.place.LanguagePlaces.{css_has, parts_have}
use Rattle.place_core.specs.declared.element.Element.{Element}
use Rattle.place_core.specs.declared.element.Element.TheVariants as element
use Rattle.place_core.specs.declared.kind.Kind.{Kind}
use Rattle.place_core.specs.declared.kind.Kind.TheVariants as kind
use Rattle.place_core.specs.declared.parts.Parts.{Parts}
use Rattle.place_core.specs.declared.place.Place.{Place}
use Rattle.place_core.specs.declared.place.Place.TheVariants as place
use Rattle.place_core.specs.declared.quotes.Quotes.{Quotes}
use Rattle.place_core.specs.declared.quotes.Quotes.TheVariants as quotes
use Rattle.place_core.specs.declared.tag_of.TagOf.{TagOf}
use Rattle.place_core.specs.declared.tag_of.TagOf.TheVariants as tag
use Rattle.place_core.specs.declared.tag_place.TagPlace.{TagPlace}
use Rattle.place_core.specs.declared.value_place.ValuePlace.{ValuePlace}
use Rattle.place_core.proofs.Semilattices.{none_some, one_value}
use Rattle.html_scan.specs.Scans.{Scan, At, AfterLess, AfterLessSolidus, InDeclaration, InTagName, InAttributeName, InUrl, InStyle, InScript, InCommentEnd, InContentEnd, BeforeType, InType, InStyleElement, script_fed_next, script_value_next, element_less_next, element_name_next, element_next, element_pending_next, released_next, after_type, attribute_name_next, bare_white, before_type_next, comment_closed, comment_next, comment_scan, comment_state, content_end_next, content_next, content_scan, declaration_next, end_name_next, ended_type, parts_feeding, pending_less_next, quoted_next, rest_place, scan_error, scan_next, tag_name_next, tag_next, triple_behind, type_begun, type_next, type_tag, url_scan, value_cause, value_fed, value_next, value_scan, with_parts, with_quotes, scan_reference, body_cause, quoted_error, style_cause, bare_begun, empty_style_between, quotes_lead, style_fed, style_feeding, style_scan, style_value_next, value_between, with_style, InScriptElement, behind_end_name, scan_by_step, script_scan_step}
use Rattle.html_step.proofs.OnePath.{url-reference}
use Rattle.html_step.specs.Origins.{body_parts, element_fed, end_name_fed, fed_in, is_apart, less_fed, loose_fed, scan_parts}
use Rattle.html_scan.proofs.UrlsFed.{feed_more}
use Rattle.html_step.proofs.ElementsBelow.{under-element}
use Rattle.html_step.proofs.Characters.{ReferencePlain, next-plain}
use Rattle.html_step.proofs.ScanOrder.{BegunWhereOpen, HasBegun, ScanBelow, ScanValid, StyleUnder, StyleUnderPlace, UrlWithin, bare-parts, begun-open, first-none, if-none, parts-below, starts-in-order, style-below-place, under-body}
use Rattle.html_step.proofs.ScriptPaths.{empty_js}
use Rattle.js_step.specs.ScriptScans.{ScriptScan, script_scan_start}
use Rattle.html_step.proofs.StyleOrder.{scan-of-start, start-place}
use Rattle.html_step.proofs.StylePaths.{empty_css, style-scan-reference}
use Rattle.html_step.proofs.StyleUrls.{KnownUrl, SameUrl, StaysInUrl, above-in-url, below-in-url, feeds, known-fed, known-unmet, known_none, scan-opened, stays-parts, stays-same, unmet-spells}
use Rattle.css_step.specs.StyleOrigins.{scan_set_has, style_scan_parts}
use Rattle.css_step.specs.StyleScans.{StyleScan, ScanBareUrl, ScanQuotedUrl, is_style_start, style_scan_place, style_scan_start}
use Rattle.css_step.proofs.StyleGrowth.{styles-grow}
use Rattle.place_core.specs.place.ApartPlaces.{beginning_at, beginning_in_body, beginning_in_css}
use Rattle.place_core.specs.place.StatePlaces.{unbegun}
use Rattle.html_step.proofs.PlaceParts.{Under, ValueBelow, below-value, under-false}
use Rattle.html_step.proofs.FedAlike.{first-caused}
use Rattle.place_core.specs.place.Errors.{at_hand, body_error, quotes_error, value_error}
use Rattle.place_core.specs.declared.bare.Bare.{Bare}
use Rattle.place_core.specs.declared.code.Code.TheVariants as code
use Rattle.css_step.specs.StyleSetLaws.{StyleScanBelow}
use Rattle.html_step.proofs.PathScans.{none-at-hand}
use Rattle.place_core.specs.place.Places.{Below, body_has, joined_bodies, joined_quotes}
use Rattle.url_lexer.specs.Triples.{Triple, NoTriple, AfterPercent, AfterDigit}
use Rattle.url_step.specs.PartSets.{PartsBelow, spells_apart}

-- the bytes that its URL, or the style in which it is, is fed
abbrev pub scan_fed : Scan → Class → ℕ → List ℕ
scan_fed (At (place.Value v)) c b = fed_in v.quotes Closed c b
scan_fed (InUrl v t r) c b = fed_in v.quotes r c b
scan_fed (InStyle v n r) c b = fed_in v.quotes r c b
scan_fed (At (place.Style p)) c b = loose_fed c b
scan_fed (InStyleElement n h) c b = element_fed h c b
scan_fed f c b = []

-- a value with parts of a URL is one, or a style in one
pub data InBody (b : Body) (s : Parts) : Type 0 where
  in_url : b ≡ body.Url s → InBody b s
  in_style : (c : Css) → b ≡ body.Css c → style_scan_parts (style_scan_start c) ≡ Some s → InBody b s

pub parts-body : (b : Body) (s : Parts) → body_parts b ≡ Some s → InBody b s
parts-body (body.Url t) s h = in_url (ap body.Url (one_value t s h))
parts-body (body.Css c) s h = in_style c refl h
parts-body _ s h = absurd (none_some s h)

-- what a scan state has of the beginning, as it stands
abbrev pub raw_place : Scan → Place
raw_place (At p) = p
raw_place (InUrl v t r) = place.Value v
raw_place (InStyle v n r) = with_style v n
raw_place (InStyleElement n h) = place.Style (style_scan_place n)
raw_place f = place.Text

pub css-opened : (c : Css) (s : Parts) → style_scan_parts (style_scan_start c) ≡ Some s → beginning_in_css c ≡ s.opened
css-opened c s h = ap beginning_in_css (sym (start-place c)) ∙ scan-opened (style_scan_start c) s h

pub body-opened : (b : Body) (s : Parts) → body_parts b ≡ Some s → beginning_in_body b ≡ s.opened
body-opened (body.Url t) s h = ap (λ (z : Parts). z.opened) (one_value t s h)
body-opened (body.Css c) s h = css-opened c s h
body-opened _ s h = absurd (none_some s h)

pub raw-opened : (f : Scan) (s : Parts) → scan_parts f ≡ Some s → beginning_at (raw_place f) ≡ s.opened
raw-opened (At (place.Value v)) s h = body-opened v.body s h
raw-opened (InUrl v t r) s h = body-opened v.body s h
raw-opened (InStyle v n r) s h = scan-opened n s h
raw-opened (At (place.Style c)) s h = css-opened c s h
raw-opened (InStyleElement n x) s h = scan-opened n s h
raw-opened (At _) s h = absurd (none_some s h)
raw-opened _ s h = absurd (none_some s h)

no : false ≡ true → ⊥
no e = cc

abbrev pub has_met : Scan → Bool
has_met f = spells_apart (beginning_at (raw_place f))

-- A scan state of a URL, at a place or in a triple or a reference.
pub record UrlAt (f : Scan) (s : Parts) : Type 0 where
  pub value : ValuePlace
  pub triple : Triple
  pub reference : Reference
  pub body : value.body ≡ body.Url s
  pub next : (c : Class) (b : ℕ) → scan_next f c b ≡ value_next value triple reference c b
  pub error : (c : Class) (b : ℕ) → scan_error f c b ≡ value_cause value reference c b
  pub holds : scan_reference f ≡ reference
  pub begun : BegunWhereOpen reference value.quotes
  pub fed : (c : Class) (b : ℕ) → fed_in value.quotes reference c b ≡ scan_fed f c b

-- Likewise of a style. Where a value without quotes has not begun, its body stays as it is.
abbrev pub KeptBody : ValuePlace → StyleScan → Type 0
KeptBody v n = (body_parts v.body ≡ style_scan_parts n) ⊎ ((v.body ≡ body.Css empty_css) × HasBegun v.quotes)

pub record StyleAt (f : Scan) (n : StyleScan) : Type 0 where
  pub value : ValuePlace
  pub over : Quotes → ValuePlace
  pub reference : Reference
  pub next : (c : Class) (b : ℕ) → scan_next f c b ≡ quotes_lead value value.quotes c (λ p. style_fed (over p) n reference c b)
  pub kept : KeptBody value n
  pub taken : (c : Class) (b : ℕ) → scan_error f c b ≡ None → quotes_error value.tag value.quotes c ≡ None
  pub holds : scan_reference f ≡ reference
  pub fed : (c : Class) (b : ℕ) → fed_in value.quotes reference c b ≡ scan_fed f c b

-- Likewise in the element `style`, where bytes may be pending back.
pub record ElementAt (f : Scan) (n : StyleScan) : Type 0 where
  pub pending : Pending
  pub next : (c : Class) (b : ℕ) → scan_next f c b ≡ element_pending_next n pending c b
  pub holds : scan_reference f ≡ Closed
  pub fed : (c : Class) (b : ℕ) → element_fed pending c b ≡ scan_fed f c b

pub data UrlOrStyle (f : Scan) (s : Parts) : Type 0 where
  by_url : UrlAt f s → UrlOrStyle f s
  by_style : (n : StyleScan) → StyleAt f n → style_scan_parts n ≡ Some s → UrlOrStyle f s
  by_element : (n : StyleScan) → ElementAt f n → style_scan_parts n ≡ Some s → UrlOrStyle f s

place-url : (v : ValuePlace) (s : Parts) → v.body ≡ body.Url s → UrlAt (At (place.Value v)) s
place-url v s e = record {
  value = v;
  triple = NoTriple;
  reference = Closed;
  body = e;
  next = λ c b. refl;
  error = λ c b. refl;
  holds = refl;
  begun = tt;
  fed = λ c b. refl;
}

lexeme-url : (v : ValuePlace) (t : Triple) (r : Reference) (s : Parts) → HasBegun v.quotes → v.body ≡ body.Url s → UrlAt (InUrl v t r) s
lexeme-url v t r s w e = record {
  value = v;
  triple = t;
  reference = r;
  body = e;
  next = λ c b. refl;
  error = λ c b. refl;
  holds = refl;
  begun = begun-open r v.quotes w;
  fed = λ c b. refl;
}

value-taken : (v : ValuePlace) (r : Reference) (c : Class) (b : ℕ) → value_cause v r c b ≡ None → quotes_error v.tag v.quotes c ≡ None
value-taken v r c b n =
    let m = first-caused (body_cause v.body v.quotes r c b) (at_hand (value_error v c)) n in
    (first-none (body_error v.body) (quotes_error v.tag v.quotes c) (none-at-hand (value_error v c) m.1)).1

style-taken : (v : ValuePlace) (n : StyleScan) (r : Reference) (c : Class) (b : ℕ) → style_cause v n r c b ≡ None → quotes_error v.tag v.quotes c ≡ None
style-taken v n r c b o =
    let m = first-caused (quoted_error style_feeding v.quotes n r c b) (at_hand (value_error v c)) o in
    (first-none (body_error v.body) (quotes_error v.tag v.quotes c) (none-at-hand (value_error v c) m.1)).1

pub place-style : (v : ValuePlace) (c : Css) → v.body ≡ body.Css c → StyleAt (At (place.Value v)) (style_scan_start c)
place-style v d e = record {
  value = v;
  over = empty_style_between v;
  reference = Closed;
  next = λ c b. ap (λ (x : Body). quotes_lead v v.quotes c (λ p. value_fed v p x NoTriple Closed c b)) e;
  kept = inl (ap body_parts e);
  taken = λ c b n. value-taken v Closed c b n;
  holds = refl;
  fed = λ c b. refl;
}

pub lexeme-style : (v : ValuePlace) (n : StyleScan) (r : Reference) → HasBegun v.quotes → v.body ≡ body.Css empty_css → StyleAt (InStyle v n r) n
lexeme-style v n r w e = record {
  value = v;
  over = value_between v;
  reference = r;
  next = λ c b. refl;
  kept = inr (e, w);
  taken = λ c b o. style-taken v n r c b o;
  holds = refl;
  fed = λ c b. refl;
}

place-element : (c : Css) → ElementAt (At (place.Style c)) (style_scan_start c)
place-element c = record { pending = Nothing; next = λ x b. refl; holds = refl; fed = λ x b. refl }

lexeme-element : (n : StyleScan) (h : Pending) → ElementAt (InStyleElement n h) n
lexeme-element n h = record { pending = h; next = λ c b. refl; holds = refl; fed = λ c b. refl }

value-at : (v : ValuePlace) (s : Parts) → InBody v.body s → UrlOrStyle (At (place.Value v)) s
value-at v s (in_url e) = by_url (place-url v s e)
value-at v s (in_style c e h) = by_style (style_scan_start c) (place-style v c e) h

pub within-body : (b : Body) (s : Parts) → UrlWithin b → body_parts b ≡ Some s → b ≡ body.Url s
within-body (body.Url t) s w h = ap body.Url (one_value t s h)
within-body _ s w h = absurd w

pub url-at : (f : Scan) (s : Parts) → ScanValid f → scan_parts f ≡ Some s → UrlOrStyle f s
url-at (At (place.Value v)) s w h = value-at v s (parts-body v.body s h)
url-at (InUrl v t r) s w h = by_url (lexeme-url v t r s w.0 (within-body v.body s w.1 h))
url-at (InStyle v n r) s w h = by_style n (lexeme-style v n r w.0 w.1) h
url-at (At (place.Style c)) s w h = by_element (style_scan_start c) (place-element c) h
url-at (InStyleElement n x) s w h = by_element n (lexeme-element n x) h
url-at (At _) s w h = absurd (none_some s h)
url-at _ s w h = absurd (none_some s h)

pub url-parts : (v : ValuePlace) (t : Triple) (r : Reference) → scan_parts (url_scan v t r) ≡ body_parts v.body
url-parts v NoTriple Closed = refl
url-parts v NoTriple (Open f bytes) = refl
url-parts v AfterPercent r = refl
url-parts v AfterDigit r = refl

style-parts-by : (v : ValuePlace) (n : StyleScan) (x : Bool) → is_style_start n ≡ x
    → scan_parts (if x then At (with_style v n) else InStyle v n Closed) ≡ style_scan_parts n
style-parts-by v n true h = ap style_scan_parts (scan-of-start n h)
style-parts-by v n false h = refl

pub style-parts : (v : ValuePlace) (n : StyleScan) (r : Reference) → scan_parts (style_scan v n r) ≡ style_scan_parts n
style-parts v n Closed = style-parts-by v n (is_style_start n) refl
style-parts v n (Open f bytes) = refl

style-met-by : (v : ValuePlace) (n : StyleScan) (x : Bool) → is_apart (style_scan_parts n) ≡ false
    → has_met (if x then At (with_style v n) else InStyle v n Closed) ≡ false
style-met-by v n true h = unmet-spells n h
style-met-by v n false h = unmet-spells n h

pub style-met : (v : ValuePlace) (n : StyleScan) (r : Reference) → is_apart (style_scan_parts n) ≡ false → has_met (style_scan v n r) ≡ false
style-met v n Closed h = style-met-by v n (is_style_start n) h
style-met v n (Open f bytes) h = unmet-spells n h

pub element-parts-by : (n : StyleScan) (x : Bool) → is_style_start n ≡ x
    → scan_parts (if x then At (place.Style (style_scan_place n)) else InStyleElement n Nothing) ≡ style_scan_parts n
element-parts-by n true h = ap style_scan_parts (scan-of-start n h)
element-parts-by n false h = refl

element-met-by : (n : StyleScan) (x : Bool) → is_apart (style_scan_parts n) ≡ false
    → has_met (if x then At (place.Style (style_scan_place n)) else InStyleElement n Nothing) ≡ false
element-met-by n true h = unmet-spells n h
element-met-by n false h = unmet-spells n h

-- a byte where nothing is pending, behind bytes that have come to nothing
loose-parts : (n : StyleScan) (c : Class) (b : ℕ) → scan_parts (element_next n c b) ≡ style_scan_parts (feed_bytes style_feeding n (loose_fed c b))
loose-parts n LessThan b = refl
loose-parts n _ b = element-parts-by (style_feeding.feed n b) (is_style_start (style_feeding.feed n b)) refl

loose-met : (n : StyleScan) (c : Class) (b : ℕ) → is_apart (style_scan_parts (feed_bytes style_feeding n (loose_fed c b))) ≡ false
    → has_met (element_next n c b) ≡ false
loose-met n LessThan b h = unmet-spells n h
loose-met n _ b h = element-met-by (style_feeding.feed n b) (is_style_start (style_feeding.feed n b)) h

released-parts : (bytes : List ℕ) (n : StyleScan) (c : Class) (b : ℕ)
    → scan_parts (released_next n bytes c b) ≡ style_scan_parts (feed_bytes style_feeding n (bytes ++ loose_fed c b))
released-parts bytes n c b =
    loose-parts (feed_bytes style_feeding n bytes) c b ∙ ap style_scan_parts (sym (feed_more style_feeding n bytes (loose_fed c b)))

released-met : (bytes : List ℕ) (n : StyleScan) (c : Class) (b : ℕ) → is_apart (style_scan_parts (feed_bytes style_feeding n (bytes ++ loose_fed c b))) ≡ false
    → has_met (released_next n bytes c b) ≡ false
released-met bytes n c b h =
    loose-met (feed_bytes style_feeding n bytes) c b (ap (λ (m : StyleScan). is_apart (style_scan_parts m)) (sym (feed_more style_feeding n bytes (loose_fed c b))) ∙ h)

-- a scan state below one of a URL is one
abbrev PartsUnder : Option Parts → Parts → Type 0
PartsUnder o s = (t : Parts) × (o ≡ Some t) × PartsBelow t s

bodies-below : (b d : Body) (s : Parts) → joined_bodies b d ≡ Some d → body_parts d ≡ Some s → PartsUnder (body_parts b) s
bodies-below (body.Url t) (body.Url r) s h k = (t, refl, subst (PartsBelow t) (one_value r s k) (parts-below t r h))
bodies-below (body.Css c) (body.Css d) s h k =
    (let x = below-in-url (style_scan_start c) (style_scan_start d) s (starts-in-order c d h) k in (x.0, x.1, x.2.parts))
bodies-below (body.Url t) d s h k = absurd (none_some d h)
bodies-below (body.Css c) d s h k = absurd (none_some d h)
bodies-below b (body.Url r) s h k = absurd (none_some (body.Url r) h)
bodies-below b (body.Css d) s h k = absurd (none_some (body.Css d) h)
bodies-below b _ s h k = absurd (none_some s k)

under-parts : (v : ValuePlace) (n : StyleScan) (p : Place) (s : Parts) → StyleUnderPlace v n p → scan_parts (At p) ≡ Some s → PartsUnder (style_scan_parts n) s
under-parts v n (place.Value w) s l h =
    let d = under-body v n w w.body l in
    let x = below-in-url n (style_scan_start d.0) s d.2.scan (sym (ap body_parts d.1) ∙ h) in
    (x.0, x.1, x.2.parts)
under-parts v n (place.Style c) s l h = absurd l
under-parts v n _ s l h = absurd (none_some s h)

pub elements-in-order : (c d : Css) → Below (place.Style c) (place.Style d) → StyleScanBelow (style_scan_start c) (style_scan_start d)
elements-in-order c d l = (styles-grow.places c d (style-below-place c d l)).start

scans-below : (n m : StyleScan) (s : Parts) → StyleScanBelow n m → style_scan_parts m ≡ Some s → PartsUnder (style_scan_parts n) s
scans-below n m s l h = (let x = below-in-url n m s l h in (x.0, x.1, x.2.parts))

pub below-parts : (g f : Scan) (s : Parts) → ScanBelow g f → scan_parts f ≡ Some s → PartsUnder (scan_parts g) s
below-parts (At (place.Value u)) (At (place.Value v)) s l h = bodies-below u.body v.body s (below-value u v l).body h
below-parts (At x) (At (place.Value v)) s l h = absurd (none_some (place.Value v) l)
below-parts (At (place.Style c)) (At (place.Style d)) s l h =
    (let x = below-in-url (style_scan_start c) (style_scan_start d) s (elements-in-order c d l) h in (x.0, x.1, x.2.parts))
below-parts (At x) (At (place.Style d)) s l h = absurd (none_some (place.Style d) l)
below-parts (At x) (At _) s l h = absurd (none_some s h)
below-parts (InUrl u t r) (InUrl v y z) s l h = bodies-below u.body v.body s l.0.body h
below-parts (InStyle u n r) (InStyle v m z) s l h = (let x = below-in-url n m s l.0.scan h in (x.0, x.1, x.2.parts))
below-parts (InStyle u n r) (At p) s l h = under-parts u n p s l.0 h
below-parts (InStyle u n r) _ s l h = absurd l
below-parts (InStyleElement n k) f s l h =
    under-element (λ g. scan_parts g ≡ Some s → PartsUnder (style_scan_parts n) s) n k f l (λ m i e. scans-below n m s i e)
    (λ d j i e. scans-below n (style_scan_start d) s i e) h
below-parts (At x) (InUrl v t r) s l h = absurd l
below-parts (At x) (InStyle v m r) s l h = absurd l
below-parts (At x) (InStyleElement m k) s l h = absurd l
below-parts (InUrl u t r) (At x) s l h = absurd l
below-parts (InUrl u t r) (InStyle v m z) s l h = absurd l
below-parts (InUrl u t r) (InStyleElement m k) s l h = absurd l
below-parts (InAttributeName t x n) (At y) s l h = absurd l
below-parts (InAttributeName t x n) (InUrl v y r) s l h = absurd l
below-parts (InAttributeName t x n) (InStyle v m r) s l h = absurd l
below-parts (InAttributeName t x n) (InStyleElement m k) s l h = absurd l
below-parts (InScriptElement n x) (InScriptElement m y) s l h = absurd (none_some s h)
below-parts (InScriptElement n x) _ s l h = absurd l
below-parts (InScript u n r) (At x) s l h = absurd l
below-parts (InScript u n r) (InUrl v y z) s l h = absurd l
below-parts (InScript u n r) (InStyle v m z) s l h = absurd l
below-parts (InScript u n r) (InStyleElement m k) s l h = absurd l
below-parts AfterLess f s l h = absurd (none_some s (ap scan_parts l ∙ h))
below-parts AfterLessSolidus f s l h = absurd (none_some s (ap scan_parts l ∙ h))
below-parts (InDeclaration x) f s l h = absurd (none_some s (ap scan_parts l ∙ h))
below-parts (InTagName x y) f s l h = absurd (none_some s (ap scan_parts l ∙ h))
below-parts (InCommentEnd x) f s l h = absurd (none_some s (ap scan_parts l ∙ h))
below-parts (InContentEnd x y) f s l h = absurd (none_some s (ap scan_parts l ∙ h))
below-parts (BeforeType x) f s l h = absurd (none_some s (ap scan_parts l ∙ h))
below-parts (InType x y z w) f s l h = absurd (none_some s (ap scan_parts l ∙ h))
below-parts g _ s l h = absurd (none_some s h)

-- and a larger one
abbrev PartsOver : Parts → Option Parts → Type 0
PartsOver s o = (t : Parts) × (o ≡ Some t) × PartsBelow s t

bodies-above : (b d : Body) (s : Parts) → joined_bodies b d ≡ Some d → body_parts b ≡ Some s → PartsOver s (body_parts d)
bodies-above (body.Url r) (body.Url t) s h k = (t, refl, subst (λ (z : Parts). PartsBelow z t) (one_value r s k) (parts-below r t h))
bodies-above (body.Css c) (body.Css d) s h k =
    (let x = above-in-url (style_scan_start c) (style_scan_start d) s (starts-in-order c d h) k in (x.0, x.1, x.2.parts))
bodies-above (body.Url r) d s h k = absurd (none_some d h)
bodies-above (body.Css c) d s h k = absurd (none_some d h)
bodies-above b d s h k = absurd (none_some s k)

over-parts : (v : ValuePlace) (n : StyleScan) (p : Place) (s : Parts) → StyleUnderPlace v n p → style_scan_parts n ≡ Some s → PartsOver s (scan_parts (At p))
over-parts v n (place.Value w) s l h =
    let d = under-body v n w w.body l in
    let x = above-in-url n (style_scan_start d.0) s d.2.scan h in
    (x.0, ap body_parts d.1 ∙ x.1, x.2.parts)
over-parts v n _ s l h = absurd l

scans-above : (n m : StyleScan) (s : Parts) → StyleScanBelow n m → style_scan_parts n ≡ Some s → PartsOver s (style_scan_parts m)
scans-above n m s l h = (let x = above-in-url n m s l h in (x.0, x.1, x.2.parts))

pub above-parts : (g f : Scan) (s : Parts) → ScanBelow g f → scan_parts g ≡ Some s → PartsOver s (scan_parts f)
above-parts (At (place.Value u)) (At (place.Value v)) s l h = bodies-above u.body v.body s (below-value u v l).body h
above-parts (InUrl u t r) (InUrl v y z) s l h = bodies-above u.body v.body s l.0.body h
above-parts (InStyle u n r) (InStyle v m z) s l h = (let x = above-in-url n m s l.0.scan h in (x.0, x.1, x.2.parts))
above-parts (InStyle u n r) (At p) s l h = over-parts u n p s l.0 h
above-parts (InStyle u n r) _ s l h = absurd l
above-parts (InStyleElement n k) f s l h =
    under-element (λ g. PartsOver s (scan_parts g)) n k f l (λ m i. scans-above n m s i h) (λ d j i. scans-above n (style_scan_start d) s i h)
above-parts (At (place.Style c)) (At (place.Style d)) s l h = scans-above (style_scan_start c) (style_scan_start d) s (elements-in-order c d l) h
above-parts (At (place.Style c)) (At x) s l h = absurd (none_some x l)
above-parts (At (place.Style c)) _ s l h = absurd l
above-parts (At (place.Value u)) (At x) s l h = absurd (none_some x l)
above-parts (At (place.Value u)) _ s l h = absurd l
above-parts (At _) f s l h = absurd (none_some s h)
above-parts (InUrl u t r) _ s l h = absurd l
above-parts _ f s l h = absurd (none_some s h)

under-closed : (v : ValuePlace) (n : StyleScan) (r : Reference) (f : Scan) → StyleUnder v n r f → r ≡ scan_reference f
under-closed v n r (At p) l = l.1
under-closed v n r (InStyle w m z) l = l.1
under-closed v n r _ l = absurd l

pub below-reference : (g f : Scan) → ScanBelow g f → scan_reference g ≡ scan_reference f
below-reference (At x) (At y) l = refl
below-reference (At x) (InUrl v y z) l = absurd l
below-reference (At x) (InStyle v y z) l = absurd l
below-reference (At x) (InStyleElement m k) l = absurd l
below-reference (At x) _ l = refl
below-reference (InUrl u t r) (InUrl v y z) l = l.2
below-reference (InUrl u t r) _ l = absurd l
below-reference (InScriptElement n x) (InScriptElement m y) l = refl
below-reference (InScriptElement n x) _ l = absurd l
below-reference (InAttributeName t x n) (InUrl v y z) l = absurd l
below-reference (InAttributeName t x n) (InStyle v y z) l = absurd l
below-reference (InAttributeName t x n) (InStyleElement m k) l = absurd l
below-reference (InAttributeName t x n) _ l = refl
below-reference AfterLess f l = ap scan_reference l
below-reference AfterLessSolidus f l = ap scan_reference l
below-reference (InDeclaration x) f l = ap scan_reference l
below-reference (InTagName x y) f l = ap scan_reference l
below-reference (InCommentEnd x) f l = ap scan_reference l
below-reference (InContentEnd x y) f l = ap scan_reference l
below-reference (BeforeType x) f l = ap scan_reference l
below-reference (InType x y z w) f l = ap scan_reference l
below-reference (InStyle x y z) f l = under-closed x y z f l
below-reference (InScript x y z) (InUrl v a r) l = absurd l
below-reference (InScript x y z) (InStyle v a r) l = absurd l
below-reference (InScript x y z) _ l = refl
below-reference (InStyleElement n k) f l = under-element (λ g. Closed ≡ scan_reference g) n k f l (λ m i. refl) (λ d j i. refl)

-- the bytes that a scan state is fed are those that one below is fed
quotes-fed : (p q : Quotes) (r : Reference) (c : Class) (b : ℕ) → joined_quotes p q ≡ Some q → fed_in p r c b ≡ fed_in q r c b
quotes-fed quotes.Dq quotes.Dq r c b h = refl
quotes-fed quotes.Sq quotes.Sq r c b h = refl
quotes-fed (quotes.Bare x) (quotes.Bare y) r White b h = refl
quotes-fed (quotes.Bare x) (quotes.Bare y) r QuotationMark b h = refl
quotes-fed (quotes.Bare x) (quotes.Bare y) r Apostrophe b h = refl
quotes-fed (quotes.Bare x) (quotes.Bare y) r _ b h = refl
quotes-fed quotes.Dq quotes.Sq r c b h = absurd (none_some quotes.Sq h)
quotes-fed quotes.Dq (quotes.Bare y) r c b h = absurd (none_some (quotes.Bare y) h)
quotes-fed quotes.Sq quotes.Dq r c b h = absurd (none_some quotes.Dq h)
quotes-fed quotes.Sq (quotes.Bare y) r c b h = absurd (none_some (quotes.Bare y) h)
quotes-fed (quotes.Bare x) quotes.Dq r c b h = absurd (none_some quotes.Dq h)
quotes-fed (quotes.Bare x) quotes.Sq r c b h = absurd (none_some quotes.Sq h)

under-fed : (u : ValuePlace) (n : StyleScan) (r : Reference) (p : Place) (s : Parts) (c : Class) (b : ℕ) → StyleUnderPlace u n p → r ≡ Closed
    → scan_parts (At p) ≡ Some s → scan_fed (InStyle u n r) c b ≡ scan_fed (At p) c b
under-fed u n r (place.Value v) s c b l e h =
    ap (λ (x : Reference). fed_in u.quotes x c b) e ∙ quotes-fed u.quotes v.quotes Closed c b (under-body u n v v.body l).2.quotes
under-fed u n r (place.Style p) s c b l e h = absurd l
under-fed u n r _ s c b l e h = absurd (none_some s h)

pub fed-same : (g f : Scan) (s : Parts) (c : Class) (b : ℕ) → ScanBelow g f → scan_parts f ≡ Some s → scan_fed g c b ≡ scan_fed f c b
fed-same (At (place.Value u)) (At (place.Value v)) s c b l h = quotes-fed u.quotes v.quotes Closed c b (below-value u v l).quotes
fed-same (InUrl u t r) (InUrl v y z) s c b l h = ap (λ (x : Reference). fed_in u.quotes x c b) l.2 ∙ quotes-fed u.quotes v.quotes z c b l.0.quotes
fed-same (InStyle u n r) (InStyle v m z) s c b l h = ap (λ (x : Reference). fed_in u.quotes x c b) l.1 ∙ quotes-fed u.quotes v.quotes z c b l.0.quotes
fed-same (InStyle u n r) (At p) s c b l h = under-fed u n r p s c b l.0 l.1 h
fed-same (InStyle u n r) _ s c b l h = absurd l
fed-same (InStyleElement n k) f s c b l h =
    under-element (λ g. scan_fed (InStyleElement n k) c b ≡ scan_fed g c b) n k f l (λ m i. refl) (λ d j i. ap (λ (x : Pending). element_fed x c b) j)
fed-same (At (place.Style x)) (At (place.Style y)) s c b l h = refl
fed-same (At x) (At (place.Style y)) s c b l h = absurd (none_some (place.Style y) l)
fed-same (At x) (At (place.Value v)) s c b l h = absurd (none_some (place.Value v) l)
fed-same (At x) (InUrl v y z) s c b l h = absurd l
fed-same (At x) (InStyle v m z) s c b l h = absurd l
fed-same (At x) (InStyleElement m k) s c b l h = absurd l
fed-same (InUrl u t r) (At x) s c b l h = absurd l
fed-same (InUrl u t r) (InStyle v m z) s c b l h = absurd l
fed-same (InUrl u t r) (InStyleElement m k) s c b l h = absurd l
fed-same g (At (place.Style d)) s c b l h = (let p = below-parts g (At (place.Style d)) s l h in absurd (none_some p.0 p.1))
fed-same g (InStyleElement m k) s c b l h = (let p = below-parts g (InStyleElement m k) s l h in absurd (none_some p.0 p.1))
fed-same g (At (place.Value v)) s c b l h = (let p = below-parts g (At (place.Value v)) s l h in absurd (none_some p.0 p.1))
fed-same g (InUrl v y z) s c b l h = (let p = below-parts g (InUrl v y z) s l h in absurd (none_some p.0 p.1))
fed-same g (InStyle v m z) s c b l h = (let p = below-parts g (InStyle v m z) s l h in absurd (none_some p.0 p.1))
fed-same g f s c b l h = absurd (none_some s h)

-- a part of the URL is a member of the value, and of the scan state
css-has-part : (c : Css) (s : Parts) (y : Member) → style_scan_parts (style_scan_start c) ≡ Some s → parts_have s y ≡ true → css_has c y ≡ true
css-has-part (css.Url t) s y h k = subst (λ (z : Parts). parts_have z y ≡ true) (sym (one_value t s h)) k
css-has-part (css.UrlDq t) s y h k = subst (λ (z : Parts). parts_have z y ≡ true) (sym (one_value t s h)) k
css-has-part (css.UrlSq t) s y h k = subst (λ (z : Parts). parts_have z y ≡ true) (sym (one_value t s h)) k
css-has-part (css.Comment true) s y h k = absurd (none_some s h)
css-has-part (css.Comment false) s y h k = absurd (none_some s h)
css-has-part _ s y h k = absurd (none_some s h)

pub body-has-part : (b : Body) (s : Parts) (y : Member) → body_parts b ≡ Some s → parts_have s y ≡ true → body_has b y ≡ true
body-has-part (body.Url t) s y h k = subst (λ (z : Parts). parts_have z y ≡ true) (sym (one_value t s h)) k
body-has-part (body.Css c) s y h k = css-has-part c s y h k
body-has-part _ s y h k = absurd (none_some s h)

pub set-has-part : (n : StyleScan) (s : Parts) (y : Member) → style_scan_parts n ≡ Some s → parts_have s y ≡ true → scan_set_has n y ≡ true
set-has-part (ScanBareUrl t x) s y h k = subst (λ (z : Parts). parts_have z y ≡ true) (sym (one_value t s h)) k
set-has-part (ScanQuotedUrl q e t x) s y h k = subst (λ (z : Parts). parts_have z y ≡ true) (sym (one_value t s h)) k
set-has-part n s y h k = absurd (none_some s h)

-- Where a byte leads in a URL: out of it, or on, behind the bytes that it is fed.
pub record Goes (v : ValuePlace) (r : Reference) (c : Class) (b : ℕ) (s : Parts) (f : Scan) : Type 0 where
  pub parts : ((scan_parts f ≡ None) × (has_met f ≡ false)) ⊎ (scan_parts f ≡ Some (feed_bytes parts_feeding s (fed_in v.quotes r c b)))
  pub reference : (scan_reference f ≡ Closed) ⊎ (scan_reference f ≡ next_reference r c b)

fed-on : (v : ValuePlace) (q : Quotes) (x : Body) (t : Triple) (r : Reference) (c : Class) (b : ℕ) (s : Parts) → x ≡ body.Url s
    → (scan_parts (value_fed v q x t r c b) ≡ Some (feed_bytes parts_feeding s (undone_byte true r c b)))
    × (scan_reference (value_fed v q x t r c b) ≡ next_reference r c b)
fed-on v q x t r c b s e =
    let bytes = undone_byte true r c b in
    let w = with_parts v q (feed_bytes parts_feeding s bytes) in (
      ap (λ (y : Body). scan_parts (value_fed v q y t r c b)) e ∙ url-parts w (triple_behind t bytes) (next_reference r c b),
      ap (λ (y : Body). scan_reference (value_fed v q y t r c b)) e ∙ url-reference w (triple_behind t bytes) (next_reference r c b),
    )

goes-on : (v : ValuePlace) (q p : Quotes) (t : Triple) (r : Reference) (c : Class) (b : ℕ) (s : Parts) → v.body ≡ body.Url s → v.quotes ≡ p
    → fed_in p r c b ≡ undone_byte true r c b → Goes v r c b s (value_fed v q v.body t r c b)
goes-on v q p t r c b s e d i =
    let f = fed-on v q v.body t r c b s e in
    record {
      parts = inr (f.0 ∙ ap (λ (bytes : List ℕ). Some (feed_bytes parts_feeding s bytes)) (sym (ap (λ (z : Quotes). fed_in z r c b) d ∙ i)));
      reference = inr f.1;
    }

goes-kept : (v : ValuePlace) (q p : Quotes) (r : Reference) (c : Class) (b : ℕ) (s : Parts) → v.body ≡ body.Url s → v.quotes ≡ p → fed_in p r c b ≡ []
    → Goes v r c b s (with_quotes v q)
goes-kept v q p r c b s e d i = record {
  parts = inr (ap body_parts e ∙ ap (λ (bytes : List ℕ). Some (feed_bytes parts_feeding s bytes)) (sym (ap (λ (z : Quotes). fed_in z r c b) d ∙ i)));
  reference = inl refl;
}

abbrev pub IsFresh : Scan → Type 0
IsFresh f = (has_met f ≡ false) × (scan_reference f ≡ Closed)

goes-out : (v : ValuePlace) (r : Reference) (c : Class) (b : ℕ) (s : Parts) (f : Scan) → scan_parts f ≡ None → IsFresh f → Goes v r c b s f
goes-out v r c b s f h k = record { parts = inl (h, k.0); reference = inl k.1 }

content-out : (t : TagOf) → (scan_parts (content_scan t) ≡ None) × IsFresh (content_scan t)
content-out tag.End = (refl, (refl, refl))
content-out (tag.Start element.Title) = (refl, (refl, refl))
content-out (tag.Start element.Textarea) = (refl, (refl, refl))
content-out (tag.Start element.DataBlock) = (refl, (refl, refl))
content-out (tag.Start element.Style) = (refl, (refl, refl))
content-out (tag.Start _) = (refl, (refl, refl))

goes-white : (v : ValuePlace) (uq : Bool) (p : Quotes) (r : Reference) (b : ℕ) (s : Parts) → v.body ≡ body.Url s → v.quotes ≡ p
    → fed_in p r White b ≡ [] → Goes v r White b s (bare_white v uq)
goes-white v true p r b s e d i = goes-out v r White b s _ refl (refl, refl)
goes-white v false p r b s e d i = goes-kept v _ p r White b s e d i

goes-quoted : (v : ValuePlace) (q : Quotes) (t : Triple) (r : Reference) (c : Class) (b : ℕ) (s : Parts) → v.body ≡ body.Url s → v.quotes ≡ q
    → Goes v r c b s (quoted_next v q t r c b)
goes-quoted v quotes.Dq t r QuotationMark b s e d = goes-out v r QuotationMark b s _ refl (refl, refl)
goes-quoted v quotes.Dq t r c b s e d = goes-on v quotes.Dq quotes.Dq t r c b s e d refl
goes-quoted v quotes.Sq t r Apostrophe b s e d = goes-out v r Apostrophe b s _ refl (refl, refl)
goes-quoted v quotes.Sq t r c b s e d = goes-on v quotes.Sq quotes.Sq t r c b s e d refl
goes-quoted v (quotes.Bare x) t r White b s e d = goes-white v x.uq (quotes.Bare x) r b s e d refl
goes-quoted v (quotes.Bare x) t r QuotationMark b s e d = goes-kept v quotes.Dq (quotes.Bare x) r QuotationMark b s e d refl
goes-quoted v (quotes.Bare x) t r Apostrophe b s e d = goes-kept v quotes.Sq (quotes.Bare x) r Apostrophe b s e d refl
goes-quoted v (quotes.Bare x) t r GreaterThan b s e d =
    (let o = content-out v.tag in goes-out v r GreaterThan b s (content_scan v.tag) o.0 o.1)
goes-quoted v (quotes.Bare x) t r c b s e d = goes-on v _ (quotes.Bare x) t r c b s e d refl

pub goes : (f : Scan) (s : Parts) (u : UrlAt f s) (c : Class) (b : ℕ) → Goes u.value u.reference c b s (scan_next f c b)
goes f s u c b =
    subst (Goes u.value u.reference c b s) (sym (u.next c b)) (goes-quoted u.value u.value.quotes u.triple u.reference c b s u.body refl)

-- In a style: on, behind the bytes that it is fed; else out of the URL, or into another one.
abbrev GoesOrOut : ValuePlace → Reference → Class → ℕ → Parts → Scan → Type 0
GoesOrOut v r c b s f = (has_met f ≡ false) ⊎ (scan_parts f ≡ Some (feed_bytes parts_feeding s (fed_in v.quotes r c b)))

fed-by : (w : ValuePlace) (n : StyleScan) (r : Reference) (s : Parts) (bytes : List ℕ) → style_scan_parts n ≡ Some s
    → StaysInUrl n bytes ⊎ KnownUrl (feed_bytes style_feeding n bytes)
    → (has_met (style_scan w (feed_bytes style_feeding n bytes) r) ≡ false)
    ⊎ (scan_parts (style_scan w (feed_bytes style_feeding n bytes) r) ≡ Some (feed_bytes parts_feeding s bytes))
fed-by w n r s bytes h (inl k) = inr (style-parts w (feed_bytes style_feeding n bytes) r ∙ stays-parts bytes n s h k)
fed-by w n r s bytes h (inr k) = inl (style-met w (feed_bytes style_feeding n bytes) r (known-unmet (feed_bytes style_feeding n bytes) k))

style-on : (v w : ValuePlace) (q : Quotes) (n : StyleScan) (r : Reference) (c : Class) (b : ℕ) (s : Parts) → style_scan_parts n ≡ Some s → v.quotes ≡ q
    → fed_in q r c b ≡ undone_byte true r c b → GoesOrOut v r c b s (style_fed w n r c b)
style-on v w q n r c b s h d i =
    let bytes = undone_byte true r c b in
    subst (λ (x : List ℕ). (has_met (style_fed w n r c b) ≡ false) ⊎ (scan_parts (style_fed w n r c b) ≡ Some (feed_bytes parts_feeding s x)))
    (sym (ap (λ (z : Quotes). fed_in z r c b) d ∙ i)) (fed-by w n (next_reference r c b) s bytes h (feeds bytes n s h))

style-kept : (v : ValuePlace) (q z : Quotes) (n : StyleScan) (r : Reference) (c : Class) (b : ℕ) (s : Parts) → style_scan_parts n ≡ Some s → v.quotes ≡ q
    → fed_in q r c b ≡ [] → KeptBody v n → GoesOrOut v r c b s (with_quotes v z)
style-kept v q z n r c b s h d i (inl k) =
    inr (k ∙ h ∙ ap (λ (bytes : List ℕ). Some (feed_bytes parts_feeding s bytes)) (sym (ap (λ (x : Quotes). fed_in x r c b) d ∙ i)))
style-kept v q z n r c b s h d i (inr k) = inl (ap (λ (x : Body). spells_apart (beginning_in_body x)) k.0)

style-white : (v : ValuePlace) (uq : Bool) (q : Quotes) (n : StyleScan) (r : Reference) (b : ℕ) (s : Parts) → style_scan_parts n ≡ Some s → v.quotes ≡ q
    → fed_in q r White b ≡ [] → KeptBody v n → GoesOrOut v r White b s (bare_white v uq)
style-white v true q n r b s h d i k = inl refl
style-white v false q n r b s h d i k = style-kept v q unbegun n r White b s h d i k

style-lead : (v : ValuePlace) (q : Quotes) (o : Quotes → ValuePlace) (n : StyleScan) (r : Reference) (c : Class) (b : ℕ) (s : Parts)
    → style_scan_parts n ≡ Some s → v.quotes ≡ q → KeptBody v n
    → GoesOrOut v r c b s (quotes_lead v q c (λ p. style_fed (o p) n r c b))
style-lead v quotes.Dq o n r QuotationMark b s h d k = inl refl
style-lead v quotes.Dq o n r c b s h d k = style-on v (o quotes.Dq) quotes.Dq n r c b s h d refl
style-lead v quotes.Sq o n r Apostrophe b s h d k = inl refl
style-lead v quotes.Sq o n r c b s h d k = style-on v (o quotes.Sq) quotes.Sq n r c b s h d refl
style-lead v (quotes.Bare x) o n r White b s h d k = style-white v x.uq (quotes.Bare x) n r b s h d refl k
style-lead v (quotes.Bare x) o n r QuotationMark b s h d k = style-kept v (quotes.Bare x) quotes.Dq n r QuotationMark b s h d refl k
style-lead v (quotes.Bare x) o n r Apostrophe b s h d k = style-kept v (quotes.Bare x) quotes.Sq n r Apostrophe b s h d refl k
style-lead v (quotes.Bare x) o n r GreaterThan b s h d k = inl (content-out v.tag).1.0
style-lead v (quotes.Bare x) o n r c b s h d k = style-on v (o bare_begun) (quotes.Bare x) n r c b s h d refl

-- the reference that is open behind a byte
abbrev pub Holds : Scan → Reference → Class → ℕ → Type 0
Holds g r c b = (scan_reference g ≡ Closed) ⊎ (scan_reference g ≡ next_reference r c b)

white-holds : (v : ValuePlace) (uq : Bool) (r : Reference) (b : ℕ) → Holds (bare_white v uq) r White b
white-holds v true r b = inl refl
white-holds v false r b = inl refl

lead-holds : (v : ValuePlace) (q : Quotes) (r : Reference) (c : Class) (b : ℕ) (g : Quotes → Scan) → ((p : Quotes) → Holds (g p) r c b)
    → Holds (quotes_lead v q c g) r c b
lead-holds v quotes.Dq r QuotationMark b g k = inl refl
lead-holds v quotes.Dq r c b g k = k quotes.Dq
lead-holds v quotes.Sq r Apostrophe b g k = inl refl
lead-holds v quotes.Sq r c b g k = k quotes.Sq
lead-holds v (quotes.Bare x) r White b g k = white-holds v x.uq r b
lead-holds v (quotes.Bare x) r QuotationMark b g k = inl refl
lead-holds v (quotes.Bare x) r Apostrophe b g k = inl refl
lead-holds v (quotes.Bare x) r GreaterThan b g k = inl (content-out v.tag).1.1
lead-holds v (quotes.Bare x) r c b g k = k bare_begun

fed-holds : (v : ValuePlace) (q : Quotes) (x : Body) (t : Triple) (r : Reference) (c : Class) (b : ℕ) → Holds (value_fed v q x t r c b) r c b
fed-holds v q (body.Url s) t r c b =
    let bytes = undone_byte true r c b in
    inr (url-reference (with_parts v q (feed_bytes parts_feeding s bytes)) (triple_behind t bytes) (next_reference r c b))
fed-holds v q (body.Css p) t r c b =
    inr (style-scan-reference (empty_style_between v q) (feed_bytes style_feeding (style_scan_start p) (undone_byte true r c b)) (next_reference r c b))
fed-holds v q _ t r c b = inl refl

value-holds : (v : ValuePlace) (t : Triple) (r : Reference) (c : Class) (b : ℕ) → Holds (value_next v t r c b) r c b
value-holds v t r c b = lead-holds v v.quotes r c b (λ p. value_fed v p v.body t r c b) (λ p. fed-holds v p v.body t r c b)

style-holds : (v : ValuePlace) (n : StyleScan) (r : Reference) (c : Class) (b : ℕ) → Holds (style_value_next v n r c b) r c b
style-holds v n r c b =
    lead-holds v v.quotes r c b (λ p. style_fed (value_between v p) n r c b)
    (λ p. inr (style-scan-reference (value_between v p) (feed_bytes style_feeding n (undone_byte true r c b)) (next_reference r c b)))

script-holds : (v : ValuePlace) (n : ScriptScan) (r : Reference) (c : Class) (b : ℕ) → Holds (script_value_next v n r c b) Closed c b
script-holds v n r c b = lead-holds v v.quotes Closed c b (λ p. script_fed_next (value_between v p) n r c b) (λ p. inl refl)

pub element-closed-by : (n : StyleScan) (x : Bool) → scan_reference (if x then At (place.Style (style_scan_place n)) else InStyleElement n Nothing) ≡ Closed
element-closed-by n true = refl
element-closed-by n false = refl

loose-closed : (n : StyleScan) (c : Class) (b : ℕ) → scan_reference (element_next n c b) ≡ Closed
loose-closed n LessThan b = refl
loose-closed n _ b = element-closed-by (style_feeding.feed n b) (is_style_start (style_feeding.feed n b))

less-closed : (n : StyleScan) (c : Class) (b : ℕ) → scan_reference (element_less_next n c b) ≡ Closed
less-closed n Solidus b = refl
less-closed n c b = loose-closed (feed_bytes style_feeding n (codes "<")) c b

name-closed : (n : StyleScan) (grows whole : Bool) (c : Class) (b : ℕ) (letters : List ℕ) → scan_reference (element_name_next n grows whole c b letters) ≡ Closed
name-closed n true whole (Letter l) b letters = refl
name-closed n true true White b letters = refl
name-closed n true true Solidus b letters = refl
name-closed n true true GreaterThan b letters = refl
name-closed n true true c b letters = loose-closed (feed_bytes style_feeding n (codes "</" ++ letters)) c b
name-closed n true false c b letters = loose-closed (feed_bytes style_feeding n (codes "</" ++ letters)) c b
name-closed n false true White b letters = refl
name-closed n false true Solidus b letters = refl
name-closed n false true GreaterThan b letters = refl
name-closed n false true c b letters = loose-closed (feed_bytes style_feeding n (codes "</" ++ letters)) c b
name-closed n false false c b letters = loose-closed (feed_bytes style_feeding n (codes "</" ++ letters)) c b

pub element-closed : (n : StyleScan) (h : Pending) (c : Class) (b : ℕ) → scan_reference (element_pending_next n h c b) ≡ Closed
element-closed n Nothing c b = loose-closed n c b
element-closed n PendingLess c b = less-closed n c b
element-closed n LessAtCut c b = loose-closed (feed_bytes style_feeding n (codes "<")) c b
element-closed n (PendingName letters) c b =
    name-closed n (may_be_name_of element.Style (letters ++ b ∷ [])) (is_name_of element.Style letters) c b letters
element-closed n PendingBang c b = loose-closed (feed_bytes style_feeding n (codes "<!")) c b
element-closed n PendingBangDash c b = loose-closed (feed_bytes style_feeding n (codes "<!-")) c b
element-closed n (PendingOpening letters) c b = loose-closed (feed_bytes style_feeding n (codes "<" ++ letters)) c b

pub record NextUrl (f : Scan) (s : Parts) (c : Class) (b : ℕ) : Type 0 where
  pub parts : (has_met (scan_next f c b) ≡ false) ⊎ (scan_parts (scan_next f c b) ≡ Some (feed_bytes parts_feeding s (scan_fed f c b)))
  pub reference : (scan_reference (scan_next f c b) ≡ Closed) ⊎ (scan_reference (scan_next f c b) ≡ next_reference (scan_reference f) c b)

abbrev PartsOrOut : Scan → Parts → List ℕ → Type 0
PartsOrOut g s bytes = (has_met g ≡ false) ⊎ (scan_parts g ≡ Some (feed_bytes parts_feeding s bytes))

out-of : (g : Scan) (s : Parts) (bytes : List ℕ) → ((scan_parts g ≡ None) × (has_met g ≡ false)) ⊎ (scan_parts g ≡ Some (feed_bytes parts_feeding s bytes))
    → PartsOrOut g s bytes
out-of g s bytes (inl k) = inl k.1
out-of g s bytes (inr k) = inr k

-- In the element, where pending bytes come to nothing; where they go on with the end tag, nothing is fed.
released-on : (bytes : List ℕ) (n : StyleScan) (c : Class) (b : ℕ) (s : Parts) → style_scan_parts n ≡ Some s
    → StaysInUrl n (bytes ++ loose_fed c b) ⊎ KnownUrl (feed_bytes style_feeding n (bytes ++ loose_fed c b))
    → PartsOrOut (released_next n bytes c b) s (bytes ++ loose_fed c b)
released-on bytes n c b s h (inl k) = inr (released-parts bytes n c b ∙ stays-parts (bytes ++ loose_fed c b) n s h k)
released-on bytes n c b s h (inr k) =
    inl (released-met bytes n c b (known-unmet (feed_bytes style_feeding n (bytes ++ loose_fed c b)) k))

released-goes : (bytes : List ℕ) (n : StyleScan) (c : Class) (b : ℕ) (s : Parts) → style_scan_parts n ≡ Some s
    → PartsOrOut (released_next n bytes c b) s (bytes ++ loose_fed c b)
released-goes bytes n c b s h = released-on bytes n c b s h (feeds (bytes ++ loose_fed c b) n s h)

less-goes : (n : StyleScan) (c : Class) (b : ℕ) (s : Parts) → style_scan_parts n ≡ Some s → PartsOrOut (element_less_next n c b) s (less_fed c b)
less-goes n Solidus b s h = inr h
less-goes n c b s h = released-goes (codes "<") n c b s h

name-goes : (n : StyleScan) (grows whole : Bool) (c : Class) (b : ℕ) (letters : List ℕ) (s : Parts) → style_scan_parts n ≡ Some s
    → PartsOrOut (element_name_next n grows whole c b letters) s (end_name_fed grows whole c b letters)
name-goes n true whole (Letter l) b letters s h = inr h
name-goes n true true White b letters s h = inl refl
name-goes n true true Solidus b letters s h = inl refl
name-goes n true true GreaterThan b letters s h = inl refl
name-goes n true true c b letters s h = released-goes (codes "</" ++ letters) n c b s h
name-goes n true false c b letters s h = released-goes (codes "</" ++ letters) n c b s h
name-goes n false true White b letters s h = inl refl
name-goes n false true Solidus b letters s h = inl refl
name-goes n false true GreaterThan b letters s h = inl refl
name-goes n false true c b letters s h = released-goes (codes "</" ++ letters) n c b s h
name-goes n false false c b letters s h = released-goes (codes "</" ++ letters) n c b s h

element-goes : (n : StyleScan) (h : Pending) (c : Class) (b : ℕ) (s : Parts) → style_scan_parts n ≡ Some s
    → PartsOrOut (element_pending_next n h c b) s (element_fed h c b)
element-goes n Nothing c b s h = released-goes [] n c b s h
element-goes n PendingLess c b s h = less-goes n c b s h
element-goes n LessAtCut c b s h = released-goes (codes "<") n c b s h
element-goes n (PendingName letters) c b s h =
    name-goes n (may_be_name_of element.Style (letters ++ b ∷ [])) (is_name_of element.Style letters) c b letters s h
element-goes n PendingBang c b s h = released-goes (codes "<!") n c b s h
element-goes n PendingBangDash c b s h = released-goes (codes "<!-") n c b s h
element-goes n (PendingOpening letters) c b s h = released-goes (codes "<" ++ letters) n c b s h

next-parts : (f : Scan) (s : Parts) (c : Class) (b : ℕ) → UrlOrStyle f s → PartsOrOut (scan_next f c b) s (scan_fed f c b)
next-parts f s c b (by_url u) =
    subst (PartsOrOut (scan_next f c b) s) (u.fed c b) (out-of (scan_next f c b) s (fed_in u.value.quotes u.reference c b) (goes f s u c b).parts)
next-parts f s c b (by_style n u h) =
    subst (PartsOrOut (scan_next f c b) s) (u.fed c b)
    (subst (λ (g : Scan). PartsOrOut g s (fed_in u.value.quotes u.reference c b)) (sym (u.next c b))
    (style-lead u.value u.value.quotes u.over n u.reference c b s h refl u.kept))
next-parts f s c b (by_element n u h) =
    subst (PartsOrOut (scan_next f c b) s) (u.fed c b)
    (subst (λ (g : Scan). PartsOrOut g s (element_fed u.pending c b)) (sym (u.next c b)) (element-goes n u.pending c b s h))

value-next-holds : (f : Scan) (s : Parts) (c : Class) (b : ℕ) → UrlOrStyle f s → Holds (scan_next f c b) (scan_reference f) c b
value-next-holds f s c b (by_url u) =
    subst (λ (r : Reference). Holds (scan_next f c b) r c b) (sym u.holds)
    (subst (λ (g : Scan). Holds g u.reference c b) (sym (u.next c b)) (value-holds u.value u.triple u.reference c b))
value-next-holds f s c b (by_style n u h) =
    subst (λ (r : Reference). Holds (scan_next f c b) r c b) (sym u.holds)
    (subst (λ (g : Scan). Holds g u.reference c b) (sym (u.next c b))
    (lead-holds u.value u.value.quotes u.reference c b (λ p. style_fed (u.over p) n u.reference c b)
    (λ p. inr (style-scan-reference (u.over p) (feed_bytes style_feeding n (undone_byte true u.reference c b)) (next_reference u.reference c b)))))
value-next-holds f s c b (by_element n u h) = inl (ap scan_reference (u.next c b) ∙ element-closed n u.pending c b)

pub next-url : (f : Scan) (s : Parts) (c : Class) (b : ℕ) → ScanValid f → scan_parts f ≡ Some s → NextUrl f s c b
next-url f s c b w h =
    let u = url-at f s w h in
    record { parts = next-parts f s c b u; reference = value-next-holds f s c b u }

parts-met : (g : Scan) (y : Parts) → scan_parts g ≡ Some y → spells_apart y.opened ≡ true → has_met g ≡ true
parts-met g y k a = ap spells_apart (raw-opened g y k) ∙ a

met-parts : (g : Scan) (s : Parts) (bytes : List ℕ) → PartsOrOut g s bytes → has_met g ≡ true → scan_parts g ≡ Some (feed_bytes parts_feeding s bytes)
met-parts g s bytes (inl n) h = absurd (no (sym n ∙ h))
met-parts g s bytes (inr e) h = e

-- where paths have met in the beginning behind the byte
pub goes-parts : (f : Scan) (s y : Parts) (c : Class) (b : ℕ) → ScanValid f → scan_parts f ≡ Some s → scan_parts (scan_next f c b) ≡ Some y
    → spells_apart y.opened ≡ true → scan_parts (scan_next f c b) ≡ Some (feed_bytes parts_feeding s (scan_fed f c b))
goes-parts f s y c b w h k a =
    let g = scan_next f c b in
    met-parts g s (scan_fed f c b) (next-url f s c b w h).parts (parts-met g y k a)

-- Below one of which paths have met in the beginning behind the byte, a scan state goes on too.
on-below : (w x : ValuePlace) (n m : StyleScan) (r : Reference) (bytes : List ℕ) (t s : Parts) → style_scan_parts n ≡ Some t → SameUrl n m
    → has_met (style_scan x (feed_bytes style_feeding m bytes) r) ≡ true → StaysInUrl m bytes ⊎ KnownUrl (feed_bytes style_feeding m bytes)
    → scan_parts (style_scan w (feed_bytes style_feeding n bytes) r) ≡ Some (feed_bytes parts_feeding t bytes)
on-below w x n m r bytes t s h e met (inl k) = style-parts w (feed_bytes style_feeding n bytes) r ∙ stays-parts bytes n t h (stays-same bytes n m e k)
on-below w x n m r bytes t s h e met (inr k) =
    absurd (no (sym (style-met x (feed_bytes style_feeding m bytes) r (known-unmet (feed_bytes style_feeding m bytes) k)) ∙ met))

record StylesBeside (u v : ValuePlace) (n m : StyleScan) (t s : Parts) : Type 0 where
  quotes : joined_quotes u.quotes v.quotes ≡ Some v.quotes
  kept : KeptBody u n
  there : style_scan_parts n ≡ Some t
  above : style_scan_parts m ≡ Some s
  same : SameUrl n m

beside-on : (u v w x : ValuePlace) (p : Quotes) (n m : StyleScan) (r : Reference) (c : Class) (b : ℕ) (t s : Parts) → StylesBeside u v n m t s → u.quotes ≡ p
    → fed_in p r c b ≡ undone_byte true r c b → has_met (style_fed x m r c b) ≡ true
    → scan_parts (style_fed w n r c b) ≡ Some (feed_bytes parts_feeding t (fed_in u.quotes r c b))
beside-on u v w x p n m r c b t s h d i met =
    let bytes = undone_byte true r c b in
    on-below w x n m (next_reference r c b) bytes t s h.there h.same met (feeds bytes m s h.above)
    ∙ ap (λ (z : List ℕ). Some (feed_bytes parts_feeding t z)) (sym (ap (λ (z : Quotes). fed_in z r c b) d ∙ i))

bare-unused : (u : ValuePlace) (x y : Bare) → u.quotes ≡ quotes.Bare x → HasBegun u.quotes → Under x.uq y.uq → y.uq ≡ false → ⊥
bare-unused u x y d w l e = no (sym (under-false x.uq (subst (Under x.uq) e l)) ∙ (subst HasBegun d w).0)

beside-kept : (u v : ValuePlace) (x y : Bare) (z : Quotes) (n m : StyleScan) (r : Reference) (c : Class) (b : ℕ) (t s : Parts) → StylesBeside u v n m t s
    → u.quotes ≡ quotes.Bare x → fed_in (quotes.Bare x) r c b ≡ [] → Under x.uq y.uq → y.uq ≡ false → KeptBody u n
    → scan_parts (with_quotes u z) ≡ Some (feed_bytes parts_feeding t (fed_in u.quotes r c b))
beside-kept u v x y z n m r c b t s h d i l e (inl k) =
    k ∙ h.there ∙ ap (λ (bytes : List ℕ). Some (feed_bytes parts_feeding t bytes)) (sym (ap (λ (q : Quotes). fed_in q r c b) d ∙ i))
beside-kept u v x y z n m r c b t s h d i l e (inr k) = absurd (bare-unused u x y d k.1 l e)

beside-white : (u v : ValuePlace) (x y : Bare) (f g : Bool) (n m : StyleScan) (r : Reference) (b : ℕ) (t s : Parts) → StylesBeside u v n m t s
    → u.quotes ≡ quotes.Bare x → x.uq ≡ f → y.uq ≡ g → Under x.uq y.uq → has_met (bare_white v g) ≡ true
    → scan_parts (bare_white u f) ≡ Some (feed_bytes parts_feeding t (fed_in u.quotes r White b))
beside-white u v x y f true n m r b t s h d i j l met = absurd (no met)
beside-white u v x y true false n m r b t s h d i j l met = absurd (no (sym (under-false x.uq (subst (Under x.uq) j l)) ∙ i))
beside-white u v x y false false n m r b t s h d i j l met = beside-kept u v x y unbegun n m r White b t s h d refl l j h.kept

beside-lead : (u v : ValuePlace) (p q : Quotes) (o a : Quotes → ValuePlace) (n m : StyleScan) (r : Reference) (c : Class) (b : ℕ) (t s : Parts)
    → StylesBeside u v n m t s → u.quotes ≡ p → v.quotes ≡ q → joined_quotes p q ≡ Some q → quotes_error v.tag q c ≡ None
    → has_met (quotes_lead v q c (λ z. style_fed (a z) m r c b)) ≡ true
    → scan_parts (quotes_lead u p c (λ z. style_fed (o z) n r c b)) ≡ Some (feed_bytes parts_feeding t (fed_in u.quotes r c b))
beside-lead u v quotes.Dq quotes.Dq o a n m r QuotationMark b t s h d e j w met = absurd (no met)
beside-lead u v quotes.Dq quotes.Dq o a n m r c b t s h d e j w met = beside-on u v (o quotes.Dq) (a quotes.Dq) quotes.Dq n m r c b t s h d refl met
beside-lead u v quotes.Sq quotes.Sq o a n m r Apostrophe b t s h d e j w met = absurd (no met)
beside-lead u v quotes.Sq quotes.Sq o a n m r c b t s h d e j w met = beside-on u v (o quotes.Sq) (a quotes.Sq) quotes.Sq n m r c b t s h d refl met
beside-lead u v (quotes.Bare x) (quotes.Bare y) o a n m r White b t s h d e j w met =
    beside-white u v x y x.uq y.uq n m r b t s h d refl refl (bare-parts x y j).0 met
beside-lead u v (quotes.Bare x) (quotes.Bare y) o a n m r QuotationMark b t s h d e j w met =
    beside-kept u v x y quotes.Dq n m r QuotationMark b t s h d refl (bare-parts x y j).0 (if-none y.uq code.BadHTML w) h.kept
beside-lead u v (quotes.Bare x) (quotes.Bare y) o a n m r Apostrophe b t s h d e j w met =
    beside-kept u v x y quotes.Sq n m r Apostrophe b t s h d refl (bare-parts x y j).0 (if-none y.uq code.BadHTML w) h.kept
beside-lead u v (quotes.Bare x) (quotes.Bare y) o a n m r GreaterThan b t s h d e j w met = absurd (no (sym (content-out v.tag).1.0 ∙ met))
beside-lead u v (quotes.Bare x) (quotes.Bare y) o a n m r c b t s h d e j w met = beside-on u v (o bare_begun) (a bare_begun) (quotes.Bare x) n m r c b t s h d refl met
beside-lead u v quotes.Dq quotes.Sq o a n m r c b t s h d e j w met = absurd (none_some quotes.Sq j)
beside-lead u v quotes.Dq (quotes.Bare y) o a n m r c b t s h d e j w met = absurd (none_some (quotes.Bare y) j)
beside-lead u v quotes.Sq quotes.Dq o a n m r c b t s h d e j w met = absurd (none_some quotes.Dq j)
beside-lead u v quotes.Sq (quotes.Bare y) o a n m r c b t s h d e j w met = absurd (none_some (quotes.Bare y) j)
beside-lead u v (quotes.Bare x) quotes.Dq o a n m r c b t s h d e j w met = absurd (none_some quotes.Dq j)
beside-lead u v (quotes.Bare x) quotes.Sq o a n m r c b t s h d e j w met = absurd (none_some quotes.Sq j)

styles-go : (g f : Scan) (n m : StyleScan) (x : StyleAt g n) (y : StyleAt f m) (t : Parts) (c : Class) (b : ℕ)
    → joined_quotes x.value.quotes y.value.quotes ≡ Some y.value.quotes → x.reference ≡ y.reference → StyleScanBelow n m → style_scan_parts n ≡ Some t
    → scan_error f c b ≡ None → has_met (scan_next f c b) ≡ true → scan_parts (scan_next g c b) ≡ Some (feed_bytes parts_feeding t (scan_fed g c b))
styles-go g f n m x y t c b j r l h e met =
    let k = above-in-url n m t l h in
    let u : StylesBeside x.value y.value n m t k.0 = record { quotes = j; kept = x.kept; there = h; above = k.1; same = k.2.same } in
    let above : has_met (quotes_lead y.value y.value.quotes c (λ z. style_fed (y.over z) m x.reference c b)) ≡ true =
    subst (λ (z : Reference). has_met (quotes_lead y.value y.value.quotes c (λ p. style_fed (y.over p) m z c b)) ≡ true) (sym r)
    (subst (λ (z : Scan). has_met z ≡ true) (y.next c b) met) in
    ap scan_parts (x.next c b)
    ∙ (beside-lead x.value y.value x.value.quotes y.value.quotes x.over y.over n m x.reference c b t k.0 u refl refl j (y.taken c b e) above
    ∙ ap (λ (z : List ℕ). Some (feed_bytes parts_feeding t z)) (x.fed c b))

-- in a URL that is no style
some-parts : (g : Scan) (t z : Parts) (bytes : List ℕ)
    → ((scan_parts g ≡ None) × (has_met g ≡ false)) ⊎ (scan_parts g ≡ Some (feed_bytes parts_feeding t bytes)) → scan_parts g ≡ Some z
    → scan_parts g ≡ Some (feed_bytes parts_feeding t bytes)
some-parts g t z bytes (inl n) k = absurd (none_some z (sym n.0 ∙ k))
some-parts g t z bytes (inr e) k = e

url-goes : (g : Scan) (t z : Parts) (c : Class) (b : ℕ) (u : UrlAt g t) → scan_parts (scan_next g c b) ≡ Some z
    → scan_parts (scan_next g c b) ≡ Some (feed_bytes parts_feeding t (scan_fed g c b))
url-goes g t z c b u k =
    let bytes = fed_in u.value.quotes u.reference c b in
    subst (λ (x : List ℕ). scan_parts (scan_next g c b) ≡ Some (feed_bytes parts_feeding t x)) (u.fed c b)
    (some-parts (scan_next g c b) t z bytes (goes g t u c b).parts k)

css-above : (c : Css) (b : Body) → joined_bodies (body.Css c) b ≡ Some b → (d : Css) × (b ≡ body.Css d)
css-above c (body.Css d) h = (d, refl)
css-above c body.Plain h = absurd (none_some body.Plain h)
css-above c body.NoHole h = absurd (none_some body.NoHole h)
css-above c (body.Js j) h = absurd (none_some (body.Js j) h)
css-above c (body.Url s) h = absurd (none_some (body.Url s) h)

places-go : (u v : ValuePlace) (t z : Parts) (c : Class) (b : ℕ) → ValueBelow u v → InBody u.body t → scan_error (At (place.Value v)) c b ≡ None
    → has_met (scan_next (At (place.Value v)) c b) ≡ true → scan_parts (scan_next (At (place.Value u)) c b) ≡ Some z
    → scan_parts (scan_next (At (place.Value u)) c b) ≡ Some (feed_bytes parts_feeding t (scan_fed (At (place.Value u)) c b))
unfolding place-style
places-go u v t z c b l (in_url e) n met k = url-goes (At (place.Value u)) t z c b (place-url u t e) k
places-go u v t z c b l (in_style a e h) n met k =
    let above = subst (λ (x : Body). joined_bodies x v.body ≡ Some v.body) e l.body in
    let d = css-above a v.body above in
    styles-go (At (place.Value u)) (At (place.Value v)) (style_scan_start a) (style_scan_start d.0) (place-style u a e) (place-style v d.0 d.1) t c b l.quotes refl
    (starts-in-order a d.0 (subst (λ (x : Body). joined_bodies (body.Css a) x ≡ Some x) d.1 above)) h n met

under-go : (u : ValuePlace) (n : StyleScan) (r : Reference) (p : Place) (t : Parts) (c : Class) (b : ℕ) → HasBegun u.quotes → u.body ≡ body.Css empty_css
    → StyleUnderPlace u n p → r ≡ Closed → style_scan_parts n ≡ Some t → scan_error (At p) c b ≡ None → has_met (scan_next (At p) c b) ≡ true
    → scan_parts (scan_next (InStyle u n r) c b) ≡ Some (feed_bytes parts_feeding t (scan_fed (InStyle u n r) c b))
unfolding lexeme-style place-style
under-go u n r (place.Value v) t c b w i l e h o met =
    let d = under-body u n v v.body l in
    styles-go (InStyle u n r) (At (place.Value v)) n (style_scan_start d.0) (lexeme-style u n r w i) (place-style v d.0 d.1) t c b d.2.quotes e d.2.scan h o met
under-go u n r _ t c b w i l e h o met = absurd l

-- in the element
released-below : (bytes : List ℕ) (n m : StyleScan) (c : Class) (b : ℕ) (t : Parts) → style_scan_parts n ≡ Some t → SameUrl n m
    → has_met (released_next m bytes c b) ≡ true
    → StaysInUrl m (bytes ++ loose_fed c b) ⊎ KnownUrl (feed_bytes style_feeding m (bytes ++ loose_fed c b))
    → scan_parts (released_next n bytes c b) ≡ Some (feed_bytes parts_feeding t (bytes ++ loose_fed c b))
released-below bytes n m c b t h e met (inl k) =
    let all = bytes ++ loose_fed c b in
    released-parts bytes n c b ∙ stays-parts all n t h (stays-same all n m e k)
released-below bytes n m c b t h e met (inr k) =
    absurd (no (sym (released-met bytes m c b (known-unmet (feed_bytes style_feeding m (bytes ++ loose_fed c b)) k)) ∙ met))

released-beside : (bytes : List ℕ) (n m : StyleScan) (c : Class) (b : ℕ) (t s : Parts) → style_scan_parts n ≡ Some t → style_scan_parts m ≡ Some s → SameUrl n m
    → has_met (released_next m bytes c b) ≡ true
    → scan_parts (released_next n bytes c b) ≡ Some (feed_bytes parts_feeding t (bytes ++ loose_fed c b))
released-beside bytes n m c b t s h i e met = released-below bytes n m c b t h e met (feeds (bytes ++ loose_fed c b) m s i)

less-beside : (n m : StyleScan) (c : Class) (b : ℕ) (t s : Parts) → style_scan_parts n ≡ Some t → style_scan_parts m ≡ Some s → SameUrl n m
    → has_met (element_less_next m c b) ≡ true → scan_parts (element_less_next n c b) ≡ Some (feed_bytes parts_feeding t (less_fed c b))
less-beside n m Solidus b t s h i e met = h
less-beside n m c b t s h i e met = released-beside (codes "<") n m c b t s h i e met

name-beside : (n m : StyleScan) (grows whole : Bool) (c : Class) (b : ℕ) (letters : List ℕ) (t s : Parts) → style_scan_parts n ≡ Some t
    → style_scan_parts m ≡ Some s → SameUrl n m → has_met (element_name_next m grows whole c b letters) ≡ true
    → scan_parts (element_name_next n grows whole c b letters) ≡ Some (feed_bytes parts_feeding t (end_name_fed grows whole c b letters))
name-beside n m true whole (Letter l) b letters t s h i e met = h
name-beside n m true true White b letters t s h i e met = absurd (no met)
name-beside n m true true Solidus b letters t s h i e met = absurd (no met)
name-beside n m true true GreaterThan b letters t s h i e met = absurd (no met)
name-beside n m true true c b letters t s h i e met = released-beside (codes "</" ++ letters) n m c b t s h i e met
name-beside n m true false c b letters t s h i e met = released-beside (codes "</" ++ letters) n m c b t s h i e met
name-beside n m false true White b letters t s h i e met = absurd (no met)
name-beside n m false true Solidus b letters t s h i e met = absurd (no met)
name-beside n m false true GreaterThan b letters t s h i e met = absurd (no met)
name-beside n m false true c b letters t s h i e met = released-beside (codes "</" ++ letters) n m c b t s h i e met
name-beside n m false false c b letters t s h i e met = released-beside (codes "</" ++ letters) n m c b t s h i e met

element-beside : (n m : StyleScan) (x : Pending) (c : Class) (b : ℕ) (t s : Parts) → style_scan_parts n ≡ Some t → style_scan_parts m ≡ Some s → SameUrl n m
    → has_met (element_pending_next m x c b) ≡ true → scan_parts (element_pending_next n x c b) ≡ Some (feed_bytes parts_feeding t (element_fed x c b))
element-beside n m Nothing c b t s h i e met = released-beside [] n m c b t s h i e met
element-beside n m PendingLess c b t s h i e met = less-beside n m c b t s h i e met
element-beside n m LessAtCut c b t s h i e met = released-beside (codes "<") n m c b t s h i e met
element-beside n m (PendingName letters) c b t s h i e met =
    name-beside n m (may_be_name_of element.Style (letters ++ b ∷ [])) (is_name_of element.Style letters) c b letters t s h i e met
element-beside n m PendingBang c b t s h i e met = released-beside (codes "<!") n m c b t s h i e met
element-beside n m PendingBangDash c b t s h i e met = released-beside (codes "<!-") n m c b t s h i e met
element-beside n m (PendingOpening letters) c b t s h i e met = released-beside (codes "<" ++ letters) n m c b t s h i e met

elements-go : (n m : StyleScan) (x : Pending) (c : Class) (b : ℕ) (t : Parts) → StyleScanBelow n m → style_scan_parts n ≡ Some t
    → has_met (element_pending_next m x c b) ≡ true → scan_parts (element_pending_next n x c b) ≡ Some (feed_bytes parts_feeding t (element_fed x c b))
elements-go n m x c b t l h met = (let k = above-in-url n m t l h in element-beside n m x c b t k.0 h k.1 k.2.same met)

element-go : (n : StyleScan) (x : Pending) (f : Scan) (t : Parts) (c : Class) (b : ℕ) → ScanBelow (InStyleElement n x) f → style_scan_parts n ≡ Some t
    → has_met (scan_next f c b) ≡ true → scan_parts (element_pending_next n x c b) ≡ Some (feed_bytes parts_feeding t (element_fed x c b))
element-go n x f t c b l h met =
    under-element (λ g. has_met (scan_next g c b) ≡ true → scan_parts (element_pending_next n x c b) ≡ Some (feed_bytes parts_feeding t (element_fed x c b)))
    n x f l (λ m i e. elements-go n m x c b t i h e)
    (λ d j i e. subst (λ (y : Pending). scan_parts (element_pending_next n y c b) ≡ Some (feed_bytes parts_feeding t (element_fed y c b))) (sym j)
    (elements-go n (style_scan_start d) Nothing c b t i h e)) met

pub below-goes : (g f : Scan) (t z : Parts) (c : Class) (b : ℕ) → ScanValid g → ScanValid f → ScanBelow g f → scan_parts g ≡ Some t → scan_error f c b ≡ None
    → has_met (scan_next f c b) ≡ true → scan_parts (scan_next g c b) ≡ Some z
    → scan_parts (scan_next g c b) ≡ Some (feed_bytes parts_feeding t (scan_fed g c b))
unfolding lexeme-style
below-goes (At (place.Value u)) (At (place.Value v)) t z c b w i l h n met k =
    places-go u v t z c b (below-value u v l) (parts-body u.body t h) n met k
below-goes (InUrl u x r) f t z c b w i l h n met k = url-goes (InUrl u x r) t z c b (lexeme-url u x r t w.0 (within-body u.body t w.1 h)) k
below-goes (InStyle u p r) (InStyle v m x) t z c b w i l h n met k =
    styles-go (InStyle u p r) (InStyle v m x) p m (lexeme-style u p r w.0 w.1) (lexeme-style v m x i.0 i.1) t c b l.0.quotes l.1 l.0.scan h n met
below-goes (InStyle u p r) (At x) t z c b w i l h n met k = under-go u p r x t c b w.0 w.1 l.0 l.1 h n met
below-goes (InStyle u p r) _ t z c b w i l h n met k = absurd l
below-goes (InStyleElement n x) f t z c b w i l h e met k = element-go n x f t c b l h met
below-goes (At (place.Style p)) (At (place.Style q)) t z c b w i l h n met k =
    elements-go (style_scan_start p) (style_scan_start q) Nothing c b t (elements-in-order p q l) h met
below-goes (At (place.Style p)) (At x) t z c b w i l h n met k = absurd (none_some x l)
below-goes (At (place.Style p)) _ t z c b w i l h n met k = absurd l
below-goes (At (place.Value u)) (At x) t z c b w i l h n met k = absurd (none_some x l)
below-goes (At (place.Value u)) _ t z c b w i l h n met k = absurd l
below-goes (At _) f t z c b w i l h n met k = absurd (none_some t h)
below-goes _ f t z c b w i l h n met k = absurd (none_some t h)

-- Elsewhere no byte that is accepted leads to where paths have spelled different things, nor into a reference.
content-fresh : (t : TagOf) → IsFresh (content_scan t)
content-fresh t = (content-out t).1

begins-fresh : (t : TagOf) (typed : Bool) (k : Kind) → IsFresh (value_scan t typed (Some k))
begins-fresh t typed kind.Plain = (refl, refl)
begins-fresh t typed kind.NoHole = (refl, refl)
begins-fresh t typed kind.Url = (refl, refl)
begins-fresh t typed kind.Style = (refl, refl)
begins-fresh t typed kind.ScriptType = (refl, refl)
begins-fresh t typed _ = (refl, refl)

equals-fresh : (t : TagOf) (typed : Bool) (o : Option Kind) → IsFresh (value_scan t typed o)
equals-fresh t typed (Some k) = begins-fresh t typed k
equals-fresh t typed None = (refl, refl)

tag-fresh : (t : TagPlace) (c : Class) (b : ℕ) → IsFresh (tag_next t c b)
tag-fresh t White b = (refl, refl)
tag-fresh t Solidus b = (refl, refl)
tag-fresh t GreaterThan b = content-fresh t.tag
tag-fresh t EqualsSign b = equals-fresh t.tag t.typed t.kind
tag-fresh t _ b = (refl, refl)

fed-unmet : (v : ValuePlace) (q : Quotes) (x : Body) (t : Triple) (r : Reference) (c : Class) (b : ℕ) → has_met (At (place.Value v)) ≡ false
    → body_parts x ≡ None → has_met (value_fed v q x t r c b) ≡ false
fed-unmet v q (body.Url s) t r c b h k = absurd (none_some s (sym k))
fed-unmet v q (body.Css p) t r c b h k =
    let bytes = undone_byte true r c b in
    let m = feed_bytes style_feeding (style_scan_start p) bytes in
    style-met (empty_style_between v q) m (next_reference r c b) (known-unmet m (known-fed bytes (style_scan_start p) (known_none k)))
fed-unmet v q (body.Js j) t r c b h k = refl
fed-unmet v q _ t r c b h k = h

white-unmet : (v : ValuePlace) (uq : Bool) → has_met (At (place.Value v)) ≡ false → has_met (bare_white v uq) ≡ false
white-unmet v true h = refl
white-unmet v false h = h

pub lead-unmet : (v : ValuePlace) (q : Quotes) (c : Class) (g : Quotes → Scan) → has_met (At (place.Value v)) ≡ false → ((p : Quotes) → has_met (g p) ≡ false)
    → has_met (quotes_lead v q c g) ≡ false
lead-unmet v quotes.Dq QuotationMark g h k = refl
lead-unmet v quotes.Dq c g h k = k quotes.Dq
lead-unmet v quotes.Sq Apostrophe g h k = refl
lead-unmet v quotes.Sq c g h k = k quotes.Sq
lead-unmet v (quotes.Bare s) White g h k = white-unmet v s.uq h
lead-unmet v (quotes.Bare s) QuotationMark g h k = h
lead-unmet v (quotes.Bare s) Apostrophe g h k = h
lead-unmet v (quotes.Bare s) GreaterThan g h k = (content-fresh v.tag).0
lead-unmet v (quotes.Bare s) c g h k = k bare_begun

body-unmet : (b : Body) → body_parts b ≡ None → spells_apart (beginning_in_body b) ≡ false
body-unmet (body.Url s) k = absurd (none_some s (sym k))
body-unmet (body.Css c) k =
    subst (λ (z : Css). spells_apart (beginning_in_css z) ≡ false) (start-place c) (unmet-spells (style_scan_start c) (ap is_apart k))
body-unmet _ k = refl

value-unmet : (v : ValuePlace) (t : Triple) (r : Reference) (c : Class) (b : ℕ) → body_parts v.body ≡ None → has_met (value_next v t r c b) ≡ false
value-unmet v t r c b k =
    let h = body-unmet v.body k in
    lead-unmet v v.quotes c (λ p. value_fed v p v.body t r c b) h (λ p. fed-unmet v p v.body t r c b h k)

style-unmet : (v : ValuePlace) (n : StyleScan) (r : Reference) (c : Class) (b : ℕ) → v.body ≡ body.Css empty_css → style_scan_parts n ≡ None
    → has_met (style_value_next v n r c b) ≡ false
style-unmet v n r c b e k =
    let bytes = undone_byte true r c b in
    let m = feed_bytes style_feeding n bytes in
    lead-unmet v v.quotes c (λ p. style_fed (value_between v p) n r c b) (ap (λ (x : Body). spells_apart (beginning_in_body x)) e)
    (λ p. style-met (value_between v p) m (next_reference r c b) (known-unmet m (known-fed bytes n (known_none k))))

script-unmet : (v : ValuePlace) (n : ScriptScan) (r : Reference) (c : Class) (b : ℕ) → v.body ≡ body.Js empty_js → has_met (script_value_next v n r c b) ≡ false
script-unmet v n r c b e =
    lead-unmet v v.quotes c (λ p. script_fed_next (value_between v p) n r c b) (ap (λ (x : Body). spells_apart (beginning_in_body x)) e) (λ p. refl)

closed-fresh : (closed : Bool) → IsFresh (comment_closed closed)
closed-fresh true = (refl, refl)
closed-fresh false = (refl, refl)

scan-of-fresh : (s : CommentState) → IsFresh (comment_scan s)
scan-of-fresh Inside = (refl, refl)
scan-of-fresh Broken = (refl, refl)
scan-of-fresh _ = (refl, refl)

comment-fresh : (s : CommentState) (c : Class) → IsFresh (comment_next c s)
comment-fresh s GreaterThan = closed-fresh (closes_comment s)
comment-fresh s _ = scan-of-fresh (next_comment s _)

rest-fresh : (e : Element) → IsFresh (At (rest_place e))
rest-fresh element.DataBlock = (refl, refl)
rest-fresh _ = (refl, refl)

loose-fresh : (c : Class) (e : Element) → IsFresh (content_next c e)
loose-fresh LessThan e = (refl, refl)
loose-fresh _ e = rest-fresh e

pending-less-fresh : (c : Class) (e : Element) → IsFresh (pending_less_next c e)
pending-less-fresh Solidus e = (refl, refl)
pending-less-fresh ExclamationMark element.DataBlock = (refl, refl)
pending-less-fresh ExclamationMark _ = (refl, refl)
pending-less-fresh LessThan e = (refl, refl)
pending-less-fresh _ e = rest-fresh e

text-fresh : (c : Class) (b : ℕ) → IsFresh (scan_next (At place.Text) c b)
text-fresh LessThan b = (refl, refl)
text-fresh _ b = (refl, refl)

-- in the element
released-unmet : (bytes : List ℕ) (n : StyleScan) (c : Class) (b : ℕ) → style_scan_parts n ≡ None → has_met (released_next n bytes c b) ≡ false
released-unmet bytes n c b h =
    let all = bytes ++ loose_fed c b in
    released-met bytes n c b (known-unmet (feed_bytes style_feeding n all) (known-fed all n (known_none h)))

less-unmet : (n : StyleScan) (c : Class) (b : ℕ) → style_scan_parts n ≡ None → has_met (element_less_next n c b) ≡ false
less-unmet n Solidus b h = unmet-spells n (ap is_apart h)
less-unmet n c b h = released-unmet (codes "<") n c b h

name-unmet : (n : StyleScan) (grows whole : Bool) (c : Class) (b : ℕ) (letters : List ℕ) → style_scan_parts n ≡ None
    → has_met (element_name_next n grows whole c b letters) ≡ false
name-unmet n true whole (Letter l) b letters h = unmet-spells n (ap is_apart h)
name-unmet n true true White b letters h = refl
name-unmet n true true Solidus b letters h = refl
name-unmet n true true GreaterThan b letters h = refl
name-unmet n true true c b letters h = released-unmet (codes "</" ++ letters) n c b h
name-unmet n true false c b letters h = released-unmet (codes "</" ++ letters) n c b h
name-unmet n false true White b letters h = refl
name-unmet n false true Solidus b letters h = refl
name-unmet n false true GreaterThan b letters h = refl
name-unmet n false true c b letters h = released-unmet (codes "</" ++ letters) n c b h
name-unmet n false false c b letters h = released-unmet (codes "</" ++ letters) n c b h

element-unmet : (n : StyleScan) (x : Pending) (c : Class) (b : ℕ) → style_scan_parts n ≡ None → has_met (element_pending_next n x c b) ≡ false
element-unmet n Nothing c b h = released-unmet [] n c b h
element-unmet n PendingLess c b h = less-unmet n c b h
element-unmet n LessAtCut c b h = released-unmet (codes "<") n c b h
element-unmet n (PendingName letters) c b h =
    name-unmet n (may_be_name_of element.Style (letters ++ b ∷ [])) (is_name_of element.Style letters) c b letters h
element-unmet n PendingBang c b h = released-unmet (codes "<!") n c b h
element-unmet n PendingBangDash c b h = released-unmet (codes "<!-") n c b h
element-unmet n (PendingOpening letters) c b h = released-unmet (codes "<" ++ letters) n c b h

-- in the element `script` nothing is a URL
tag-fresh-behind : (c : Class) → IsFresh (behind_end_name c)
tag-fresh-behind White = (refl, refl)
tag-fresh-behind Solidus = (refl, refl)
tag-fresh-behind c = (refl, refl)

script-fresh : (n : ScriptScan) (step : ScriptStep) (c : Class) → IsFresh (scan_by_step n step c)
script-fresh n (Reads bytes h) c = (refl, refl)
script-fresh n (EndsContent letters) c = tag-fresh-behind c

place-unmet : (p : Place) (c : Class) (b : ℕ) → scan_parts (At p) ≡ None → scan_error (At p) c b ≡ None → has_met (scan_next (At p) c b) ≡ false
place-unmet place.Text c b h n = (text-fresh c b).0
place-unmet place.Doctype GreaterThan b h n = refl
place-unmet place.Doctype _ b h n = refl
place-unmet (place.Comment dash) c b h n = (comment-fresh (comment_state dash) c).0
place-unmet (place.Rcdata e) c b h n = (loose-fresh c e).0
place-unmet (place.Tag t) c b h n = (tag-fresh t c b).0
place-unmet (place.Value x) c b h n = value-unmet x NoTriple Closed c b h
place-unmet (place.Script j) c b h n = (script-fresh (script_scan_start j) (script_scan_step (script_scan_start j) Nothing c b) c).0
place-unmet (place.Style j) c b h n = element-unmet (style_scan_start j) Nothing c b h
place-unmet (place.Block lt) c b h n = (loose-fresh c element.DataBlock).0

place-holds : (p : Place) (c : Class) (b : ℕ) → Holds (scan_next (At p) c b) Closed c b
place-holds place.Text c b = inl (text-fresh c b).1
place-holds place.Doctype GreaterThan b = inl refl
place-holds place.Doctype _ b = inl refl
place-holds (place.Comment dash) c b = inl (comment-fresh (comment_state dash) c).1
place-holds (place.Rcdata e) c b = inl (loose-fresh c e).1
place-holds (place.Tag t) c b = inl (tag-fresh t c b).1
place-holds (place.Value x) c b = value-holds x NoTriple Closed c b
place-holds (place.Script j) c b = inl (script-fresh (script_scan_start j) (script_scan_step (script_scan_start j) Nothing c b) c).1
place-holds (place.Style j) c b = inl (loose-closed (style_scan_start j) c b)
place-holds (place.Block lt) c b = inl (loose-fresh c element.DataBlock).1

less-fresh : (c : Class) (b : ℕ) → IsFresh (scan_next AfterLess c b)
less-fresh (Letter l) b = (refl, refl)
less-fresh Solidus b = (refl, refl)
less-fresh ExclamationMark b = (refl, refl)
less-fresh LessThan b = (refl, refl)
less-fresh _ b = (refl, refl)

solidus-fresh : (c : Class) (b : ℕ) → IsFresh (scan_next AfterLessSolidus c b)
solidus-fresh (Letter l) b = (refl, refl)
solidus-fresh LessThan b = (refl, refl)
solidus-fresh _ b = (refl, refl)

declaration-fresh : (d : Declaration) (c : Class) (b : ℕ) (pending : List ℕ) → IsFresh (declaration_next d c b pending)
declaration-fresh OpensComment c b pending = (refl, refl)
declaration-fresh OpensDoctype c b pending = (refl, refl)
declaration-fresh Undecided c b pending = (refl, refl)
declaration-fresh OpensNothing c b pending = text-fresh c b

tag-name-fresh : (c : Class) (b : ℕ) (ends : Bool) (name : List ℕ) → IsFresh (tag_name_next c b ends name)
tag-name-fresh White b ends name = (refl, refl)
tag-name-fresh Solidus b ends name = (refl, refl)
tag-name-fresh GreaterThan b ends name = content-fresh (tag_of_name ends name)
tag-name-fresh _ b ends name = (refl, refl)

attribute-fresh : (c : Class) (b : ℕ) (t : TagOf) (typed : Bool) (k : Kind) (name : List ℕ) → IsFresh (attribute_name_next c b t typed k name)
attribute-fresh White b t typed k name = (refl, refl)
attribute-fresh Solidus b t typed k name = (refl, refl)
attribute-fresh GreaterThan b t typed k name = content-fresh t
attribute-fresh EqualsSign b t typed k name = begins-fresh t typed k
attribute-fresh _ b t typed k name = (refl, refl)

end-name-fresh : (grows whole : Bool) (c : Class) (b : ℕ) (e : Element) (letters : List ℕ) → IsFresh (end_name_next grows whole c b e letters)
end-name-fresh true true (Letter l) b e letters = (refl, refl)
end-name-fresh true false (Letter l) b e letters = (refl, refl)
end-name-fresh false true (Letter l) b e letters = rest-fresh e
end-name-fresh false false (Letter l) b e letters = rest-fresh e
end-name-fresh true true White b e letters = (refl, refl)
end-name-fresh false true White b e letters = (refl, refl)
end-name-fresh true true Solidus b e letters = (refl, refl)
end-name-fresh false true Solidus b e letters = (refl, refl)
end-name-fresh true true GreaterThan b e letters = (refl, refl)
end-name-fresh false true GreaterThan b e letters = (refl, refl)
end-name-fresh true true c b e letters = loose-fresh c e
end-name-fresh false true c b e letters = loose-fresh c e
end-name-fresh true false c b e letters = loose-fresh c e
end-name-fresh false false c b e letters = loose-fresh c e

bang-fresh : (c : Class) (b : ℕ) (e : Element) → IsFresh (content_end_next PendingBang c b e)
bang-fresh HyphenMinus b e = (refl, refl)
bang-fresh LessThan b e = (refl, refl)
bang-fresh _ b e = rest-fresh e

content-end-fresh : (h : Pending) (c : Class) (b : ℕ) (e : Element) → IsFresh (content_end_next h c b e)
content-end-fresh PendingLess c b e = pending-less-fresh c e
content-end-fresh PendingBang c b e = bang-fresh c b e
content-end-fresh (PendingName letters) c b e = end-name-fresh (may_be_name_of e (letters ++ b ∷ [])) (is_name_of e letters) c b e letters
content-end-fresh PendingBangDash c b e = loose-fresh c e
content-end-fresh (PendingOpening letters) c b e = loose-fresh c e
content-end-fresh LessAtCut c b e = loose-fresh c e
content-end-fresh Nothing c b e = loose-fresh c e

before-type-fresh : (c : Class) (b : ℕ) (t : TagOf) → IsFresh (before_type_next c b t)
before-type-fresh White b t = (refl, refl)
before-type-fresh QuotationMark b t = (refl, refl)
before-type-fresh Apostrophe b t = (refl, refl)
before-type-fresh GreaterThan b t = content-fresh (type_tag t type_begun)
before-type-fresh _ b t = (refl, refl)

after-type-fresh : (q : Quoting) (c : Class) (t : TagOf) → IsFresh (after_type q c t)
after-type-fresh Unquoted GreaterThan t = content-fresh t
after-type-fresh Unquoted _ t = (refl, refl)
after-type-fresh DoubleQuoted c t = (refl, refl)
after-type-fresh SingleQuoted c t = (refl, refl)

type-fresh : (ends : Bool) (c : Class) (b : ℕ) (t : TagOf) (q : Quoting) (v : Value ValueState) (r : Reference) → IsFresh (type_next ends c b t q v r)
type-fresh true c b t q v r = after-type-fresh q c (type_tag t (ended_type v r))
type-fresh false c b t q v r = (refl, refl)

pub scan-unmet : (f : Scan) (c : Class) (b : ℕ) → ScanValid f → scan_parts f ≡ None → scan_error f c b ≡ None → has_met (scan_next f c b) ≡ false
scan-unmet (At p) c b v h n = place-unmet p c b h n
scan-unmet (InScriptElement m x) c b v h n = (script-fresh m (script_scan_step m x c b) c).0
scan-unmet (InUrl w t r) c b v h n = value-unmet w t r c b h
scan-unmet (InStyle w s r) c b v h n = style-unmet w s r c b v.1 h
scan-unmet (InScript w s r) c b v h n = script-unmet w s r c b v.1
scan-unmet (InStyleElement s x) c b v h n = element-unmet s x c b h
scan-unmet AfterLess c b v h n = (less-fresh c b).0
scan-unmet AfterLessSolidus c b v h n = (solidus-fresh c b).0
scan-unmet (InDeclaration pending) c b v h n = (declaration-fresh (declared_by (pending ++ b ∷ [])) c b pending).0
scan-unmet (InTagName ends name) c b v h n = (tag-name-fresh c b ends name).0
scan-unmet (InAttributeName t typed name) c b v h n = (attribute-fresh c b t typed (kind_of (element_on t) name) name).0
scan-unmet (InCommentEnd s) c b v h n = (comment-fresh s c).0
scan-unmet (InContentEnd e x) c b v h n = (content-end-fresh x c b e).0
scan-unmet (BeforeType t) c b v h n = (before-type-fresh c b t).0
scan-unmet (InType t q w r) c b v h n = (type-fresh (ends_value q c) c b t q w r).0

-- A reference that is open behind a byte is the one that was, behind it.
pub next-holds : (f : Scan) (c : Class) (b : ℕ) → Holds (scan_next f c b) (scan_reference f) c b
next-holds (At p) c b = place-holds p c b
next-holds (InUrl w t r) c b = value-holds w t r c b
next-holds (InStyle w s r) c b = style-holds w s r c b
next-holds (InScript w s r) c b = script-holds w s r c b
next-holds (InScriptElement m x) c b = inl (script-fresh m (script_scan_step m x c b) c).1
next-holds (InStyleElement s x) c b = inl (element-closed s x c b)
next-holds AfterLess c b = inl (less-fresh c b).1
next-holds AfterLessSolidus c b = inl (solidus-fresh c b).1
next-holds (InDeclaration pending) c b = inl (declaration-fresh (declared_by (pending ++ b ∷ [])) c b pending).1
next-holds (InTagName ends name) c b = inl (tag-name-fresh c b ends name).1
next-holds (InAttributeName t typed name) c b = inl (attribute-fresh c b t typed (kind_of (element_on t) name) name).1
next-holds (InCommentEnd s) c b = inl (comment-fresh s c).1
next-holds (InContentEnd e x) c b = inl (content-end-fresh x c b e).1
next-holds (BeforeType t) c b = inl (before-type-fresh c b t).1
next-holds (InType t q w r) c b = inl (type-fresh (ends_value q c) c b t q w r).1

-- No reference that is open has a `:` in it.
abbrev pub ScanPlain : Scan → Type 0
ScanPlain f = ReferencePlain (scan_reference f)

plain-by : (g : Scan) (b : ℕ) (r : Reference) → Holds g r (class_of b) b → ReferencePlain r → ScanPlain g
plain-by g b r (inl h) n = subst ReferencePlain (sym h) tt
plain-by g b r (inr h) n = subst ReferencePlain (sym h) (next-plain r b n)

pub scan-plain : (f : Scan) (b : ℕ) → ScanPlain f → ScanPlain (scan_next f (class_of b) b)
scan-plain f b n = plain-by (scan_next f (class_of b) b) b (scan_reference f) (next-holds f (class_of b) b) n

-- How many bytes back the reference that is open begins.
abbrev pub reference_length : Reference → ℕ
reference_length Closed = 0
reference_length (Open f bytes) = length bytes + 1

begun-length : (c : Class) → reference_length (begin_reference c) ≤ 1
begun-length Ampersand = omega arith
begun-length _ = omega arith

turned-length : (step : ReferenceStep) (f : Form) (bytes : List ℕ) (c : Class) (b : ℕ)
    → reference_length (reference_turned step bytes c b) ≤ reference_length (Open f bytes) + 1
turned-length (Grows g) f bytes c b = let l = length-append bytes (b ∷ []) in omega (arith, l)
turned-length Closes f bytes c b = omega arith
turned-length Breaks f bytes c b = let l = begun-length c in omega (arith, l)

pub next-length : (r : Reference) (c : Class) (b : ℕ) → reference_length (next_reference r c b) ≤ reference_length r + 1
next-length Closed c b = begun-length c
next-length (Open f bytes) c b = turned-length (turn c f) f bytes c b

length-by : (g : Scan) (c : Class) (b : ℕ) (r : Reference) → Holds g r c b → reference_length (scan_reference g) ≤ reference_length r + 1
length-by g c b r (inl h) = let e = ap reference_length h in omega (arith, e)
length-by g c b r (inr h) = let e = ap reference_length h in let l = next-length r c b in omega (arith, e, l)

pub scan-length : (f : Scan) (c : Class) (b : ℕ) → reference_length (scan_reference (scan_next f c b)) ≤ reference_length (scan_reference f) + 1
scan-length f c b = length-by (scan_next f c b) c b (scan_reference f) (next-holds f c b)
