-- Where it comes from that two paths of a place met apart: they did before the text, and stay in the beginning of the URL; or they come apart within
-- it, where one begins the URL with a byte and the other goes on with it.
use Rattle.js_lexer.specs.States.{At as ScriptAt, InRegexp, InString, Slash}
use Rattle.place_core.specs.declared.js_tails.JsTails.{JsTails}
use Rattle.place_core.specs.declared.senses.Senses.{Senses}
use Rattle.js_step.specs.ScriptOrigins.{script_set_at, script_set_has}
use Rattle.std.proofs.Common.{◌≡◌, ℕ, ◌+◌, Bool, true, false, ◌||◌, List, [], ◌∷◌, ◌++◌, length, Option, Some, None, Ok, is_some, option_map, if◌then◌else◌, refl, sym, ap, ap₂, ◌∙◌, subst, ◌⊎◌, inl, inr}
use Rattle.place_core.specs.page.Classes.{is_equals_sign, class_of}
use Rattle.place_core.specs.page.Contents.{pending_bytes}
use Rattle.place_core.specs.page.Html.{next}
use Rattle.place_core.specs.page.References.{Reference, Closed, Open, Form, ReferenceStep, Grows, Closes, Breaks, turn, flushed, plain_bytes, next_reference, as_it_stands, reference_turned, turn_bytes}
use Rattle.place_core.specs.page.States.{Template, LexState, Text, TagOpen, EndTagOpen, DeclarationOpen, Started, StartedDash, Inside, Dash, DashDash, Bang, Broken, InComment, BogusComment, InDoctype, TagName, WholeTagName, BeforeAttributeName, AttributeName, WholeAttributeName, AfterAttributeName, BeforeAttributeValue, AttributeValue, AfterAttributeValue, SelfClosingStartTag, Characters, Bytes, InLanguage, Pending, Nothing, PendingLess, LessAtCut, PendingName, PendingBang, PendingBangDash, PendingOpening, InContent}
use Rattle.place_core.specs.page.Tags.{Quoting, Tag, is_second_type, ValueOf, Deciding, ValueState, OfKind, OfUrl, OfStyle, languages, feed_bytes, OfScript}
use Rattle.place_core.specs.place.ApartPlaces.{HasApart, opened_apart, beginning_at, beginning_in_body, beginning_in_css, side, spell_apart}
use Rattle.place_core.specs.place.Errors.{is_written, node, place_before_bytes, TextRead, nothing_read}
use Rattle.place_core.specs.place.LanguagePlaces.{both_prefixes, js_star_has}
use Rattle.place_core.specs.place.Membership.{IsIn, Bears}
use Rattle.place_core.specs.place.PathPairs.{ApartBefore, Keeps, PartWithin, state_before, is_in_beginning, is_in_reference, url_in_style}
use Rattle.place_core.specs.place.Places.{Has, IsValid, body_has, joined_bodies, quotes_have}
use Rattle.place_core.specs.place.StatePlaces.{quotes_at}
use Rattle.place_core.specs.place.UrlParts.{parts_of, placed_prefix}
use Rattle.place_core.specs.declared.body.Body.{Body}
use Rattle.place_core.specs.declared.body.Body.TheVariants as body
use Rattle.place_core.specs.declared.element.Element.{Element}
use Rattle.place_core.specs.declared.element.Element.TheVariants as element
use Rattle.place_core.specs.declared.kind.Kind.TheVariants as kind
use Rattle.place_core.specs.declared.member.Member.{Member}
use Rattle.place_core.specs.declared.member.Member.TheVariants as member
use Rattle.place_core.specs.declared.parts.Parts.{Parts}
use Rattle.place_core.specs.declared.place.Place.{Place}
use Rattle.place_core.specs.declared.place.Place.TheVariants as place
use Rattle.place_core.specs.declared.prefix.Prefix.{Prefix}
use Rattle.place_core.specs.declared.prefix.Prefix.TheVariants as prefix
use Rattle.place_core.proofs.ApartPlacesFacts.{side-has}
use Rattle.place_core.specs.declared.quotes.Quotes.{Quotes}
use Rattle.place_core.specs.declared.quotes.Quotes.TheVariants as quotes
use Rattle.place_core.specs.declared.value_place.ValuePlace.{ValuePlace}
use Rattle.place_core.proofs.Semilattices.{none_some, one_value}
use Rattle.html_scan.specs.Scans.{Scan, At, InAttributeName, InUrl, InStyle, InStyleElement, scan_reference, scan_error, scan_next, scan_place, parts_feeding, parts_with, style_feeding, with_body, with_style, InScript, InScriptElement}
use Rattle.js_lexer.specs.States.{ScriptState}
use Rattle.js_step.specs.ScriptScans.{ScriptScan}
use Rattle.place_core.specs.place.ScriptParts.{script_js}
use Rattle.html_step.proofs.ScriptPaths.{kept_script_scanned}
use Rattle.html_step.proofs.ScriptReads.{nil-fits}
use Rattle.html_step.specs.Origins.{body_parts, byte_origin, fed_in, scan_parts}
use Rattle.html_step.specs.Steps.{after_text, stepped, scan_read_behind}
use Rattle.html_step.proofs.ApartParts.{Arise, arise-in, inside-bytes, is_inside, mapped-some, of-differs, opens-apart, waits, apart-inside}
use Rattle.html_step.proofs.EndsApart.{end-apart}
use Rattle.html_step.proofs.MetScans.{ScanApart, ScanOpensNone, Stand, below-opens, next-stand, parts-apart, scan-opens, stand-in}
use Rattle.html_step.proofs.ReadScans.{NotBroken, ReadTaken, Takes, broken-of, closed-taken, read-closed, read-taken, scan_read, takes}
use Rattle.html_step.proofs.ReadStates.{UrlState, opens-of, own-place, read-between, read-shown, read-state, set-over, set-parts, shown-closed, url-of, with_set}
use Rattle.html_step.proofs.RefusedColons.{ReadStays, broken-bytes, closed-open, fed-or, is_nothing, next-stays, none-pending, parts_where, plain-closed, read-is, read-parts, reference_where, scan-arises, stays-below, turn_read}
use Rattle.html_step.proofs.Characters.{NoColon, IsCharacter, flushed-character, plain-character}
use Rattle.html_step.proofs.ElementFrom.{has-place, place-has}
use Rattle.html_step.proofs.ElementsBelow.{under-element}
use Rattle.html_step.proofs.PendingScans.{below-pending, open-settled, read-settled, scan_pending, style-value-settled, value-settled}
use Rattle.html_step.proofs.FromSteps.{from-byte}
use Rattle.html_step.proofs.FromTexts.{own-has}
use Rattle.html_step.proofs.KeptBeginnings.{before-begins, keeps-back, keeps-fore, before-none, begins-value, is_url_value, side-begins, sides-within, stays-there}
use Rattle.html_step.proofs.PathScans.{block_scanned, content_scanned, element_scanned, scanned, style_element_scanned, style_value_scanned, url_value, script_there, script_unless_placed, script_value_scanned, WhereScanned, script_element_scanned}
use Rattle.html_step.proofs.OneTexts.{Says, says}
use Rattle.html_step.proofs.PlaceParts.{ValueBelow}
use Rattle.html_step.proofs.ScanOrder.{ScanBelow, ScanHas, ScanValid, StyleUnderBody, UrlWithin, parts-of-below, under-body, url-within}
use Rattle.html_step.proofs.StyleOrder.{start-place, style-fed-grow}
use Rattle.html_step.proofs.StylePaths.{style_value}
use Rattle.html_step.proofs.StyleUrls.{KnownUrl, StaysInUrl, above-in-url, below-in-url, feeds, known-fed, known-unmet, known_none, scan-opened, split-none, stays-parts, stays-same, unmet-spells}
use Rattle.html_step.proofs.StyleValues.{css-set}
use Rattle.css_lexer.specs.States.{Fresh, Bare, Quoted, Ended, Style, Out}
use Rattle.css_lexer.specs.States as style
use Rattle.css_step.proofs.StyleScanned.{has-scan}
use Rattle.css_step.specs.StyleOrigins.{scan_set_has, style_scan_parts}
use Rattle.css_step.specs.StyleScanLaws.{IsStyleScan, scans_behind_hole, scans_between, scans_bare, scans_comment, scans_ended, scans_fresh, scans_less_than, scans_less_than_before, scans_quoted, scans_solidus, scans_solidus_before, scans_split_word, scans_star_before, scans_string, scans_word, style_scanned}
use Rattle.css_step.specs.StyleScans.{StyleScan, ScanBareUrl, ScanQuotedUrl, is_style_start, style_scan_place, style_scan_start}
use Rattle.css_step.specs.StyleSetLaws.{StyleScanBelow, below_itself}
use Rattle.html_step.proofs.UrlOrder.{fed-grow, fed-more}
use Rattle.html_step.proofs.UrlScans.{NextUrl, ScanPlain, below-goes, below-parts, below-reference, element-closed-by, element-parts-by, fed-same, has_met, next-url, raw-opened, scan-plain, scan-unmet, scan_fed, style-parts, url-parts, within-body}
use Rattle.html_step.proofs.ValidSteps.{scan-valid}
use Rattle.html_step.proofs.WholeTexts.{end-ok, grows-from, step-ok, text-steps, accepts-anywhere}
use Rattle.url_lexer.specs.Classes.{url_class_of}
use Rattle.url_lexer.specs.Parts.{UrlPart, UrlStart, UrlOpen, UrlOpenhole, UrlPrequery, UrlQuery, UrlBad}
use Rattle.url_lexer.specs.Prefixes as spelling
use Rattle.url_lexer.specs.States.{Url}
use Rattle.url_lexer.specs.Triples.{Triple, NoTriple}
use Rattle.url_lexer.specs.TwoPaths.{is_open}
use Rattle.url_lexer.specs.declared.class.UrlClass.{UrlClass}
use Rattle.url_lexer.specs.declared.class.UrlClass.TheVariants as class
use Rattle.url_step.specs.PartSets.{PartsBelow, first_spelled, next_spelled, parts_next, spells_apart}
use Rattle.place_core.specs.declared.js.Js.{Js}
use Rattle.html_step.proofs.ScriptElementSteps.{where-script-element}

no : false ≡ true → ⊥
no e = cc

-- A path's scan state in a URL has the set of the path's part.
pub record UrlPath (s : LexState ValueState) (t : Parts) : Type 0 where
  pub part : UrlPart
  pub is : t ≡ parts_of part
  pub begins : is_open part ≡ true → is_in_beginning s ≡ true
  pub value : (f : Form) (bytes : List ℕ) → reference_where (scanned s) ≡ Open f bytes → is_url_value s ≡ true

start-path : (s : LexState ValueState) (t : Parts) → Some (parts_of UrlStart) ≡ Some t → reference_where (scanned s) ≡ Closed → UrlPath s t
start-path s t h c = record {
  part = UrlStart;
  is = one_value t (parts_of UrlStart) (sym h);
  begins = λ e. absurd (no e);
  value = λ f bytes e. absurd (closed-open f bytes (sym c ∙ e));
}

second-parts : (second : Bool) (f : Scan) (t : Parts) → scan_parts f ≡ None → parts_where (if second then None else Some f) ≡ Some t → ⊥
second-parts true f t n h = none_some t h
second-parts false f t n h = none_some t (sym n ∙ h)

content-none : (p : Pending) (e : Element) → parts_where (content_scanned p e) ≡ None
content-none Nothing element.Title = refl
content-none Nothing element.Textarea = refl
content-none Nothing _ = refl
content-none PendingLess element.Title = refl
content-none PendingLess element.Textarea = refl
content-none PendingLess _ = refl
content-none (PendingName letters) element.Title = refl
content-none (PendingName letters) element.Textarea = refl
content-none (PendingName letters) _ = refl
content-none _ e = refl

block-none : (p : Pending) (e : Element) → parts_where (block_scanned p e) ≡ None
block-none Nothing element.DataBlock = refl
block-none Nothing _ = refl
block-none LessAtCut element.DataBlock = refl
block-none LessAtCut _ = refl
block-none PendingLess element.DataBlock = refl
block-none PendingLess _ = refl
block-none (PendingName letters) element.DataBlock = refl
block-none (PendingName letters) _ = refl
block-none PendingBang element.DataBlock = refl
block-none PendingBang _ = refl
block-none PendingBangDash element.DataBlock = refl
block-none (PendingOpening letters) element.DataBlock = refl
block-none PendingBangDash _ = refl
block-none (PendingOpening letters) _ = refl

-- a style that is in no URL
no-url : (v : Style Url) (n : StyleScan) → IsStyleScan v n → url_in_style v ≡ None → style_scan_parts n ≡ None
no-url _ _ (scans_between k) h = refl
no-url _ _ scans_less_than h = refl
no-url _ _ (scans_word w e) h = refl
no-url _ _ (scans_solidus k) h = refl
no-url _ _ (scans_comment star) h = refl
no-url _ _ (scans_string q e) h = refl
no-url _ _ (scans_behind_hole s l) h = refl
no-url _ _ (scans_split_word e) h = split-none e
no-url _ _ (scans_solidus_before k) h = refl
no-url _ _ scans_less_than_before h = refl
no-url _ _ scans_star_before h = refl
no-url _ _ scans_fresh h = refl
no-url _ _ (scans_bare u) h = absurd (none_some u (sym h))
no-url _ _ (scans_quoted q e u) h = absurd (none_some u (sym h))
no-url _ _ (scans_ended u) h = refl

no-url-in : (q : Quoting) (x : Tag) (v : Style Url) (r : Reference) (t : Parts) (o : Option StyleScan) → style_scanned v ≡ o → url_in_style v ≡ None
    → parts_where (style_value_scanned q x o r) ≡ Some t → ⊥
no-url-in q x v r t (Some n) e i h =
    none_some t (sym (style-parts (style_value x (quotes_at q)) n r ∙ no-url v n (has-scan v n e) i) ∙ h)
no-url-in q x v r t None e i h = none_some t h

-- in the element `style`
where-parts : (p : Pending) (n : StyleScan) (t : Parts) → parts_where (element_scanned p n) ≡ Some t → style_scan_parts n ≡ Some t
where-parts Nothing n t h = sym (element-parts-by n (is_style_start n) refl) ∙ h
where-parts PendingLess n t h = h
where-parts (PendingName letters) n t h = h
where-parts LessAtCut n t h = absurd (none_some t h)
where-parts PendingBang n t h = absurd (none_some t h)
where-parts PendingBangDash n t h = absurd (none_some t h)
where-parts (PendingOpening letters) n t h = absurd (none_some t h)

where-closed : (p : Pending) (n : StyleScan) → reference_where (element_scanned p n) ≡ Closed
where-closed Nothing n = element-closed-by n (is_style_start n)
where-closed PendingLess n = refl
where-closed (PendingName letters) n = refl
where-closed LessAtCut n = refl
where-closed PendingBang n = refl
where-closed PendingBangDash n = refl
where-closed (PendingOpening letters) n = refl

no-url-there : (p : Pending) (v : Style Url) (t : Parts) (o : Option StyleScan) → style_scanned v ≡ o → url_in_style v ≡ None
    → parts_where (style_element_scanned p o) ≡ Some t → ⊥
no-url-there p v t (Some n) e i h = none_some t (sym (no-url v n (has-scan v n e) i) ∙ where-parts p n t h)
no-url-there p v t None e i h = none_some t h

-- in a script there is no URL
no-url-kept : (q : Quoting) (x : Tag) (o : Option ScriptScan) (r : Reference) → parts_where (script_there q x o r) ≡ None
no-url-kept q x (Some n) r = refl
no-url-kept q x None r = refl

no-url-placed : (q : Quoting) (x : Tag) (p : Option Js) (o : Option ScriptScan) → parts_where (script_unless_placed q x (option_map body.Js p) o) ≡ None
no-url-placed q x (Some j) o = refl
no-url-placed q x None o = no-url-kept q x o Closed

no-url-script : (q : Quoting) (x : Tag) (s : ScriptState) (r : Reference) → parts_where (script_value_scanned q x s r) ≡ None
no-url-script q x s Closed = no-url-placed q x (script_js s) (kept_script_scanned s)
no-url-script q x s (Open f bytes) = no-url-kept q x (kept_script_scanned s) (Open f bytes)

no-parts : (o : Option Scan) (t : Parts) → WhereScanned o (λ f. scan_parts f ≡ None) → parts_where o ≡ Some t → ⊥
no-parts (Some f) t w h = none_some t (sym w ∙ h)
no-parts None t w h = none_some t h

url-path : (s : LexState ValueState) (t : Parts) → parts_where (scanned s) ≡ Some t → UrlPath s t
url-path (Text r) t h = absurd (none_some t h)
url-path (TagOpen r) t h = absurd (none_some t h)
url-path (EndTagOpen r) t h = absurd (none_some t h)
url-path (DeclarationOpen r pending) t h = absurd (none_some t h)
url-path (InComment Inside) t h = absurd (none_some t h)
url-path (InComment Broken) t h = absurd (none_some t h)
url-path (InComment Started) t h = absurd (none_some t h)
url-path (InComment StartedDash) t h = absurd (none_some t h)
url-path (InComment Dash) t h = absurd (none_some t h)
url-path (InComment DashDash) t h = absurd (none_some t h)
url-path (InComment Bang) t h = absurd (none_some t h)
url-path BogusComment t h = absurd (none_some t h)
url-path InDoctype t h = absurd (none_some t h)
url-path (TagName ends name) t h = absurd (none_some t h)
url-path (WholeTagName x) t h = absurd (none_some t h)
url-path (BeforeAttributeName x) t h = absurd (none_some t h)
url-path (AttributeName x name) t h = absurd (none_some t h)
url-path (WholeAttributeName x k) t h = absurd (second-parts (is_second_type x.typed k) _ t refl h)
url-path (AfterAttributeName x k) t h = absurd (second-parts (is_second_type x.typed k) _ t refl h)
url-path (BeforeAttributeValue x kind.ScriptType) t h = absurd (second-parts (is_second_type x.typed kind.ScriptType) _ t refl h)
url-path (BeforeAttributeValue x kind.Plain) t h = absurd (none_some t h)
url-path (BeforeAttributeValue x kind.NoHole) t h = absurd (none_some t h)
url-path (BeforeAttributeValue x kind.Url) t h = start-path (BeforeAttributeValue x kind.Url) t h refl
url-path (BeforeAttributeValue x kind.Script) t h = absurd (none_some t h)
url-path (BeforeAttributeValue x kind.Style) t h = absurd (none_some t h)
url-path (AttributeValue q x (ValueOf (OfKind kind.Plain)) r) t h = absurd (none_some t h)
url-path (AttributeValue q x (ValueOf (OfKind kind.NoHole)) r) t h = absurd (none_some t h)
url-path (AttributeValue q x (ValueOf (OfKind kind.Url)) r) t h = absurd (none_some t h)
url-path (AttributeValue q x (ValueOf (OfKind kind.Script)) r) t h = absurd (none_some t h)
url-path (AttributeValue q x (ValueOf (OfKind kind.Style)) r) t h = absurd (none_some t h)
url-path (AttributeValue q x (ValueOf (OfKind kind.ScriptType)) r) t h = absurd (none_some t h)
url-path (AttributeValue q x (ValueOf (OfStyle (style.InUrl Bare u))) r) t h = record {
  part = u.part;
  is = one_value t (parts_of u.part) (sym h ∙ style-parts (style_value x (quotes_at q)) (ScanBareUrl (parts_of u.part) u.triple) r);
  begins = λ e. e;
  value = λ f bytes e. refl;
}
url-path (AttributeValue q x (ValueOf (OfStyle (style.InUrl (Quoted y z) u))) r) t h = record {
  part = u.part;
  is = one_value t (parts_of u.part) (sym h ∙ style-parts (style_value x (quotes_at q)) (ScanQuotedUrl y z (parts_of u.part) u.triple) r);
  begins = λ e. e;
  value = λ f bytes e. refl;
}
url-path (AttributeValue q x (ValueOf (OfStyle (style.InUrl Fresh u))) r) t h = absurd (no-url-in q x (style.InUrl Fresh u) r t (style_scanned (style.InUrl Fresh u)) refl refl h)
url-path (AttributeValue q x (ValueOf (OfStyle (style.InUrl Ended u))) r) t h = absurd (no-url-in q x (style.InUrl Ended u) r t (style_scanned (style.InUrl Ended u)) refl refl h)
url-path (AttributeValue q x (ValueOf (OfStyle (Out s))) r) t h = absurd (no-url-in q x (Out s) r t (style_scanned (Out s)) refl refl h)
url-path (AttributeValue q x (ValueOf (OfScript s)) r) t h = absurd (none_some t (sym (no-url-script q x s r) ∙ h))
url-path (AttributeValue q x (ValueOf (OfUrl u)) r) t h = record {
  part = u.part;
  is = one_value t (parts_of u.part) (sym h ∙ url-parts (url_value x (quotes_at q) (parts_of u.part)) u.triple r);
  begins = λ e. e;
  value = λ f bytes e. refl;
}
url-path (AttributeValue q x (Deciding kind.ScriptType before) r) t h = absurd (second-parts (is_second_type x.typed kind.ScriptType) _ t refl h)
url-path (AttributeValue q x (Deciding kind.Plain before) r) t h = absurd (none_some t h)
url-path (AttributeValue q x (Deciding kind.NoHole before) r) t h = absurd (none_some t h)
url-path (AttributeValue q x (Deciding kind.Url before) r) t h = absurd (none_some t h)
url-path (AttributeValue q x (Deciding kind.Script before) r) t h = absurd (none_some t h)
url-path (AttributeValue q x (Deciding kind.Style before) r) t h = absurd (none_some t h)
url-path (AfterAttributeValue x) t h = absurd (none_some t h)
url-path (SelfClosingStartTag x) t h = absurd (none_some t h)
url-path (InContent e (Characters r) p) t h = absurd (none_some t (sym (content-none p e) ∙ h))
url-path (InContent e Bytes p) t h = absurd (none_some t (sym (block-none p e) ∙ h))
url-path (InContent element.Style (InLanguage (OfStyle (style.InUrl Bare u))) p) t h =
    let n = ScanBareUrl (parts_of u.part) u.triple in
    record {
      part = u.part;
      is = one_value t (parts_of u.part) (sym (where-parts p n t h));
      begins = λ e. e;
      value = λ f bytes e. absurd (closed-open f bytes (sym (where-closed p n) ∙ e));
    }
url-path (InContent element.Style (InLanguage (OfStyle (style.InUrl (Quoted y z) u))) p) t h =
    let n = ScanQuotedUrl y z (parts_of u.part) u.triple in
    record {
      part = u.part;
      is = one_value t (parts_of u.part) (sym (where-parts p n t h));
      begins = λ e. e;
      value = λ f bytes e. absurd (closed-open f bytes (sym (where-closed p n) ∙ e));
    }
url-path (InContent element.Style (InLanguage (OfStyle (style.InUrl Fresh u))) p) t h = absurd (no-url-there p (style.InUrl Fresh u) t (style_scanned (style.InUrl Fresh u)) refl refl h)
url-path (InContent element.Style (InLanguage (OfStyle (style.InUrl Ended u))) p) t h = absurd (no-url-there p (style.InUrl Ended u) t (style_scanned (style.InUrl Ended u)) refl refl h)
url-path (InContent element.Style (InLanguage (OfStyle (Out s))) p) t h = absurd (no-url-there p (Out s) t (style_scanned (Out s)) refl refl h)
url-path (InContent element.Style (InLanguage (OfKind k)) p) t h = absurd (none_some t h)
url-path (InContent element.Style (InLanguage (OfScript k)) p) t h = absurd (none_some t h)
url-path (InContent element.Style (InLanguage (OfUrl u)) p) t h = absurd (none_some t h)
url-path (InContent element.Script (InLanguage (OfScript s)) p) t h =
    absurd (no-parts (script_element_scanned p s) t (where-script-element p s (λ f. scan_parts f ≡ None) (λ j e i. refl) (λ n i. refl)) h)
url-path (InContent element.Script (InLanguage (OfKind k)) p) t h = absurd (none_some t h)
url-path (InContent element.Script (InLanguage (OfUrl u)) p) t h = absurd (none_some t h)
url-path (InContent element.Script (InLanguage (OfStyle s)) p) t h = absurd (none_some t h)
url-path (InContent _ (InLanguage v) p) t h = absurd (none_some t h)

pub path-parts : (s : LexState ValueState) (g : Scan) (t : Parts) → scanned s ≡ Some g → scan_parts g ≡ Some t → UrlPath s t
path-parts s g t e h = url-path s t (ap parts_where e ∙ h)

start-is : (p : UrlPart) → (parts_of p).start ≡ true → p ≡ UrlStart
start-is UrlStart h = refl
start-is (UrlOpen q) h = absurd (no h)
start-is UrlOpenhole h = absurd (no h)
start-is UrlPrequery h = absurd (no h)
start-is UrlQuery h = absurd (no h)
start-is UrlBad h = absurd (no h)

open-is : (p : UrlPart) → is_some (parts_of p).opened ≡ true → (q : spelling.Prefix) × (p ≡ UrlOpen q)
open-is (UrlOpen q) h = (q, refl)
open-is UrlStart h = absurd (no h)
open-is UrlOpenhole h = absurd (no h)
open-is UrlPrequery h = absurd (no h)
open-is UrlQuery h = absurd (no h)
open-is UrlBad h = absurd (no h)

-- a path that has the start is before the URL, and one that has the side is in its beginning
starts : (s : LexState ValueState) (t : Parts) → UrlPath s t → t.start ≡ true → t ≡ parts_of UrlStart
starts s t p h = p.is ∙ ap parts_of (start-is p.part (ap (λ (x : Parts). x.start) (sym p.is) ∙ h))

opens : (s : LexState ValueState) (t : Parts) → UrlPath s t → is_some t.opened ≡ true → (q : spelling.Prefix) × (t ≡ parts_of (UrlOpen q))
opens s t p h =
    (let o = open-is p.part (ap (λ (x : Parts). is_some x.opened) (sym p.is) ∙ h) in (o.0, p.is ∙ ap parts_of o.1))

opened-begins : (s : LexState ValueState) (t : Parts) → UrlPath s t → is_some t.opened ≡ true → is_in_beginning s ≡ true
opened-begins s t p h =
    p.begins ((let o = open-is p.part (ap (λ (x : Parts). is_some x.opened) (sym p.is) ∙ h) in ap is_open o.1))

-- members
set-start : (n : StyleScan) (t : Parts) → style_scan_parts n ≡ Some t → scan_set_has n member.PartStart ≡ t.start
set-start (ScanBareUrl s x) t h = ap (λ (z : Parts). z.start) (one_value s t h)
set-start (ScanQuotedUrl q e s x) t h = ap (λ (z : Parts). z.start) (one_value s t h)
set-start _ t h = absurd (none_some t h)

set-open : (n : StyleScan) (t : Parts) → style_scan_parts n ≡ Some t → scan_set_has n member.PartOpen ≡ is_some t.opened
set-open (ScanBareUrl s x) t h = ap (λ (z : Parts). is_some z.opened) (one_value s t h)
set-open (ScanQuotedUrl q e s x) t h = ap (λ (z : Parts). is_some z.opened) (one_value s t h)
set-open _ t h = absurd (none_some t h)

value-start : (q : Quotes) (b : Body) (t : Parts) → body_parts b ≡ Some t → (quotes_have q member.PartStart || body_has b member.PartStart) ≡ t.start
value-start quotes.Dq (body.Url s) t h = ap (λ (x : Parts). x.start) (one_value s t h)
value-start quotes.Sq (body.Url s) t h = ap (λ (x : Parts). x.start) (one_value s t h)
value-start (quotes.Bare z) (body.Url s) t h = ap (λ (x : Parts). x.start) (one_value s t h)
value-start quotes.Dq (body.Css c) t h = css-set c member.PartStart ∙ set-start (style_scan_start c) t h
value-start quotes.Sq (body.Css c) t h = css-set c member.PartStart ∙ set-start (style_scan_start c) t h
value-start (quotes.Bare z) (body.Css c) t h = css-set c member.PartStart ∙ set-start (style_scan_start c) t h
value-start q _ t h = absurd (none_some t h)

value-open : (q : Quotes) (b : Body) (t : Parts) → body_parts b ≡ Some t → (quotes_have q member.PartOpen || body_has b member.PartOpen) ≡ is_some t.opened
value-open quotes.Dq (body.Url s) t h = ap (λ (x : Parts). is_some x.opened) (one_value s t h)
value-open quotes.Sq (body.Url s) t h = ap (λ (x : Parts). is_some x.opened) (one_value s t h)
value-open (quotes.Bare z) (body.Url s) t h = ap (λ (x : Parts). is_some x.opened) (one_value s t h)
value-open quotes.Dq (body.Css c) t h = css-set c member.PartOpen ∙ set-open (style_scan_start c) t h
value-open quotes.Sq (body.Css c) t h = css-set c member.PartOpen ∙ set-open (style_scan_start c) t h
value-open (quotes.Bare z) (body.Css c) t h = css-set c member.PartOpen ∙ set-open (style_scan_start c) t h
value-open q _ t h = absurd (none_some t h)

style-start : (q : Quotes) (n : StyleScan) (t : Parts) → style_scan_parts n ≡ Some t → (quotes_have q member.PartStart || scan_set_has n member.PartStart) ≡ t.start
style-start quotes.Dq n t h = set-start n t h
style-start quotes.Sq n t h = set-start n t h
style-start (quotes.Bare z) n t h = set-start n t h

style-open : (q : Quotes) (n : StyleScan) (t : Parts) → style_scan_parts n ≡ Some t → (quotes_have q member.PartOpen || scan_set_has n member.PartOpen) ≡ is_some t.opened
style-open quotes.Dq n t h = set-open n t h
style-open quotes.Sq n t h = set-open n t h
style-open (quotes.Bare z) n t h = set-open n t h

record PartMembers (g : Scan) (t : Parts) : Type 0 where
  start : ScanHas g member.PartStart → t.start ≡ true
  starts : t.start ≡ true → ScanHas g member.PartStart
  open_in : ScanHas g member.PartOpen → is_some t.opened ≡ true
  opens : is_some t.opened ≡ true → ScanHas g member.PartOpen

value-members : (v : ValuePlace) (t : Parts) → body_parts v.body ≡ Some t → PartMembers (At (place.Value v)) t
value-members v t h =
    let a = value-start v.quotes v.body t h in
    let b = value-open v.quotes v.body t h in
    record { start = λ k. sym a ∙ k; starts = λ k. a ∙ k; open_in = λ k. sym b ∙ k; opens = λ k. b ∙ k }

part-members : (g : Scan) (t : Parts) → scan_parts g ≡ Some t → PartMembers g t
part-members (At (place.Value v)) t h = value-members v t h
part-members (InUrl v x r) t h =
    (let m = value-members v t h in record { start = m.start; starts = m.starts; open_in = m.open_in; opens = m.opens })
part-members (InStyle v n r) t h =
    let a = style-start v.quotes n t h in
    let b = style-open v.quotes n t h in
    record { start = λ k. sym a ∙ k; starts = λ k. a ∙ k; open_in = λ k. sym b ∙ k; opens = λ k. b ∙ k }
part-members (At (place.Style c)) t h =
    let n = style_scan_start c in
    let a = set-start n t h in
    let b = set-open n t h in
    record {
      start = λ k. sym a ∙ has-place c member.PartStart k;
      starts = λ k. place-has c member.PartStart (a ∙ k);
      open_in = λ k. sym b ∙ has-place c member.PartOpen k;
      opens = λ k. place-has c member.PartOpen (b ∙ k);
    }
part-members (InStyleElement n x) t h =
    let a = set-start n t h in
    let b = set-open n t h in
    record { start = λ k. sym a ∙ k; starts = λ k. a ∙ k; open_in = λ k. sym b ∙ k; opens = λ k. b ∙ k }
part-members (At _) t h = absurd (none_some t h)
part-members _ t h = absurd (none_some t h)

-- What bytes leave in the beginning of one set they leave in that of another.
character-some : (x : Bool) (b : ℕ) (o : Option Prefix) → is_some o ≡ true → is_some (both_prefixes (first_spelled x b) (option_map (next_spelled b) o)) ≡ true
character-some true b (Some p) h = refl
character-some false b (Some p) h = refl
character-some x b None h = absurd (no h)

open-next : (s t : Parts) (c : UrlClass) (b : ℕ) → is_some t.opened ≡ true → is_inside (parts_next s c b) ≡ true → is_some (parts_next t c b).opened ≡ true
open-next s t class.TabOrNewline b h i = h
open-next s t class.ControlOrSpace b h i = mapped-some b t.opened ∙ h
open-next s t class.Colon b h i = absurd (no i)
open-next s t class.Slash b h i = absurd (no i)
open-next s t class.QueryMark b h i = absurd (no i)
open-next s t _ b h i = character-some t.start b t.opened h

open-bytes : (bytes : List ℕ) (s t : Parts) → is_some t.opened ≡ true → is_inside (feed_bytes parts_feeding s bytes) ≡ true
    → is_some (feed_bytes parts_feeding t bytes).opened ≡ true
open-bytes [] s t h i = h
open-bytes (b ∷ bs) s t h i =
    open-bytes bs (parts_next s (url_class_of b) b) (parts_next t (url_class_of b) b)
    (open-next s t (url_class_of b) b h (inside-bytes bs (parts_next s (url_class_of b) b) i)) i

-- Bytes that make a path before the URL and one in its beginning come apart.
pub record Comes (bytes : List ℕ) (s : Parts) : Type 0 where
  pub start : s.start ≡ true
  pub there : is_some s.opened ≡ true
  pub first : spelling.Prefix
  pub begins : feed_bytes parts_feeding (parts_of UrlStart) bytes ≡ parts_of (UrlOpen first)
  pub goes : (q : spelling.Prefix) → PartsBelow (parts_of (UrlOpen q)) s
      → (p : spelling.Prefix) × (feed_bytes parts_feeding (parts_of (UrlOpen q)) bytes ≡ parts_of (UrlOpen p))
      × (spell_apart (placed_prefix first) (placed_prefix p) ≡ true)

one-comes : (b : ℕ) (s : Parts) → spells_apart s.opened ≡ false → Arise s (url_class_of b) b → Comes (b ∷ []) s
one-comes b s n a = record {
  start = a.start;
  there = ap is_some a.opened;
  first = spelling.prefix_of_first b;
  begins = a.first;
  goes = λ q l. (spelling.prefix_with_letter q b, a.goes q, opens-apart s (url_class_of b) b q a n l);
}

pub character-comes : (bytes : List ℕ) (s : Parts) → IsCharacter bytes → spells_apart s.opened ≡ false
    → spells_apart (feed_bytes parts_feeding s bytes).opened ≡ true → Comes bytes s
character-comes bytes s i n h =
    (let a = arise-in bytes s i n h in subst (λ (x : List ℕ). Comes x s) (sym a.is) (one-comes a.byte s n a.arise))

-- behind bytes at which each path waits
later-comes : (xs ys : List ℕ) (s : Parts) → ((t : Parts) → PartsBelow t s → PartsBelow (feed_bytes parts_feeding t xs) (feed_bytes parts_feeding s xs))
    → Comes ys (feed_bytes parts_feeding s xs) → Comes (xs ++ ys) s
later-comes xs ys s grow c =
    let w = waits xs s c.start in
    record {
      start = w.start;
      there = w.opened c.there;
      first = c.first;
      begins = fed-more xs ys (parts_of UrlStart) ∙ ap (λ (z : Parts). feed_bytes parts_feeding z ys) w.first ∙ c.begins;
      goes = λ q l.
          let m = w.goes q in
          let n = c.goes m.0 (subst (λ (z : Parts). PartsBelow z (feed_bytes parts_feeding s xs)) m.1 (grow (parts_of (UrlOpen q)) l)) in
          (n.0, fed-more xs ys (parts_of (UrlOpen q)) ∙ ap (λ (z : Parts). feed_bytes parts_feeding z ys) m.1 ∙ n.1, n.2);
    }

-- A point at which a path is in the beginning, having spelled this, and stays in it.
pub record Point (s : LexState ValueState) (bs : List ℕ) (p : spelling.Prefix) : Type 0 where
  pub own : Place
  pub between : is_in_reference s bs ≡ false
  pub stands : place_before_bytes s bs ≡ Some own
  pub opened : beginning_at own ≡ Some (placed_prefix p)
  pub keeps : Keeps bs (state_before s bs)

points-apart : (s r : LexState ValueState) (bs : List ℕ) (p q : spelling.Prefix) (x : Point s bs p) (y : Point r bs q)
    → spell_apart (placed_prefix p) (placed_prefix q) ≡ true → ApartBefore bs s r
points-apart s r bs p q x y h = record {
  own = x.own;
  other_own = y.own;
  between = x.between;
  other_between = y.between;
  stands = x.stands;
  other_stands = y.stands;
  apart = ap₂ opened_apart x.opened y.opened ∙ h;
}

point-of : (s : LexState ValueState) (g : Scan) (bs : List ℕ) (p : spelling.Prefix) → UrlState s → scanned s ≡ Some g
    → scan_parts (scan_read g bs) ≡ Some (parts_of (UrlOpen p)) → scan_reference (scan_read g bs) ≡ Closed → scan_pending g ≡ Nothing
    → Keeps bs (state_before s bs) → ReadTaken g bs → Point s bs p
point-of s g bs p u e h k w m n =
    let d = shown-closed (scan_read g bs) bs (parts_of (UrlOpen p)) h k (none-pending (scan_read g bs) bs (read-settled g bs w)) in
    record {
      own = d.place;
      between = read-between s g bs u e k;
      stands = own-place s g bs u e n (read-shown g bs k) (none-pending g bs w) ∙ d.is;
      opened = d.opened;
      keeps = m;
    }

body-opened : (b : Body) (t : Parts) (bytes : List ℕ) → b ≡ body.Url t → beginning_in_body (parts_with b bytes) ≡ (feed_bytes parts_feeding t bytes).opened
body-opened b t bytes h = ap (λ (x : Body). beginning_in_body (parts_with x bytes)) h

-- Where two paths come apart behind a byte.
abbrev pub PartFrom : Reference → List ℕ → LexState ValueState → LexState ValueState → Type 0
PartFrom Closed bytes s r = PartWithin bytes s r
PartFrom (Open f read) bytes s r =
    (ApartBefore bytes s r × Keeps bytes (state_before s bytes) × Keeps bytes (state_before r bytes)) ⊎ PartWithin bytes s r

part-from : (x : Reference) (bytes : List ℕ) (s r : LexState ValueState) → PartWithin bytes s r → PartFrom x bytes s r
part-from Closed bytes s r h = h
part-from (Open f read) bytes s r h = inr h

from-part : (x : Reference) (b : ℕ) (bs : List ℕ) (s r : LexState ValueState)
    → PartFrom x bs (next languages Template s (class_of b) b) (next languages Template r (class_of b) b) → PartWithin (b ∷ bs) s r
from-part Closed b bs s r h = inr h
from-part (Open f read) b bs s r h = h

-- it keeps the beginning where it has met apart
abbrev pub KeepsAll : List ℕ → Scan → Type 0
KeepsAll bytes f = (s : LexState ValueState) (g : Scan) → Stand s g f → ScanHas g side → Keeps bytes (state_before s bytes)

-- A path with this part in its set, behind a byte that leads on in the URL.
record Behind (s : LexState ValueState) (g f : Scan) (b : ℕ) (t : Parts) (bytes : List ℕ) : Type 0 where
  stand : Stand (next languages Template s (class_of b) b) (scan_next g (class_of b) b) (scan_next f (class_of b) b)
  parts : scan_parts (scan_next g (class_of b) b) ≡ Some (feed_bytes parts_feeding t bytes)
  reference : scan_reference (scan_next g (class_of b) b) ≡ scan_reference (scan_next f (class_of b) b)

behind : (s : LexState ValueState) (g f : Scan) (b : ℕ) (a z t : Parts) → scan_parts f ≡ Some a → scan_parts (scan_next f (class_of b) b) ≡ Some z
    → scan_error f (class_of b) b ≡ None → Stand s g f → scan_parts g ≡ Some t → ScanValid f
    → has_met (scan_next f (class_of b) b) ≡ true → Behind s g f b t (scan_fed f (class_of b) b)
behind s g f b a z t h k n i j v met =
    let m = next-stand s g f b n i in
    let c = class_of b in
    let on = below-parts (scan_next g c b) (scan_next f c b) z m.below k in
    record {
      stand = m;
      parts = below-goes g f t on.0 c b i.valid v i.below j n met on.1 ∙ ap (λ (x : List ℕ). Some (feed_bytes parts_feeding t x)) (fed-same g f a c b i.below h);
      reference = below-reference (scan_next g c b) (scan_next f c b) m.below;
    }

-- the point behind the byte
point-after : (s : LexState ValueState) (g f : Scan) (b : ℕ) (bs bytes : List ℕ) (t : Parts) (p : spelling.Prefix) → Behind s g f b t bytes
    → scan_reference (scan_next f (class_of b) b) ≡ Closed → scan_pending (scan_next f (class_of b) b) ≡ Nothing → KeepsAll bs (scan_next f (class_of b) b)
    → feed_bytes parts_feeding t bytes ≡ parts_of (UrlOpen p) → Point (next languages Template s (class_of b) b) bs p
point-after s g f b bs bytes t p x c w keep e =
    let u = next languages Template s (class_of b) b in
    let d = scan_next g (class_of b) b in
    let parts = x.parts ∙ ap Some e in
    let path = path-parts u d (parts_of (UrlOpen p)) x.stand.at parts in
    let value = begins-value u (opened-begins u (parts_of (UrlOpen p)) path refl) in
    let closed = x.reference ∙ c in
    let same = read-closed d bs closed in
    point-of u d bs p (url-of u value) x.stand.at (ap scan_parts same ∙ parts) (ap scan_reference same ∙ closed)
    (below-pending d (scan_next f (class_of b) b) x.stand.below ∙ w)
    (keep u d x.stand ((part-members d (parts_of (UrlOpen p)) parts).opens refl)) (closed-taken d bs closed)

-- the point before it, where it breaks a reference that is open
point-before : (s : LexState ValueState) (g f : Scan) (b : ℕ) (bs : List ℕ) (a z t : Parts) (p : spelling.Prefix) (form : Form) (read : List ℕ)
    → ScanValid f → scan_error f (class_of b) b ≡ None → scan_parts f ≡ Some a → scan_parts (scan_next f (class_of b) b) ≡ Some z
    → is_inside (feed_bytes parts_feeding a (scan_fed f (class_of b) b)) ≡ true
    → Stand s g f → scan_parts g ≡ Some t → scan_reference f ≡ Open form read → turn (class_of b) form ≡ Breaks
    → scan_fed f (class_of b) b ≡ flushed true (is_equals_sign (class_of b)) form read ++ plain_bytes (class_of b) b
    → KeepsAll bs (scan_next f (class_of b) b) → has_met (scan_next f (class_of b) b) ≡ true
    → feed_bytes parts_feeding t (flushed true (is_equals_sign (class_of b)) form read) ≡ parts_of (UrlOpen p) → Point s (b ∷ bs) p
point-before s g f b bs a z t p form read v n h k inside i j e d l keep met spelled =
    let c = class_of b in
    let fl = flushed true (is_equals_sign c) form read in
    let own = below-reference g f i.below ∙ e in
    let value = (path-parts s g t i.at j).value form read (ap reference_where i.at ∙ own) in
    let u = next languages Template s c b in
    let x = behind s g f b a z t h k n i j v met in
    let later = feed_bytes parts_feeding t (scan_fed f c b) in
    let same : feed_bytes parts_feeding (feed_bytes parts_feeding t fl) (plain_bytes c b) ≡ later =
    sym (fed-more fl (plain_bytes c b) t) ∙ ap (feed_bytes parts_feeding t) (sym l) in
    let some : is_some later.opened ≡ true =
    subst (λ (y : Parts). is_some y.opened ≡ true) same
    (open-bytes (plain_bytes c b) (feed_bytes parts_feeding a fl) (feed_bytes parts_feeding t fl) (ap (λ (y : Parts). is_some y.opened) spelled)
    (subst (λ (y : Parts). is_inside y ≡ true) (ap (feed_bytes parts_feeding a) l ∙ fed-more fl (plain_bytes c b) a) inside)) in
    let path = path-parts u (scan_next g c b) later x.stand.at x.parts in
    let taken = read-taken g f b bs (takes f b v n) i.below in
    let there = read-parts g b bs t i.valid j (stays-below g f b a i.below h (next-stays f b a v h met)) ∙ ap (λ (y : List ℕ). Some (feed_bytes parts_feeding t y)) (broken-bytes (scan_reference g) b form read own d) ∙ ap Some spelled in
    point-of s g (b ∷ bs) p (url-of s value) i.at there (read-is g b bs form read t j own d) (open-settled g form read own)
    (keeps-fore b bs s
    (opened-begins (state_before s (b ∷ bs)) (parts_of (UrlOpen p))
    (path-parts (state_before s (b ∷ bs)) (scan_read g (b ∷ bs)) (parts_of (UrlOpen p)) (read-state s g (b ∷ bs) (url-of s value) i.at taken) there) refl)
    (keeps-back bs u (opened-begins u later path some)
    (keep u (scan_next g c b) x.stand ((part-members (scan_next g c b) later x.parts).opens some)))) taken

-- How a byte makes two paths come apart that were not: behind it, or before it.
data Arises (f : Scan) (b : ℕ) (a : Parts) : Type 0 where
  after : Comes (scan_fed f (class_of b) b) a → scan_reference (scan_next f (class_of b) b) ≡ Closed → scan_pending (scan_next f (class_of b) b) ≡ Nothing
      → Arises f b a
  before : (form : Form) (read : List ℕ) → scan_reference f ≡ Open form read → turn (class_of b) form ≡ Breaks
      → scan_fed f (class_of b) b ≡ flushed true (is_equals_sign (class_of b)) form read ++ plain_bytes (class_of b) b
      → Comes (flushed true (is_equals_sign (class_of b)) form read) a → Arises f b a

fed-some : (bytes : List ℕ) (a : Parts) → spells_apart a.opened ≡ false → spells_apart (feed_bytes parts_feeding a bytes).opened ≡ true
    → is_nothing bytes ≡ false
fed-some [] a n h = absurd (no (sym n ∙ h))
fed-some (x ∷ xs) a n h = refl

-- where no reference that is open is broken, by the character that the byte ends
whole-arises : (f : Scan) (b : ℕ) (a : Parts) → ScanValid f → scan_parts f ≡ Some a → NotBroken (scan_reference f) b
    → spells_apart a.opened ≡ false → spells_apart (feed_bytes parts_feeding a (scan_fed f (class_of b) b)).opened ≡ true → Arises f b a
whole-arises f b a v h k n d =
    let x = scan-arises f b a h k n d in
    after (subst (λ (y : List ℕ). Comes y a) (sym x.arises.is) (one-comes x.arises.byte a n x.arises.arise)) x.closed x.settled

-- where one is, by its bytes, or by the character behind them
broken-arises : (y : Bool) (f : Scan) (b : ℕ) (a : Parts) (form : Form) (read : List ℕ) → NextUrl f a (class_of b) b → scan_reference f ≡ Open form read
    → scan_pending (scan_next f (class_of b) b) ≡ Nothing → turn (class_of b) form ≡ Breaks → NoColon read
    → ((t : Parts) → PartsBelow t a → PartsBelow (feed_bytes parts_feeding t (flushed true (is_equals_sign (class_of b)) form read))
    (feed_bytes parts_feeding a (flushed true (is_equals_sign (class_of b)) form read)))
    → scan_fed f (class_of b) b ≡ flushed true (is_equals_sign (class_of b)) form read ++ plain_bytes (class_of b) b
    → spells_apart a.opened ≡ false → spells_apart (feed_bytes parts_feeding a (scan_fed f (class_of b) b)).opened ≡ true
    → spells_apart (feed_bytes parts_feeding a (flushed true (is_equals_sign (class_of b)) form read)).opened ≡ y → Arises f b a
broken-arises true f b a form read m e settled k w grow l n h y =
    let fl = flushed true (is_equals_sign (class_of b)) form read in
    before form read e k l (character-comes fl a (flushed-character (is_equals_sign (class_of b)) form read w) n y)
broken-arises false f b a form read m e settled k w grow l n h y =
    let c = class_of b in
    let fl = flushed true (is_equals_sign c) form read in
    let over = feed_bytes parts_feeding a fl in
    let d = ap (λ (x : Parts). spells_apart x.opened) (sym (ap (feed_bytes parts_feeding a) l ∙ fed-more fl (plain_bytes c b) a)) ∙ h in
    let closes = plain-closed c b (fed-some (plain_bytes c b) over y d) in
    after (subst (λ (x : List ℕ). Comes x a) (sym l) (later-comes fl (plain_bytes c b) a grow (character-comes (plain_bytes c b) over (plain-character c b) y d)))
    (elim m.reference [
      | inl j ↦ j
      | inr j ↦ j ∙ ap (λ (r : Reference). next_reference r c b) e ∙ ap (λ (x : ReferenceStep). reference_turned x read c b) k ∙ closes
    ])
    settled

-- the bytes of the reference lead sets below to sets below, where they are not refused
read-grows : (v : ValuePlace) (t : Triple) (form : Form) (read : List ℕ) (a : Parts) (b : ℕ) → ScanValid (InUrl v t (Open form read)) → body_parts v.body ≡ Some a
    → scan_error (InUrl v t (Open form read)) (class_of b) b ≡ None → turn (class_of b) form ≡ Breaks → (x : Parts) → PartsBelow x a
    → PartsBelow (feed_bytes parts_feeding x (flushed true (is_equals_sign (class_of b)) form read))
    (feed_bytes parts_feeding a (flushed true (is_equals_sign (class_of b)) form read))
read-grows v t form read a b w h n k x l =
    (fed-grow (flushed true (is_equals_sign (class_of b)) form read) (is_written (is_equals_sign (class_of b)) form read) (length read + 1) x a l
    (broken-of v a form read (class_of b) b (within-body v.body a w.1 h) w.0 k n)).1

turned-arises : (x : ReferenceStep) (v : ValuePlace) (t : Triple) (form : Form) (read : List ℕ) (b : ℕ) (a : Parts) → turn (class_of b) form ≡ x
    → ScanValid (InUrl v t (Open form read)) → NoColon read → scan_error (InUrl v t (Open form read)) (class_of b) b ≡ None → body_parts v.body ≡ Some a
    → spells_apart a.opened ≡ false → spells_apart (feed_bytes parts_feeding a (fed_in v.quotes (Open form read) (class_of b) b)).opened ≡ true
    → Arises (InUrl v t (Open form read)) b a
turned-arises (Grows g) v t form read b a e w p n h y d =
    whole-arises (InUrl v t (Open form read)) b a w h (λ k. let same : Grows g ≡ Breaks = sym e ∙ k in cc) y d
turned-arises Closes v t form read b a e w p n h y d =
    whole-arises (InUrl v t (Open form read)) b a w h (λ k. let same : Closes ≡ Breaks = sym e ∙ k in cc) y d
turned-arises Breaks v t form read b a e w p n h y d =
    let f = InUrl v t (Open form read) in
    let c = class_of b in
    elim (fed-or v.quotes (Open form read) c b) [
      | inl i ↦ absurd (no (sym (fed-some (fed_in v.quotes (Open form read) c b) a y d) ∙ ap is_nothing i))
      | inr i ↦ broken-arises (spells_apart (feed_bytes parts_feeding a (flushed true (is_equals_sign c) form read)).opened) f b a form read
          (next-url f a c b w h) refl (value-settled v t (Open form read) c b) e p (read-grows v t form read a b w h n e)
          (i ∙ ap (λ (x : ReferenceStep). turn_bytes true x form read c b) e) y d refl
    ]

-- likewise in a style that stays in the URL
style-read-grows : (v : ValuePlace) (n : StyleScan) (form : Form) (read : List ℕ) (a : Parts) (b : ℕ) → Takes (InStyle v n (Open form read)) b
    → style_scan_parts n ≡ Some a → turn (class_of b) form ≡ Breaks → StaysInUrl n (flushed true (is_equals_sign (class_of b)) form read)
    → (x : Parts) → PartsBelow x a
    → PartsBelow (feed_bytes parts_feeding x (flushed true (is_equals_sign (class_of b)) form read))
    (feed_bytes parts_feeding a (flushed true (is_equals_sign (class_of b)) form read))
style-read-grows v n form read a b t i k w x l =
    let equals = is_equals_sign (class_of b) in
    let fl = flushed true equals form read in
    let m = with_set n x in
    let own = above-in-url n n a (below_itself n) i in
    let low = set-over n n x a own.2.same i l in
    let e = below-in-url m n a low i in
    let same : e.0 ≡ x = one_value e.0 x (sym e.1 ∙ set-parts n a x i) in
    let fed = stays-parts fl m x (set-parts n a x i) (stays-same fl m n e.2.same w) in
    let grown = (style-fed-grow fl (is_written equals form read) (length read + 1) m n low (t.styled v n form read refl k)).1 in
    let y = below-in-url (feed_bytes style_feeding m fl) (feed_bytes style_feeding n fl) (feed_bytes parts_feeding a fl) grown (stays-parts fl n a i w) in
    subst (λ (z : Parts). PartsBelow z (feed_bytes parts_feeding a fl)) (one_value y.0 (feed_bytes parts_feeding x fl) (sym y.1 ∙ fed)) y.2.parts

style-arises : (x : ReferenceStep) (v : ValuePlace) (n : StyleScan) (form : Form) (read : List ℕ) (b : ℕ) (a : Parts) → turn (class_of b) form ≡ x
    → ScanValid (InStyle v n (Open form read)) → NoColon read → scan_error (InStyle v n (Open form read)) (class_of b) b ≡ None → style_scan_parts n ≡ Some a
    → spells_apart a.opened ≡ false → spells_apart (feed_bytes parts_feeding a (fed_in v.quotes (Open form read) (class_of b) b)).opened ≡ true
    → StaysInUrl n (turn_read x form read (class_of b)) → Arises (InStyle v n (Open form read)) b a
style-arises (Grows g) v n form read b a e w p o h y d s =
    whole-arises (InStyle v n (Open form read)) b a w h (λ k. let same : Grows g ≡ Breaks = sym e ∙ k in cc) y d
style-arises Closes v n form read b a e w p o h y d s =
    whole-arises (InStyle v n (Open form read)) b a w h (λ k. let same : Closes ≡ Breaks = sym e ∙ k in cc) y d
style-arises Breaks v n form read b a e w p o h y d s =
    let f = InStyle v n (Open form read) in
    let c = class_of b in
    elim (fed-or v.quotes (Open form read) c b) [
      | inl i ↦ absurd (no (sym (fed-some (fed_in v.quotes (Open form read) c b) a y d) ∙ ap is_nothing i))
      | inr i ↦ broken-arises (spells_apart (feed_bytes parts_feeding a (flushed true (is_equals_sign c) form read)).opened) f b a form read
          (next-url f a c b w h) refl (style-value-settled v n (Open form read) c b) e p (style-read-grows v n form read a b (takes f b w o) h e s)
          (i ∙ ap (λ (x : ReferenceStep). turn_bytes true x form read c b) e) y d refl
    ]

arises : (f : Scan) (b : ℕ) (a : Parts) → ReadStays f b → ScanValid f → ScanPlain f → scan_error f (class_of b) b ≡ None → scan_parts f ≡ Some a
    → spells_apart a.opened ≡ false → spells_apart (feed_bytes parts_feeding a (scan_fed f (class_of b) b)).opened ≡ true → Arises f b a
arises (At p) b a s w v n h y d = whole-arises (At p) b a w h tt y d
arises (InUrl v t Closed) b a s w p n h y d = whole-arises (InUrl v t Closed) b a w h tt y d
arises (InUrl v t (Open form read)) b a s w p n h y d = turned-arises (turn (class_of b) form) v t form read b a refl w p n h y d
arises (InStyle v n Closed) b a s w p o h y d = whole-arises (InStyle v n Closed) b a w h tt y d
arises (InStyle v n (Open form read)) b a s w p o h y d = style-arises (turn (class_of b) form) v n form read b a refl w p o h y d s
arises (InStyleElement m x) b a s w p o h y d = whole-arises (InStyleElement m x) b a w h tt y d
arises _ b a s w v n h y d = absurd (none_some a h)

arises-start : (f : Scan) (b : ℕ) (a : Parts) → Arises f b a → a.start ≡ true
arises-start f b a (after c e w) = c.start
arises-start f b a (before form read e k l c) = c.start

arises-open : (f : Scan) (b : ℕ) (a : Parts) → Arises f b a → is_some a.opened ≡ true
arises-open f b a (after c e w) = c.there
arises-open f b a (before form read e k l c) = c.there

-- Where it comes from, from any scan state.
abbrev ComesFrom : List ℕ → Scan → Type 0
ComesFrom bytes f = (ScanApart f × KeepsAll bytes f)
    ⊎ ((x : Member) × (z : Member) × ScanHas f x × ScanHas f z
    × ((s r : LexState ValueState) (g h : Scan) → Stand s g f → ScanHas g x → Stand r h f → ScanHas h z → PartFrom (scan_reference f) bytes s r))

-- a path before the URL, and one in its beginning
before-url : (s : LexState ValueState) (g f : Scan) (a : Parts) → scan_parts f ≡ Some a → Stand s g f → ScanHas g member.PartStart
    → scan_parts g ≡ Some (parts_of UrlStart)
before-url s g f a h i k =
    let t = below-parts g f a i.below h in
    t.1 ∙ ap Some (starts s t.0 (path-parts s g t.0 i.at t.1) ((part-members g t.0 t.1).start k))

record InBeginning (s : LexState ValueState) (g : Scan) (a : Parts) : Type 0 where
  spelled : spelling.Prefix
  parts : scan_parts g ≡ Some (parts_of (UrlOpen spelled))
  below : PartsBelow (parts_of (UrlOpen spelled)) a

in-beginning : (s : LexState ValueState) (g f : Scan) (a : Parts) → scan_parts f ≡ Some a → Stand s g f → ScanHas g member.PartOpen → InBeginning s g a
in-beginning s g f a h i k =
    let t = below-parts g f a i.below h in
    let o = opens s t.0 (path-parts s g t.0 i.at t.1) ((part-members g t.0 t.1).open_in k) in
    record { spelled = o.0; parts = t.1 ∙ ap Some o.1; below = subst (λ (x : Parts). PartsBelow x a) o.1 t.2 }

two-points : (f : Scan) (b : ℕ) (bs : List ℕ) (a z : Parts) → ScanValid f → scan_error f (class_of b) b ≡ None → scan_parts f ≡ Some a
    → scan_parts (scan_next f (class_of b) b) ≡ Some z → is_inside (feed_bytes parts_feeding a (scan_fed f (class_of b) b)) ≡ true
    → KeepsAll bs (scan_next f (class_of b) b) → has_met (scan_next f (class_of b) b) ≡ true → Arises f b a
    → (s r : LexState ValueState) (g h : Scan) → Stand s g f → ScanHas g member.PartStart → Stand r h f → ScanHas h member.PartOpen
    → PartFrom (scan_reference f) (b ∷ bs) s r
two-points f b bs a z v n h k inside keep met (after c e settled) s r g d i x j y =
    let t = before-url s g f a h i x in
    let w = in-beginning r d f a h j y in
    let goes = c.goes w.spelled w.below in
    let fed = scan_fed f (class_of b) b in
    let one = point-after s g f b bs fed (parts_of UrlStart) c.first (behind s g f b a z (parts_of UrlStart) h k n i t v met) e settled keep c.begins in
    let other = point-after r d f b bs fed (parts_of (UrlOpen w.spelled)) goes.0 (behind r d f b a z (parts_of (UrlOpen w.spelled)) h k n j w.parts v met) e settled keep goes.1 in
    part-from (scan_reference f) (b ∷ bs) s r
    (inl (
      points-apart (next languages Template s (class_of b) b) (next languages Template r (class_of b) b) bs c.first goes.0 one other goes.2,
      one.keeps,
      other.keeps,
    ))
two-points f b bs a z v n h k inside keep met (before form read e m l c) s r g d i x j y =
    let t = before-url s g f a h i x in
    let w = in-beginning r d f a h j y in
    let goes = c.goes w.spelled w.below in
    let one = point-before s g f b bs a z (parts_of UrlStart) c.first form read v n h k inside i t e m l keep met c.begins in
    let other = point-before r d f b bs a z (parts_of (UrlOpen w.spelled)) goes.0 form read v n h k inside j w.parts e m l keep met goes.1 in
    subst (λ (q : Reference). PartFrom q (b ∷ bs) s r) (sym e)
    (inl (points-apart s r (b ∷ bs) c.first goes.0 one other goes.2, one.keeps, other.keeps))

-- a byte before which paths had met apart already
kept-all : (f : Scan) (b : ℕ) (bs : List ℕ) (a z : Parts) → scan_error f (class_of b) b ≡ None → scan_parts f ≡ Some a
    → scan_parts (scan_next f (class_of b) b) ≡ Some z → is_inside (feed_bytes parts_feeding a (scan_fed f (class_of b) b)) ≡ true
    → KeepsAll bs (scan_next f (class_of b) b) → ScanValid f → has_met (scan_next f (class_of b) b) ≡ true → ScanOpensNone f → KeepsAll (b ∷ bs) f
kept-all f b bs a z n h k inside keep v met o s g i x =
    let c = class_of b in
    let t = below-parts g f a i.below h in
    let some = (part-members g t.0 t.1).open_in x in
    let u = next languages Template s c b in
    let m = behind s g f b a z t.0 h k n i t.1 v met in
    let later = feed_bytes parts_feeding t.0 (scan_fed f c b) in
    let opened = open-bytes (scan_fed f c b) a t.0 some inside in
    let begins = opened-begins u later (path-parts u (scan_next g c b) later m.stand.at m.parts) opened in
    keeps-fore b bs s
    (before-begins s b bs (opens-of s g (url-of s (begins-value s (opened-begins s t.0 (path-parts s g t.0 i.at t.1) some))) i.at i.valid (below-opens g f i.below o))
    (opened-begins s t.0 (path-parts s g t.0 i.at t.1) some) begins)
    (keeps-back bs u begins (keep u (scan_next g c b) m.stand ((part-members (scan_next g c b) later m.parts).opens opened)))

by-apart : (y : Bool) (f : Scan) (b : ℕ) (bs : List ℕ) (a z : Parts) → ScanOpensNone f → scan_parts f ≡ Some a → spells_apart a.opened ≡ y → ScanValid f → ScanPlain f
    → scan_error f (class_of b) b ≡ None → scan_parts (scan_next f (class_of b) b) ≡ Some z
    → spells_apart (feed_bytes parts_feeding a (scan_fed f (class_of b) b)).opened ≡ true
    → is_inside (feed_bytes parts_feeding a (scan_fed f (class_of b) b)) ≡ true
    → KeepsAll bs (scan_next f (class_of b) b) → has_met (scan_next f (class_of b) b) ≡ true → ComesFrom (b ∷ bs) f
by-apart true f b bs a z o h e v w n k apart inside keep met = inl (parts-apart f a h e, kept-all f b bs a z n h k inside keep v met o)
by-apart false f b bs a z o h e v w n k apart inside keep met =
    let r = arises f b a (next-stays f b a v h met) v w n h e apart in
    let m = part-members f a h in
    inr (member.PartStart, member.PartOpen, m.starts (arises-start f b a r), m.opens (arises-open f b a r), two-points f b bs a z v n h k inside keep met r)

-- by whether it was so before the byte
apart-before : (o : Option Parts) (f : Scan) (b : ℕ) (bs : List ℕ) → scan_parts f ≡ o → ScanOpensNone f → ScanValid f → ScanPlain f
    → scan_error f (class_of b) b ≡ None → ScanApart (scan_next f (class_of b) b) → KeepsAll bs (scan_next f (class_of b) b) → ComesFrom (b ∷ bs) f
apart-before None f b bs h o v w n m keep = absurd (no (sym (scan-unmet f (class_of b) b v h n) ∙ ap spells_apart m))
apart-before (Some a) f b bs h o v w n m keep =
    let g = scan_next f (class_of b) b in
    let fed = feed_bytes parts_feeding a (scan_fed f (class_of b) b) in
    let on : scan_parts g ≡ Some fed = elim ((next-url f a (class_of b) b v h).parts) [ inl k ↦ absurd (no (sym k ∙ ap spells_apart m)) | inr k ↦ k ] in
    let apart = of-differs fed.opened (sym (raw-opened g fed on) ∙ m) in
    by-apart (spells_apart a.opened) f b bs a fed o h refl v w n on apart (apart-inside fed apart) keep (ap spells_apart m)

-- at the end of the text
end-parts : (v : ValuePlace) (r : Reference) (a : Parts) → v.body ≡ body.Url a
    → beginning_in_body (parts_with v.body (as_it_stands r)) ≡ Some prefix.Differs
    → spells_apart (feed_bytes parts_feeding a (as_it_stands r)).opened ≡ true
end-parts v r a h e = of-differs _ (sym (body-opened v.body a (as_it_stands r) h) ∙ e)

below-has : (x v : ValuePlace) (r : Reference) → ValueBelow x v → UrlWithin v.body → HasApart (scan_place (InUrl v NoTriple r)) → Has (place.Value x) side
    → Has (with_body x (parts_with x.body (as_it_stands r))) side
below-has x v r l w h k =
    let s = url-within v.body w in
    let t = parts-of-below x.body s.0 (subst (λ (z : Body). joined_bodies x.body z ≡ Some z) s.1 l.body) in
    let stands = as_it_stands r in
    let inside = apart-inside (feed_bytes parts_feeding s.0 stands) (end-parts v r s.0 s.1 h) in
    let opened = open-bytes stands s.0 t.0 ((value-members x t.0 (ap body_parts t.1)).open_in k) inside in
    side-has (with_body x (parts_with x.body stands)) (ap is_some (body-opened x.body t.0 stands t.1) ∙ opened)

-- in a style, which stays in the URL
abbrev OpenedIn : StyleScan → Type 0
OpenedIn k = (t : Parts) → style_scan_parts k ≡ Some t → is_some t.opened ≡ true

style-end-by : (k m : StyleScan) (s : Parts) (bytes : List ℕ) → StyleScanBelow k m → style_scan_parts m ≡ Some s
    → beginning_in_css (style_scan_place (feed_bytes style_feeding m bytes)) ≡ Some prefix.Differs → OpenedIn k
    → StaysInUrl m bytes ⊎ KnownUrl (feed_bytes style_feeding m bytes) → is_some (beginning_in_css (style_scan_place (feed_bytes style_feeding k bytes))) ≡ true
style-end-by k m s bytes l i h y (inl w) =
    let e = below-in-url k m s l i in
    let fed = stays-parts bytes k e.0 e.1 (stays-same bytes k m e.2.same w) in
    let above = stays-parts bytes m s i w in
    let apart = of-differs (feed_bytes parts_feeding s bytes).opened (sym (scan-opened (feed_bytes style_feeding m bytes) (feed_bytes parts_feeding s bytes) above) ∙ h) in
    let opened = open-bytes bytes s e.0 (y e.0 e.1) (apart-inside (feed_bytes parts_feeding s bytes) apart) in
    ap is_some (scan-opened (feed_bytes style_feeding k bytes) (feed_bytes parts_feeding e.0 bytes) fed) ∙ opened
style-end-by k m s bytes l i h y (inr n) =
    absurd (no (sym (unmet-spells (feed_bytes style_feeding m bytes) (known-unmet (feed_bytes style_feeding m bytes) n)) ∙ ap spells_apart h))

style-end-opened : (k m : StyleScan) (o : Option Parts) (bytes : List ℕ) → StyleScanBelow k m → style_scan_parts m ≡ o
    → beginning_in_css (style_scan_place (feed_bytes style_feeding m bytes)) ≡ Some prefix.Differs → OpenedIn k
    → is_some (beginning_in_css (style_scan_place (feed_bytes style_feeding k bytes))) ≡ true
style-end-opened k m (Some s) bytes l i h y = style-end-by k m s bytes l i h y (feeds bytes m s i)
style-end-opened k m None bytes l i h y =
    let n = feed_bytes style_feeding m bytes in
    absurd (no (sym (unmet-spells n (known-unmet n (known-fed bytes m (known_none i)))) ∙ ap spells_apart h))

style-end-has : (x : ValuePlace) (k m : StyleScan) (bytes : List ℕ) → StyleScanBelow k m
    → beginning_in_css (style_scan_place (feed_bytes style_feeding m bytes)) ≡ Some prefix.Differs → ScanHas (InStyle x k Closed) side
    → Has (with_style x (feed_bytes style_feeding k bytes)) side
style-end-has x k m bytes l h y =
    side-has (with_style x (feed_bytes style_feeding k bytes))
    (style-end-opened k m (style_scan_parts m) bytes l refl h (λ t e. (part-members (InStyle x k Closed) t e).open_in y))

element-end-has : (k m : StyleScan) (h : Pending) (bytes : List ℕ) → StyleScanBelow k m
    → beginning_in_css (style_scan_place (feed_bytes style_feeding m bytes)) ≡ Some prefix.Differs → ScanHas (InStyleElement k h) side
    → Has (place.Style (style_scan_place (feed_bytes style_feeding k bytes))) side
element-end-has k m h bytes l e y =
    side-has (place.Style (style_scan_place (feed_bytes style_feeding k bytes)))
    (style-end-opened k m (style_scan_parts m) bytes l refl e (λ t i. (part-members (InStyleElement k h) t i).open_in y))

element-has : (k : StyleScan) (x : Pending) (f : Scan) → ScanBelow (InStyleElement k x) f → HasApart (scan_place f) → ScanHas (InStyleElement k x) side
    → Has (scan_place (InStyleElement k x)) side
element-has k x f l h y =
    under-element (λ g. HasApart (scan_place g) → Has (scan_place (InStyleElement k x)) side) k x f l
    (λ m i e. element-end-has k m x (pending_bytes x) i e y)
    (λ d j i e. subst (λ (z : Pending). Has (scan_place (InStyleElement k z)) side) (sym j)
    (element-end-has k (style_scan_start d) x [] i (ap beginning_in_css (start-place d) ∙ e) y)) h

under-has : (x : ValuePlace) (k : StyleScan) (w : ValuePlace) → StyleUnderBody x k w w.body → beginning_in_body w.body ≡ Some prefix.Differs
    → ScanHas (InStyle x k Closed) side → Has (with_style x k) side
under-has x k w l h y =
    let d = under-body x k w w.body l in
    style-end-has x k (style_scan_start d.0) [] d.2.scan
    (ap beginning_in_css (start-place d.0) ∙ ap beginning_in_body (sym d.1) ∙ h) y

-- a script has no part of a URL
star-open : (star : Bool) → js_star_has star side ≡ false
star-open true = refl
star-open false = refl

set-open-at : (s : Senses) (x : JsTails) (star : Bool) (a : ScriptAt) → script_set_at s x star a side ≡ false
set-open-at s x star (InString q e) = star-open star
set-open-at s x star (InRegexp k e) = star-open star
set-open-at s x star (Slash t) = star-open star
set-open-at s x star a = star-open star

script-open : (q : Quotes) (n : ScriptScan) → (quotes_have q side || script_set_has n side) ≡ false
script-open quotes.Dq n = set-open-at n.senses n.before n.star n.state.at
script-open quotes.Sq n = set-open-at n.senses n.before n.star n.state.at
script-open (quotes.Bare b) n = set-open-at n.senses n.before n.star n.state.at

end-has : (g f : Scan) → ScanValid f → ScanBelow g f → HasApart (scan_place f) → ScanHas g side → Has (scan_place g) side
end-has (At p) f w l h k = k
end-has (InUrl x t r) (InUrl v u z) w l h k =
    subst (λ (y : Reference). Has (with_body x (parts_with x.body (as_it_stands y))) side) (sym l.2) (below-has x v z l.0 w.1 h k)
end-has (InUrl x t r) _ w l h k = absurd l
end-has (InStyle x k r) (InStyle v m z) w l h y =
    style-end-has x k m (as_it_stands r) l.0.scan
    (ap (λ (a : Reference). beginning_in_css (style_scan_place (feed_bytes style_feeding m (as_it_stands a)))) l.1 ∙ h) y
end-has (InStyle x k r) (At (place.Value v)) w l h y =
    subst (λ (a : Reference). Has (with_style x (feed_bytes style_feeding k (as_it_stands a))) side) (sym l.1) (under-has x k v l.0 h y)
end-has (InStyle x k r) (At _) w l h y = absurd l.0
end-has (InStyle x k r) _ w l h y = absurd l
end-has (InStyleElement k x) f w l h y = element-has k x f l h y
end-has (InAttributeName t x n) f w l h k = absurd (no k)
end-has (InScriptElement n x) f w l h k = absurd (no (sym (script-open quotes.Dq n) ∙ k))
end-has (InScript x n r) f w l h k = absurd (no (sym (script-open x.quotes n) ∙ k))
end-has _ f w l h k = absurd (no k)

end-keeps : (k : ℕ) (since : TextRead) (f : Scan) (q : Place) → ScanValid f → stepped k since [] f ≡ Ok q → HasApart q → KeepsAll [] f
end-keeps k since f q v e a s g i x =
    let r = grows-from [] 0 nothing_read nothing_read g f q refl i.valid i.below (accepts-anywhere [] k since 0 nothing_read f q refl e) in
    let own = (subst (λ o. Says o 0 nothing_read [] s) r.1 (says [] 0 nothing_read s g i.at (nil-fits s))).1 in
    let there = (end-ok 0 nothing_read g r.0 r.1).place in
    subst (Keeps []) (sym (before-none s))
    (record {
      own = r.0;
      stands = own;
      has = subst (λ (p : Place). Has p side) there (end-has g f v i.below (subst HasApart (sym (end-ok k since f q e).place) a) x);
    })

comes-from : (bytes : List ℕ) (k : ℕ) (since : TextRead) (f : Scan) (q : Place) → ScanOpensNone f → ScanValid f → ScanPlain f → stepped k since bytes f ≡ Ok q → HasApart q
    → ComesFrom bytes f
comes-from [] k since f q o v w e a =
    inl (end-apart f v (subst HasApart (sym (end-ok k since f q e).place) a), end-keeps k since f q v e a)
comes-from (b ∷ bs) k since f q o v w e a =
    let n = step-ok k since b bs f q e in
    let c = class_of b in
    let f2 = scan_next f c b in
    let v2 = scan-valid f c b v n.0 in
    elim (comes-from bs (k + 1) (scan_read_behind k since f (class_of b) b) f2 q (scan-opens f b o) v2 (scan-plain f b w) n.1 a) [
      | inl m ↦ apart-before (scan_parts f) f b bs refl o v w n.0 m.0 m.1
      | inr m ↦ (let x = from-byte f c b m.0 refl v n.0 m.2 in let z = from-byte f c b m.1 refl v n.0 m.3 in
          inr (
            byte_origin f c b m.0,
            byte_origin f c b m.1,
            x.there,
            z.there,
            λ s r g h i y j d. part-from (scan_reference f) (b ∷ bs) s r
                (from-part (scan_reference f2) b bs s r
                (m.4 (next languages Template s c b) (next languages Template r c b) (scan_next g c b) (scan_next h c b)
                (next-stand s g f b n.0 i) (x.leads g i.valid i.below y) (next-stand r h f b n.0 j) (z.leads h j.valid j.below d))),
          ))
    ]

pub apart-from : (bytes : List ℕ) (p q : Place) → IsValid p → after_text bytes p ≡ Ok q → HasApart q →
    (HasApart p × ((s : LexState ValueState) → IsIn p s → Bears s side → Keeps bytes s × Bears (node bytes s) side))
    ⊎ ((x : Member) × (z : Member) × Has p x × Has p z × ((s r : LexState ValueState) → IsIn p s → Bears s x → IsIn p r → Bears r z
    → PartWithin bytes s r × Bears (node bytes s) side × Bears (node bytes r) side))
apart-from bytes p q v e a = elim (comes-from bytes 0 nothing_read (At p) q tt v tt (text-steps bytes p q e) a) [
  | inl m ↦ inl (
    m.0,
    λ s i b. let k = keeps-back bytes s (side-begins s b) (m.1 s (At i.own) (stand-in p s i) (own-has p s side i b)) in
        (k, stays-there bytes s k),
  )
  | inr m ↦ inr (
    m.0,
    m.1,
    m.2,
    m.3,
    λ s r i x j z.
        let k = m.4 s r (At i.own) (At j.own) (stand-in p s i) (own-has p s m.0 i x) (stand-in p r j) (own-has p r m.1 j z) in
        let both = sides-within bytes s r k in (k, both.0, both.1),
  )
]
