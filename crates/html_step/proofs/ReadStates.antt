-- States of paths in a URL or a style before the bytes that are left of a text, where a reference that the next byte breaks has been read: their scan
-- state, their place, and the path of which it is not known what it spells.
use Rattle.std.proofs.Common.{◌≡◌, ℕ, Bool, true, false, not, List, [], ◌∷◌, Option, Some, None, length, ◌+◌, if◌then◌else◌, refl, sym, ap, ◌∙◌, subst, inl}
use Rattle.css_lexer.specs.Escapes.{StyleEscape, NoEscape, AfterBackslash, HexDigits, AfterReturn}
use Rattle.css_lexer.specs.States.{Quote, DoubleQuote, SingleQuote, Fresh, Bare, Quoted, Ended, Style, Out}
use Rattle.css_lexer.specs.States as style
use Rattle.css_step.proofs.StyleScanned.{has-scan}
use Rattle.css_step.specs.StyleOrigins.{style_scan_parts}
use Rattle.css_step.specs.StyleScanLaws.{IsStyleScan, style_scanned}
use Rattle.css_step.specs.StyleScans.{StyleScan, ScanBareUrl, ScanQuotedUrl, is_style_start, style_scan_place, style_scan_start}
use Rattle.css_step.specs.StyleSetLaws.{StyleScanBelow, below_bare, below_quoted}
use Rattle.place_core.specs.page.Classes.{Class, class_of, is_equals_sign}
use Rattle.place_core.specs.page.References.{Form, Reference, Closed, Open, ReferenceStep, Grows, Closes, Breaks, flushed, turn}
use Rattle.place_core.specs.page.Contents.{pending_bytes}
use Rattle.place_core.specs.page.States.{LexState, AttributeValue, InContent, InLanguage, Pending, Nothing, PendingLess, LessAtCut, PendingName, PendingBang, PendingBangDash, PendingOpening}
use Rattle.place_core.specs.page.Tags.{Deciding, OfKind, OfUrl, OfStyle, OfScript, Tag, ValueOf, ValueState, languages, feed_bytes, with_bytes, Quoting, DoubleQuoted, SingleQuoted, Unquoted}
use Rattle.place_core.specs.place.ApartPlaces.{beginning_at, beginning_in_css}
use Rattle.place_core.specs.place.Errors.{flushed_error, is_written, pending_error, place_before_bytes}
use Rattle.place_core.specs.declared.element.Element.{Element}
use Rattle.place_core.specs.declared.element.Element.TheVariants as element
use Rattle.place_core.specs.place.PathPairs.{is_broken_by, is_in_beginning, is_in_reference, read_before, state_before, unknown_beginning, unknown_part}
use Rattle.place_core.specs.place.Places.{joined_bodies}
use Rattle.place_core.specs.place.LanguagePlaces.{IsValidCss, IsValidParts}
use Rattle.place_core.specs.place.StatePlaces.{quotes_at}
use Rattle.place_core.specs.place.StyleParts.{style_quoted_place}
use Rattle.place_core.specs.place.UrlParts.{parts_of}
use Rattle.place_core.specs.declared.body.Body.{Body}
use Rattle.place_core.specs.declared.body.Body.TheVariants as body
use Rattle.place_core.specs.declared.css.Css.{Css}
use Rattle.place_core.specs.declared.parts.Parts.{Parts}
use Rattle.place_core.specs.declared.place.Place.{Place}
use Rattle.place_core.specs.declared.place.Place.TheVariants as place
use Rattle.place_core.specs.declared.quotes.Quotes.{Quotes}
use Rattle.place_core.specs.declared.value_place.ValuePlace.{ValuePlace}
use Rattle.place_core.proofs.Semilattices.{none_some, one_value}
use Rattle.html_scan.specs.Scans.{Scan, At, InScript, InUrl, InStyle, InScriptElement, InStyleElement, element_scan, pending_left, parts_before, parts_feeding, parts_with, scan_shown, style_before, style_feeding, style_scan, triple_behind, url_scan, with_body, with_style, scan_reference}
use Rattle.html_step.specs.Origins.{body_parts, is_apart, scan_parts}
use Rattle.html_step.proofs.ApartParts.{unknown-below}
use Rattle.html_step.proofs.FromValues.{nothing-fed}
use Rattle.html_step.proofs.KeptBeginnings.{OpensNone, before-value, begins-value, is_url_value}
use Rattle.html_step.proofs.OnePath.{url-fed, url-reference, url-shown}
use Rattle.html_step.proofs.Parentheses.{ReferenceOpensNone}
use Rattle.html_step.proofs.PathScans.{IsShown, element_scanned, scanned, style_element_scanned, style_value_scanned, url_scanned, url_value}
use Rattle.html_step.proofs.PlaceParts.{ValueBelow, below-value, value-below}
use Rattle.html_step.proofs.ReadScans.{NotBroken, ReadTaken, read-closed, read_style, read_turn, scan_read}
use Rattle.html_step.proofs.ScanOrder.{HasBegun, IsPendingName, ScanBelow, ScanValid, StyleUnderBody, starts-in-order, style-place-below, under-body}
use Rattle.html_step.proofs.ElementsBelow.{under-element}
use Rattle.html_step.proofs.EndTagNames.{pending-no-opening}
use Rattle.html_step.proofs.OneTexts.{IsNoScriptScan, ends-at}
use Rattle.html_step.proofs.StyleOrder.{below-css, scan-below-start, scan-of-start}
use Rattle.html_step.proofs.StylePaths.{style-scan-reference, style-scan-shown, style_value}
use Rattle.html_step.proofs.StyleSteps.{at_style, style-ends, style-fed-there, style-there, style-turned}
use Rattle.html_step.proofs.StyleUrls.{SameUrl, above-in-url, same_bare, same_quoted, scan-opened}
use Rattle.html_step.proofs.UrlScans.{InBody, body-opened, css-opened, element-closed-by, element-parts-by, elements-in-order, in_style, in_url, parts-body, style-parts, url-parts}
use Rattle.html_step.proofs.ValidSteps.{style-valid, url-valid}
use Rattle.url_lexer.specs.Parts.{UrlPart, UrlStart, UrlOpen, UrlOpenhole, UrlPrequery, UrlQuery, UrlBad}
use Rattle.url_lexer.specs.Prefixes as spelling
use Rattle.url_lexer.specs.States.{Url}
use Rattle.url_lexer.specs.TwoPaths.{is_open}
use Rattle.url_lexer.specs.Triples.{Triple, NoTriple, AfterPercent, AfterDigit}
use Rattle.url_step.specs.PartSets.{PartsBelow}

no : false ≡ true → ⊥
no e = cc

-- a path in a URL, or in a style, be it that of a value or of the element `style`
pub data UrlState (s : LexState ValueState) : Type 0 where
  url_state : (q : Quoting) (t : Tag) (u : Url) (r : Reference) → s ≡ AttributeValue q t (ValueOf (OfUrl u)) r → UrlState s
  style_state : (q : Quoting) (t : Tag) (v : Style Url) (r : Reference) → s ≡ AttributeValue q t (ValueOf (OfStyle v)) r → UrlState s
  element_state : (e : Element) (v : Style Url) (x : Pending) → s ≡ InContent e (InLanguage (OfStyle v)) x → UrlState s

pub url-of : (s : LexState ValueState) → is_url_value s ≡ true → UrlState s
url-of (AttributeValue q t (ValueOf (OfUrl u)) r) h = url_state q t u r refl
url-of (AttributeValue q t (ValueOf (OfKind k)) r) h = absurd (no h)
url-of (AttributeValue q t (ValueOf (OfScript v)) r) h = absurd (no h)
url-of (AttributeValue q t (ValueOf (OfStyle v)) r) h = style_state q t v r refl
url-of (AttributeValue q t (Deciding k before) r) h = absurd (no h)
url-of (InContent e (InLanguage (OfStyle v)) x) h = element_state e v x refl
url-of _ h = absurd (no h)

-- a path that is in the beginning when it is read is in a URL or a style before
pub url-before : (s : LexState ValueState) (bs : List ℕ) → is_in_beginning (state_before s bs) ≡ true → UrlState s
url-before s bs h = url-of s (sym (before-value s bs) ∙ begins-value (state_before s bs) h)

-- its scan state
url-open : (v : ValuePlace) (t : Triple) (f : Form) (bytes : List ℕ) → url_scan v t (Open f bytes) ≡ InUrl v t (Open f bytes)
url-open v NoTriple f bytes = refl
url-open v AfterPercent f bytes = refl
url-open v AfterDigit f bytes = refl

url-closed : (v : ValuePlace) (t : Triple) (bs : List ℕ) → scan_read (url_scan v t Closed) bs ≡ url_scan v t Closed
url-closed v NoTriple bs = refl
url-closed v AfterPercent bs = refl
url-closed v AfterDigit bs = refl

url-end : (v : ValuePlace) (t : Triple) (r : Reference) → scan_read (url_scan v t r) [] ≡ url_scan v t r
url-end v NoTriple Closed = refl
url-end v NoTriple (Open f bytes) = refl
url-end v AfterPercent Closed = refl
url-end v AfterPercent (Open f bytes) = refl
url-end v AfterDigit Closed = refl
url-end v AfterDigit (Open f bytes) = refl

turn-state : (z : ReferenceStep) (q : Quoting) (t : Tag) (u : Url) (f : Form) (bytes : List ℕ) (c : Class)
    → scanned (read_before z (AttributeValue q t (with_bytes languages (ValueOf (OfUrl u)) (flushed true (is_equals_sign c) f bytes)) Closed)
    (AttributeValue q t (ValueOf (OfUrl u)) (Open f bytes)))
    ≡ Some (read_turn z (url_value t (quotes_at q) (parts_of u.part)) u.triple f bytes c)
turn-state Breaks q t u f bytes c = url-fed q t u (flushed true (is_equals_sign c) f bytes) Closed
turn-state (Grows g) q t u f bytes c = ap Some (url-open (url_value t (quotes_at q) (parts_of u.part)) u.triple f bytes)
turn-state Closes q t u f bytes c = ap Some (url-open (url_value t (quotes_at q) (parts_of u.part)) u.triple f bytes)

read-url : (q : Quoting) (t : Tag) (u : Url) (r : Reference) (bs : List ℕ)
    → scanned (state_before (AttributeValue q t (ValueOf (OfUrl u)) r) bs) ≡ Some (scan_read (url_scanned q t u r) bs)
read-url q t u Closed bs = ap Some (sym (url-closed (url_value t (quotes_at q) (parts_of u.part)) u.triple bs))
read-url q t u (Open f bytes) [] = ap Some (sym (url-end (url_value t (quotes_at q) (parts_of u.part)) u.triple (Open f bytes)))
read-url q t u (Open f bytes) (b ∷ bs) =
    turn-state (turn (class_of b) f) q t u f bytes (class_of b)
    ∙ ap (λ (g : Scan). Some (scan_read g (b ∷ bs))) (sym (url-open (url_value t (quotes_at q) (parts_of u.part)) u.triple f bytes))

-- in a style, where what is read is not refused
pub record StyleOf (q : Quoting) (t : Tag) (v : Style Url) (r : Reference) (g : Scan) : Type 0 where
  pub scan : StyleScan
  pub is : IsStyleScan v scan
  pub at : style_scan (style_value t (quotes_at q)) scan r ≡ g

style-of-by : (q : Quoting) (t : Tag) (v : Style Url) (r : Reference) (g : Scan) (o : Option StyleScan) → style_scanned v ≡ o
    → style_value_scanned q t o r ≡ Some g → StyleOf q t v r g
style-of-by q t v r g (Some n) e h = record { scan = n; is = has-scan v n e; at = one_value (style_scan (style_value t (quotes_at q)) n r) g h }
style-of-by q t v r g None e h = absurd (none_some g h)

pub style-of : (q : Quoting) (t : Tag) (v : Style Url) (r : Reference) (g : Scan) → scanned (AttributeValue q t (ValueOf (OfStyle v)) r) ≡ Some g
    → StyleOf q t v r g
style-of q t v r g h = style-of-by q t v r g (style_scanned v) refl h

-- in the element `style`
abbrev pub element_at : Pending → StyleScan → Scan
element_at Nothing n = element_scan n
element_at x n = InStyleElement n x

pub record ElementOf (e : Element) (v : Style Url) (x : Pending) (g : Scan) : Type 0 where
  pub element : e ≡ element.Style
  pub scan : StyleScan
  pub is : IsStyleScan v scan
  pub at : element_scanned x scan ≡ Some g

element-of-by : (v : Style Url) (x : Pending) (g : Scan) (o : Option StyleScan) → style_scanned v ≡ o → style_element_scanned x o ≡ Some g
    → ElementOf element.Style v x g
element-of-by v x g (Some n) e h = record { element = refl; scan = n; is = has-scan v n e; at = h }
element-of-by v x g None e h = absurd (none_some g h)

pub element-of : (e : Element) (v : Style Url) (x : Pending) (g : Scan) → scanned (InContent e (InLanguage (OfStyle v)) x) ≡ Some g → ElementOf e v x g
element-of element.Style v x g h = element-of-by v x g (style_scanned v) refl h
element-of _ v x g h = absurd (none_some g h)

-- its form, which is that of any other scan state of a style there
pub record ElementForm (x : Pending) (n : StyleScan) (g : Scan) : Type 0 where
  pub same : element_at x n ≡ g
  pub other : (m : StyleScan) → element_scanned x m ≡ Some (element_at x m)

pub element-form : (x : Pending) (n : StyleScan) (g : Scan) → element_scanned x n ≡ Some g → ElementForm x n g
element-form Nothing n g h = record { same = one_value (element_scan n) g h; other = λ m. refl }
element-form PendingLess n g h = record { same = one_value (InStyleElement n PendingLess) g h; other = λ m. refl }
element-form (PendingName letters) n g h = record { same = one_value (InStyleElement n (PendingName letters)) g h; other = λ m. refl }
element-form LessAtCut n g h = absurd (none_some g h)
element-form PendingBang n g h = absurd (none_some g h)
element-form PendingBangDash n g h = absurd (none_some g h)
element-form (PendingOpening letters) n g h = absurd (none_some g h)

pub element-at-closed : (x : Pending) (n : StyleScan) → scan_reference (element_at x n) ≡ Closed
element-at-closed Nothing n = element-closed-by n (is_style_start n)
element-at-closed PendingLess n = refl
element-at-closed LessAtCut n = refl
element-at-closed (PendingName letters) n = refl
element-at-closed PendingBang n = refl
element-at-closed PendingBangDash n = refl
element-at-closed (PendingOpening letters) n = refl

pub element-at-parts : (x : Pending) (n : StyleScan) → scan_parts (element_at x n) ≡ style_scan_parts n
element-at-parts Nothing n = element-parts-by n (is_style_start n) refl
element-at-parts PendingLess n = refl
element-at-parts LessAtCut n = refl
element-at-parts (PendingName letters) n = refl
element-at-parts PendingBang n = refl
element-at-parts PendingBangDash n = refl
element-at-parts (PendingOpening letters) n = refl

element-closed : (e : Element) (v : Style Url) (x : Pending) (g : Scan) → scanned (InContent e (InLanguage (OfStyle v)) x) ≡ Some g → scan_reference g ≡ Closed
element-closed e v x g h =
    let o = element-of e v x g h in
    ap scan_reference (sym (element-form x o.scan g o.at).same) ∙ element-at-closed x o.scan

style-closed : (v : ValuePlace) (n : StyleScan) (bs : List ℕ) → scan_read (style_scan v n Closed) bs ≡ style_scan v n Closed
style-closed v n bs = read-closed (style_scan v n Closed) bs (style-scan-reference v n Closed)

turn-style : (z : ReferenceStep) (q : Quoting) (t : Tag) (v : Style Url) (n : StyleScan) (f : Form) (bytes : List ℕ) (c : Class) → IsStyleScan v n
    → (z ≡ Breaks → flushed_error style_feeding n (is_equals_sign c) f bytes ≡ None)
    → scanned (read_before z (AttributeValue q t (with_bytes languages (ValueOf (OfStyle v)) (flushed true (is_equals_sign c) f bytes)) Closed)
    (AttributeValue q t (ValueOf (OfStyle v)) (Open f bytes)))
    ≡ Some (read_style z (style_value t (quotes_at q)) n f bytes c)
turn-style Breaks q t v n f bytes c i e =
    let xs = flushed true (is_equals_sign c) f bytes in
    style-there q t (with_bytes languages (ValueOf (OfStyle v)) xs) (feed_bytes style_feeding n xs) Closed
    (style-fed-there v n xs (is_written (is_equals_sign c) f bytes) (length bytes + 1) i (e refl))
turn-style (Grows g) q t v n f bytes c i e = style-there q t (ValueOf (OfStyle v)) n (Open f bytes) i
turn-style Closes q t v n f bytes c i e = style-there q t (ValueOf (OfStyle v)) n (Open f bytes) i

read-style-state : (q : Quoting) (t : Tag) (v : Style Url) (n : StyleScan) (r : Reference) (bs : List ℕ) → IsStyleScan v n
    → ReadTaken (style_scan (style_value t (quotes_at q)) n r) bs
    → scanned (state_before (AttributeValue q t (ValueOf (OfStyle v)) r) bs) ≡ Some (scan_read (style_scan (style_value t (quotes_at q)) n r) bs)
read-style-state q t v n Closed bs i k =
    style-there q t (ValueOf (OfStyle v)) n Closed i ∙ ap Some (sym (style-closed (style_value t (quotes_at q)) n bs))
read-style-state q t v n (Open f bytes) [] i k = style-there q t (ValueOf (OfStyle v)) n (Open f bytes) i
read-style-state q t v n (Open f bytes) (b ∷ bs) i k = turn-style (turn (class_of b) f) q t v n f bytes (class_of b) i k

pub read-state : (s : LexState ValueState) (g : Scan) (bs : List ℕ) → UrlState s → scanned s ≡ Some g → ReadTaken g bs
    → scanned (state_before s bs) ≡ Some (scan_read g bs)
read-state s g bs (style_state q t v r i) e k =
    let o = style-of q t v r g (sym (ap scanned i) ∙ e) in
    ap (λ (x : LexState ValueState). scanned (state_before x bs)) i
    ∙ read-style-state q t v o.scan r bs o.is (subst (λ (x : Scan). ReadTaken x bs) (sym o.at) k)
    ∙ ap (λ (x : Scan). Some (scan_read x bs)) o.at
read-state s g bs (url_state q t u r i) e k =
    let same : url_scanned q t u r ≡ g = one_value (url_scanned q t u r) g (sym (ap scanned i) ∙ e) in
    ap (λ (x : LexState ValueState). scanned (state_before x bs)) i ∙ read-url q t u r bs ∙ ap (λ (x : Scan). Some (scan_read x bs)) same
read-state s g bs (element_state y v x i) e k =
    let there = sym (ap scanned i) ∙ e in
    ap (λ (z : LexState ValueState). scanned (state_before z bs)) i ∙ there
    ∙ ap Some (sym (read-closed g bs (element-closed y v x g there)))

-- where no reference is open then, none is open before with which the next byte goes on
turn-between : (z : ReferenceStep) (v : ValuePlace) (t : Triple) (f : Form) (bytes : List ℕ) (c : Class) → scan_reference (read_turn z v t f bytes c) ≡ Closed
    → not (is_broken_by z) ≡ false
turn-between Breaks v t f bytes c h = refl
turn-between (Grows g) v t f bytes c h = cc
turn-between Closes v t f bytes c h = cc

url-between : (q : Quoting) (t : Tag) (u : Url) (r : Reference) (bs : List ℕ) → scan_reference (scan_read (url_scanned q t u r) bs) ≡ Closed
    → is_in_reference (AttributeValue q t (ValueOf (OfUrl u)) r) bs ≡ false
url-between q t u Closed bs h = refl
url-between q t u (Open f bytes) [] h = refl
url-between q t u (Open f bytes) (b ∷ bs) h =
    let v = url_value t (quotes_at q) (parts_of u.part) in
    turn-between (turn (class_of b) f) v u.triple f bytes (class_of b)
    (ap (λ (g : Scan). scan_reference (scan_read g (b ∷ bs))) (sym (url-open v u.triple f bytes)) ∙ h)

turn-style-between : (z : ReferenceStep) (v : ValuePlace) (n : StyleScan) (f : Form) (bytes : List ℕ) (c : Class)
    → scan_reference (read_style z v n f bytes c) ≡ Closed → not (is_broken_by z) ≡ false
turn-style-between Breaks v n f bytes c h = refl
turn-style-between (Grows g) v n f bytes c h = cc
turn-style-between Closes v n f bytes c h = cc

style-between : (q : Quoting) (t : Tag) (v : Style Url) (w : ValuePlace) (n : StyleScan) (r : Reference) (bs : List ℕ)
    → scan_reference (scan_read (style_scan w n r) bs) ≡ Closed → is_in_reference (AttributeValue q t (ValueOf (OfStyle v)) r) bs ≡ false
style-between q t v w n Closed bs h = refl
style-between q t v w n (Open f bytes) [] h = refl
style-between q t v w n (Open f bytes) (b ∷ bs) h = turn-style-between (turn (class_of b) f) w n f bytes (class_of b) h

pub read-between : (s : LexState ValueState) (g : Scan) (bs : List ℕ) → UrlState s → scanned s ≡ Some g → scan_reference (scan_read g bs) ≡ Closed
    → is_in_reference s bs ≡ false
read-between s g bs (style_state q t v r i) e h =
    let o = style-of q t v r g (sym (ap scanned i) ∙ e) in
    ap (λ (x : LexState ValueState). is_in_reference x bs) i
    ∙ style-between q t v (style_value t (quotes_at q)) o.scan r bs (ap (λ (x : Scan). scan_reference (scan_read x bs)) o.at ∙ h)
read-between s g bs (url_state q t u r i) e h =
    let same : url_scanned q t u r ≡ g = one_value (url_scanned q t u r) g (sym (ap scanned i) ∙ e) in
    ap (λ (x : LexState ValueState). is_in_reference x bs) i ∙ url-between q t u r bs (ap (λ (x : Scan). scan_reference (scan_read x bs)) same ∙ h)
read-between s g bs (element_state y v x i) e h = ap (λ (z : LexState ValueState). is_in_reference z bs) i

-- Nothing is pending there that comes to nothing at the next byte.
abbrev pub NonePending : Scan → List ℕ → Type 0
NonePending (InStyleElement n x) bs = pending_left element.Style x bs ≡ Nothing
NonePending f bs = Unit {0}

-- the place that is shown there spells what the scan state does
step-body : (z : ReferenceStep) (x : Body) (c : Class) (f : Form) (bytes : List ℕ) → (z ≡ Breaks → ⊥) → parts_before z x c f bytes ≡ x
step-body Breaks x c f bytes n = absurd (n refl)
step-body (Grows g) x c f bytes n = refl
step-body Closes x c f bytes n = refl

step-style : (z : ReferenceStep) (m : StyleScan) (c : Class) (f : Form) (bytes : List ℕ) → (z ≡ Breaks → ⊥) → style_before z m c f bytes ≡ m
step-style Breaks m c f bytes n = absurd (n refl)
step-style (Grows g) m c f bytes n = refl
step-style Closes m c f bytes n = refl

not-open : (f : Form) (bytes : List ℕ) → Open f bytes ≡ Closed → ⊥
not-open f bytes e = cc

pub record Shown (g : Scan) (bs : List ℕ) (s : Parts) : Type 0 where
  pub place : Place
  pub is : scan_shown g bs ≡ Some place
  pub opened : beginning_at place ≡ s.opened

pub shown-closed : (g : Scan) (bs : List ℕ) (s : Parts) → scan_parts g ≡ Some s → scan_reference g ≡ Closed → NonePending g bs → Shown g bs s
shown-closed (At (place.Value v)) bs s h k p = record { place = place.Value v; is = refl; opened = body-opened v.body s h }
shown-closed (InUrl v t Closed) bs s h k p = record {
  place = with_body v (parts_with v.body []);
  is = refl;
  opened = body-opened (parts_with v.body []) s (ap body_parts (nothing-fed v.body) ∙ h);
}
shown-closed (InUrl v t (Open f bytes)) bs s h k p = absurd (not-open f bytes k)
shown-closed (InStyle v n Closed) bs s h k p = record { place = with_style v n; is = refl; opened = scan-opened n s h }
shown-closed (InStyle v n (Open f bytes)) bs s h k p = absurd (not-open f bytes k)
shown-closed (At (place.Style c)) bs s h k p = record { place = place.Style c; is = refl; opened = css-opened c s h }
shown-closed (InStyleElement n x) bs s h k p = record {
  place = place.Style (style_scan_place (feed_bytes style_feeding n (pending_bytes (pending_left element.Style x bs))));
  is = refl;
  opened = ap (λ (y : Pending). beginning_in_css (style_scan_place (feed_bytes style_feeding n (pending_bytes y)))) p ∙ scan-opened n s h;
}
shown-closed (At _) bs s h k p = absurd (none_some s h)
shown-closed _ bs s h k p = absurd (none_some s h)

pub shown-read : (g : Scan) (b : ℕ) (bs : List ℕ) (s : Parts) → scan_parts g ≡ Some s → NotBroken (scan_reference g) b → NonePending g (b ∷ bs)
    → Shown g (b ∷ bs) s
shown-read (InUrl v t (Open f bytes)) b bs s h n p = record {
  place = with_body v (parts_before (turn (class_of b) f) v.body (class_of b) f bytes);
  is = refl;
  opened = body-opened (parts_before (turn (class_of b) f) v.body (class_of b) f bytes) s
      (ap body_parts (step-body (turn (class_of b) f) v.body (class_of b) f bytes n) ∙ h);
}
shown-read (InUrl v t Closed) b bs s h n p = shown-closed (InUrl v t Closed) (b ∷ bs) s h refl p
shown-read (InStyle v m (Open f bytes)) b bs s h n p = record {
  place = with_style v (style_before (turn (class_of b) f) m (class_of b) f bytes);
  is = refl;
  opened = ap (λ (x : StyleScan). beginning_in_css (style_scan_place x)) (step-style (turn (class_of b) f) m (class_of b) f bytes n)
      ∙ scan-opened m s h;
}
shown-read (InStyle v m Closed) b bs s h n p = shown-closed (InStyle v m Closed) (b ∷ bs) s h refl p
shown-read (At q) b bs s h n p = shown-closed (At q) (b ∷ bs) s h refl p
shown-read (InStyleElement m x) b bs s h n p = shown-closed (InStyleElement m x) (b ∷ bs) s h refl p
shown-read _ b bs s h n p = absurd (none_some s h)

-- It is the path's own where it is shown: no reference is open at the end of a text.
abbrev pub IsReadShown : Reference → List ℕ → Type 0
IsReadShown Closed bs = Unit {0}
IsReadShown (Open f bytes) [] = ⊥
IsReadShown (Open f bytes) (b ∷ bs) = Unit {0}

pub byte-shown : (r : Reference) (b : ℕ) (bs : List ℕ) → IsReadShown r (b ∷ bs)
byte-shown Closed b bs = tt
byte-shown (Open f bytes) b bs = tt

pub read-shown : (g : Scan) (bs : List ℕ) → scan_reference (scan_read g bs) ≡ Closed → IsReadShown (scan_reference g) bs
read-shown (InUrl v t Closed) bs h = tt
read-shown (InUrl v t (Open f bytes)) [] h = absurd (not-open f bytes h)
read-shown (InUrl v t (Open f bytes)) (b ∷ bs) h = tt
read-shown (InStyle v n Closed) bs h = tt
read-shown (InStyle v n (Open f bytes)) [] h = absurd (not-open f bytes h)
read-shown (InStyle v n (Open f bytes)) (b ∷ bs) h = tt
read-shown g bs h = tt

-- a URL is shown whatever is refused of it
url-shown-closed : (t : Tag) (q : Quotes) (a : Parts) (x : Triple) (bs : List ℕ)
    → Some (place.Value (url_value t q a)) ≡ scan_shown (url_scan (url_value t q a) x Closed) bs
url-shown-closed t q a NoTriple bs = refl
url-shown-closed t q a AfterPercent bs = refl
url-shown-closed t q a AfterDigit bs = refl

url-shown-turned : (z : ReferenceStep) (t : Tag) (q : Quotes) (a : Parts) (x : Triple) (f : Form) (bytes bs : List ℕ) (b : ℕ)
    → turn (class_of b) f ≡ z → Some (with_body (url_value t q a) (parts_before z (body.Url a) (class_of b) f bytes))
    ≡ scan_shown (read_turn z (url_value t q a) x f bytes (class_of b)) (b ∷ bs)
url-shown-turned Breaks t q a x f bytes bs b k =
    let xs = flushed true (is_equals_sign (class_of b)) f bytes in
    url-shown-closed t q (feed_bytes parts_feeding a xs) (triple_behind x xs) (b ∷ bs)
url-shown-turned (Grows g) t q a x f bytes bs b k =
    ap (λ (y : ReferenceStep). Some (with_body (url_value t q a) (parts_before y (body.Url a) (class_of b) f bytes))) (sym k)
url-shown-turned Closes t q a x f bytes bs b k =
    ap (λ (y : ReferenceStep). Some (with_body (url_value t q a) (parts_before y (body.Url a) (class_of b) f bytes))) (sym k)

own-url : (q : Quoting) (t : Tag) (u : Url) (r : Reference) (bs : List ℕ)
    → place_before_bytes (AttributeValue q t (ValueOf (OfUrl u)) r) bs ≡ scan_shown (scan_read (url_scanned q t u r) bs) bs
own-url q t u Closed bs =
    url-shown q t u u.triple Closed bs
    ∙ ap (λ (g : Scan). scan_shown g bs) (sym (url-closed (url_value t (quotes_at q) (parts_of u.part)) u.triple bs))
own-url q t u (Open f bytes) [] =
    url-shown q t u u.triple (Open f bytes) []
    ∙ ap (λ (g : Scan). scan_shown g []) (sym (url-end (url_value t (quotes_at q) (parts_of u.part)) u.triple (Open f bytes)))
own-url q t u (Open f bytes) (b ∷ bs) =
    let e = url-open (url_value t (quotes_at q) (parts_of u.part)) u.triple f bytes in
    url-shown q t u u.triple (Open f bytes) (b ∷ bs)
    ∙ ap (λ (g : Scan). scan_shown g (b ∷ bs)) e
    ∙ url-shown-turned (turn (class_of b) f) t (quotes_at q) (parts_of u.part) u.triple f bytes bs b refl
    ∙ ap (λ (g : Scan). scan_shown (scan_read g (b ∷ bs)) (b ∷ bs)) (sym e)

style-shown-turned : (z : ReferenceStep) (q : Quoting) (t : Tag) (n : StyleScan) (f : Form) (bytes bs : List ℕ) (b : ℕ) → turn (class_of b) f ≡ z
    → Some (at_style t q (style_before z n (class_of b) f bytes))
    ≡ scan_shown (read_style z (style_value t (quotes_at q)) n f bytes (class_of b)) (b ∷ bs)
style-shown-turned Breaks q t n f bytes bs b k =
    let behind = feed_bytes style_feeding n (flushed true (is_equals_sign (class_of b)) f bytes) in
    sym (style-scan-shown (style_value t (quotes_at q)) behind Closed (b ∷ bs))
style-shown-turned (Grows g) q t n f bytes bs b k = ap (λ (y : ReferenceStep). Some (at_style t q (style_before y n (class_of b) f bytes))) (sym k)
style-shown-turned Closes q t n f bytes bs b k = ap (λ (y : ReferenceStep). Some (at_style t q (style_before y n (class_of b) f bytes))) (sym k)

style-shown-closed : (w : ValuePlace) (n : StyleScan) (bs : List ℕ) (x : Bool) → IsShown (if x then At (with_style w n) else InStyle w n Closed) bs
style-shown-closed w n bs true = inl refl
style-shown-closed w n bs false = inl refl

own-style : (q : Quoting) (t : Tag) (v : Style Url) (n : StyleScan) (r : Reference) (bs : List ℕ) → IsStyleScan v n
    → ReadTaken (style_scan (style_value t (quotes_at q)) n r) bs → IsReadShown r bs
    → place_before_bytes (AttributeValue q t (ValueOf (OfStyle v)) r) bs ≡ scan_shown (scan_read (style_scan (style_value t (quotes_at q)) n r) bs) bs
own-style q t v n Closed bs i k h =
    let w = style_value t (quotes_at q) in
    (style-ends q t v n Closed i).shown bs (style-shown-closed w n bs (is_style_start n)) ∙ ap (λ (g : Scan). scan_shown g bs) (sym (style-closed w n bs))
own-style q t v n (Open f bytes) [] i k h = absurd h
own-style q t v n (Open f bytes) (b ∷ bs) i k h =
    style-turned (turn (class_of b) f) q t v n (class_of b) f bytes i k ∙ style-shown-turned (turn (class_of b) f) q t n f bytes bs b refl

none-shown : (g : Scan) (bs : List ℕ) → IsNoScriptScan g → scan_reference g ≡ Closed → NonePending g bs → IsShown g bs
none-shown (InStyleElement n x) bs i e p = ap (λ (y : Pending). pending_error style_feeding n (pending_bytes y)) p
none-shown (InScript v n r) bs i e p = absurd i
none-shown (InScriptElement n x) bs i e p = absurd i
none-shown g bs i e p = inl e

no-script-by : (x : Bool) (n : StyleScan) → IsNoScriptScan (if x then At (place.Style (style_scan_place n)) else InStyleElement n Nothing)
no-script-by true n = tt
no-script-by false n = tt

element-no-script-at : (x : Pending) (n : StyleScan) → IsNoScriptScan (element_at x n)
element-no-script-at Nothing n = no-script-by (is_style_start n) n
element-no-script-at PendingLess n = tt
element-no-script-at LessAtCut n = tt
element-no-script-at (PendingName letters) n = tt
element-no-script-at PendingBang n = tt
element-no-script-at PendingBangDash n = tt
element-no-script-at (PendingOpening letters) n = tt

element-no-script : (e : Element) (v : Style Url) (x : Pending) (g : Scan) → scanned (InContent e (InLanguage (OfStyle v)) x) ≡ Some g → IsNoScriptScan g
element-no-script e v x g h =
    let o = element-of e v x g h in
    subst IsNoScriptScan (element-form x o.scan g o.at).same (element-no-script-at x o.scan)

pub own-place : (s : LexState ValueState) (g : Scan) (bs : List ℕ) → UrlState s → scanned s ≡ Some g → ReadTaken g bs
    → IsReadShown (scan_reference g) bs → NonePending g bs → place_before_bytes s bs ≡ scan_shown (scan_read g bs) bs
own-place s g bs (url_state q t u r i) e k h p =
    ap (λ (x : LexState ValueState). place_before_bytes x bs) i
    ∙ own-url q t u r bs
    ∙ ap (λ (x : Scan). scan_shown (scan_read x bs) bs) (one_value (url_scanned q t u r) g (sym (ap scanned i) ∙ e))
own-place s g bs (style_state q t v r i) e k h p =
    let o = style-of q t v r g (sym (ap scanned i) ∙ e) in
    let w = style_value t (quotes_at q) in
    let held : scan_reference g ≡ r = sym (ap scan_reference o.at) ∙ style-scan-reference w o.scan r in
    ap (λ (x : LexState ValueState). place_before_bytes x bs) i
    ∙ own-style q t v o.scan r bs o.is (subst (λ (x : Scan). ReadTaken x bs) (sym o.at) k) (subst (λ (x : Reference). IsReadShown x bs) held h)
    ∙ ap (λ (x : Scan). scan_shown (scan_read x bs) bs) o.at
own-place s g bs (element_state y v x i) e k h p =
    let there = sym (ap scanned i) ∙ e in
    ap (λ (z : LexState ValueState). place_before_bytes z bs) i
    ∙ (ends-at (InContent y (InLanguage (OfStyle v)) x) g there).shown bs (none-shown g bs (element-no-script y v x g there) (element-closed y v x g there) p)
    ∙ ap (λ (z : Scan). scan_shown z bs) (sym (read-closed g bs (element-closed y v x g there)))

-- what its reference has not is not in the reference of its scan state
-- and what is pending back in the element is a beginning of its name
element-name : (x : Pending) (n : StyleScan) (g : Scan) → element_scanned x n ≡ Some g → ScanValid g → IsPendingName x
element-name Nothing n g h w = tt
element-name PendingLess n g h w = tt
element-name (PendingName letters) n g h w = (subst ScanValid (sym (one_value (InStyleElement n (PendingName letters)) g h)) w).1
element-name LessAtCut n g h w = tt
element-name PendingBang n g h w = tt
element-name PendingBangDash n g h w = tt
element-name (PendingOpening letters) n g h w = absurd (none_some g h)

pub opens-of : (s : LexState ValueState) (g : Scan) → UrlState s → scanned s ≡ Some g → ScanValid g → ReferenceOpensNone (scan_reference g) → OpensNone s
opens-of s g (url_state q t u r i) e w h =
    let same : url_scanned q t u r ≡ g = one_value (url_scanned q t u r) g (sym (ap scanned i) ∙ e) in
    let held : scan_reference g ≡ r = sym (ap scan_reference same) ∙ url-reference (url_value t (quotes_at q) (parts_of u.part)) u.triple r in
    subst OpensNone (sym i) (subst ReferenceOpensNone held h)
opens-of s g (style_state q t v r i) e w h =
    let o = style-of q t v r g (sym (ap scanned i) ∙ e) in
    let held : scan_reference g ≡ r = sym (ap scan_reference o.at) ∙ style-scan-reference (style_value t (quotes_at q)) o.scan r in
    subst OpensNone (sym i) (subst ReferenceOpensNone held h)
opens-of s g (element_state y v x i) e w h =
    let o = element-of y v x g (sym (ap scanned i) ∙ e) in
    subst OpensNone (sym i) (pending-no-opening x (element-name x o.scan g o.at w))

-- The path of which it is not known what it spells: below a scan state in which paths have spelled different things.
pub record Unknown (s : LexState ValueState) (f : Scan) : Type 0 where
  pub scan : Scan
  pub at : scanned (unknown_beginning s) ≡ Some scan
  pub valid : ScanValid scan
  pub below : ScanBelow scan f
  pub apart : is_apart (scan_parts scan) ≡ true

unknown-apart : (x : UrlPart) → is_open x ≡ true → is_apart (Some (parts_of (unknown_part x))) ≡ true
unknown-apart (UrlOpen p) h = refl
unknown-apart UrlStart h = absurd (no h)
unknown-apart UrlOpenhole h = absurd (no h)
unknown-apart UrlPrequery h = absurd (no h)
unknown-apart UrlQuery h = absurd (no h)
unknown-apart UrlBad h = absurd (no h)

pub unknown-valid : (x : UrlPart) → is_open x ≡ true → IsValidParts (parts_of (unknown_part x))
unknown-valid (UrlOpen p) h = (refl, tt)
unknown-valid UrlStart h = absurd (no h)
unknown-valid UrlOpenhole h = absurd (no h)
unknown-valid UrlPrequery h = absurd (no h)
unknown-valid UrlQuery h = absurd (no h)
unknown-valid UrlBad h = absurd (no h)

pub begun-at : (q : Quoting) → HasBegun (quotes_at q)
begun-at DoubleQuoted = tt
begun-at SingleQuoted = tt
begun-at Unquoted = (refl, refl)

above-url : (a s : Parts) (x : Body) → InBody x s → joined_bodies (body.Url a) x ≡ Some x → x ≡ body.Url s
above-url a s x (in_url e) h = e
above-url a s x (in_style c e i) h = absurd (none_some (body.Css c) (subst (λ (y : Body). joined_bodies (body.Url a) y ≡ Some y) e h))

value-as : (t : Tag) (q : Quotes) (a d s : Parts) (w : ValuePlace) → InBody w.body s → PartsBelow d s → ValueBelow (url_value t q a) w
    → ValueBelow (url_value t q d) w
value-as t q a d s w e p l = record {
  tag = l.tag;
  typed = l.typed;
  quotes = l.quotes;
  body = subst (λ (x : Body). joined_bodies (body.Url d) x ≡ Some x) (sym (above-url a s w.body e l.body)) (ap (λ (z : Parts). Some (body.Url z)) p);
}

pub at-as : (t : Tag) (q : Quotes) (a d s : Parts) (f : Scan) → scan_parts f ≡ Some s → PartsBelow d s → ScanBelow (At (place.Value (url_value t q a))) f
    → ScanBelow (At (place.Value (url_value t q d))) f
at-as t q a d s (At (place.Value w)) h p l =
    value-below (url_value t q d) w (value-as t q a d s w (parts-body w.body s h) p (below-value (url_value t q a) w l))
at-as t q a d s (At (place.Style c)) h p l = absurd (none_some (place.Style c) l)
at-as t q a d s (InStyleElement m k) h p l = absurd l
at-as t q a d s (At _) h p l = absurd (none_some s h)
at-as t q a d s (InUrl w y z) h p l = absurd l
at-as t q a d s (InStyle w y z) h p l = absurd l
at-as t q a d s _ h p l = absurd (none_some s h)

in-as : (t : Tag) (q : Quotes) (a d s : Parts) (x : Triple) (r : Reference) (f : Scan) → scan_parts f ≡ Some s → PartsBelow d s
    → ScanBelow (InUrl (url_value t q a) x r) f → ScanBelow (InUrl (url_value t q d) x r) f
in-as t q a d s x r (InUrl w y z) h p l = (value-as t q a d s w (parts-body w.body s h) p l.0, l.1, l.2)
in-as t q a d s x r (At y) h p l = absurd l
in-as t q a d s x r (InStyleElement m k) h p l = absurd l
in-as t q a d s x r (InStyle w y z) h p l = absurd l
in-as t q a d s x r _ h p l = absurd (none_some s h)

below-as : (t : Tag) (q : Quotes) (a d s : Parts) (x : Triple) (r : Reference) (f : Scan) → scan_parts f ≡ Some s → PartsBelow d s
    → ScanBelow (url_scan (url_value t q a) x r) f → ScanBelow (url_scan (url_value t q d) x r) f
below-as t q a d s NoTriple Closed f h p l = at-as t q a d s f h p l
below-as t q a d s NoTriple (Open y bytes) f h p l = in-as t q a d s NoTriple (Open y bytes) f h p l
below-as t q a d s AfterPercent r f h p l = in-as t q a d s AfterPercent r f h p l
below-as t q a d s AfterDigit r f h p l = in-as t q a d s AfterDigit r f h p l

-- likewise in a style, with another set of parts
abbrev pub with_set : StyleScan → Parts → StyleScan
with_set (ScanBareUrl s t) d = ScanBareUrl d t
with_set (ScanQuotedUrl q e s t) d = ScanQuotedUrl q e d t
with_set n d = n

pub set-parts : (n : StyleScan) (s d : Parts) → style_scan_parts n ≡ Some s → style_scan_parts (with_set n d) ≡ Some d
set-parts (ScanBareUrl r t) s d h = refl
set-parts (ScanQuotedUrl q e r t) s d h = refl
set-parts _ s d h = absurd (none_some s h)

pub set-over : (n m : StyleScan) (d s : Parts) → SameUrl n m → style_scan_parts m ≡ Some s → PartsBelow d s → StyleScanBelow (with_set n d) m
set-over _ _ d s (same_bare a r t) h p = below_bare d r t (subst (PartsBelow d) (sym (one_value r s h)) p)
set-over _ _ d s (same_quoted q e a r t) h p = below_quoted q e d r t (subst (PartsBelow d) (sym (one_value r s h)) p)

quoted-valid : (q : Quote) (s : Parts) → IsValidParts s → IsValidCss (style_quoted_place q s)
quoted-valid DoubleQuote s v = v
quoted-valid SingleQuote s v = v

pub set-valid : (n : StyleScan) (s d : Parts) → style_scan_parts n ≡ Some s → IsValidParts d → IsValidCss (style_scan_place (with_set n d))
set-valid (ScanBareUrl r t) s d h v = v
set-valid (ScanQuotedUrl q e r t) s d h v = quoted-valid q d v
set-valid _ s d h v = absurd (none_some s h)

bare-start : (s d : Parts) (t : Triple) → is_style_start (ScanBareUrl s t) ≡ is_style_start (ScanBareUrl d t)
bare-start s d NoTriple = refl
bare-start s d AfterPercent = refl
bare-start s d AfterDigit = refl

quoted-start : (q : Quote) (e : StyleEscape) (s d : Parts) (t : Triple)
    → is_style_start (ScanQuotedUrl q e s t) ≡ is_style_start (ScanQuotedUrl q e d t)
quoted-start q NoEscape s d NoTriple = refl
quoted-start q NoEscape s d AfterPercent = refl
quoted-start q NoEscape s d AfterDigit = refl
quoted-start q AfterBackslash s d t = refl
quoted-start q (HexDigits k) s d t = refl
quoted-start q AfterReturn s d t = refl

set-start : (n : StyleScan) (d : Parts) → is_style_start n ≡ is_style_start (with_set n d)
set-start (ScanBareUrl s t) d = bare-start s d t
set-start (ScanQuotedUrl q e s t) d = quoted-start q e s d t
set-start _ d = refl

css-above : (c : Css) (x : Body) → joined_bodies (body.Css c) x ≡ Some x → (d : Css) × (x ≡ body.Css d)
css-above c (body.Css d) h = (d, refl)
css-above c body.Plain h = absurd (none_some body.Plain h)
css-above c body.NoHole h = absurd (none_some body.NoHole h)
css-above c (body.Js j) h = absurd (none_some (body.Js j) h)
css-above c (body.Url s) h = absurd (none_some (body.Url s) h)

abbrev styled_value : ValuePlace → StyleScan → ValuePlace
styled_value v n = record { tag = v.tag; typed = v.typed; quotes = v.quotes; body = body.Css (style_scan_place n) }

value-style-as : (v w : ValuePlace) (n : StyleScan) (a d s : Parts) → is_style_start n ≡ true → style_scan_parts n ≡ Some a
    → body_parts w.body ≡ Some s → PartsBelow d s → ValueBelow (styled_value v n) w → ValueBelow (styled_value v (with_set n d)) w
value-style-as v w n a d s g i h p l =
    let c = css-above (style_scan_place n) w.body l.body in
    let m = style_scan_start c.0 in
    let low = subst (λ (k : StyleScan). StyleScanBelow k m) (scan-of-start n g)
    (starts-in-order (style_scan_place n) c.0 (subst (λ (x : Body). joined_bodies (body.Css (style_scan_place n)) x ≡ Some x) c.1 l.body)) in
    let over = set-over n m d s (above-in-url n m a low i).2.same (sym (ap body_parts c.1) ∙ h) p in
    record {
      tag = l.tag;
      typed = l.typed;
      quotes = l.quotes;
      body = subst (λ (x : Body). joined_bodies (body.Css (style_scan_place (with_set n d))) x ≡ Some x) (sym c.1)
          (below-css (style_scan_place (with_set n d)) c.0 (scan-below-start (with_set n d) c.0 over).1);
    }

pub at-style-as : (v : ValuePlace) (n : StyleScan) (a d s : Parts) (f : Scan) → is_style_start n ≡ true → style_scan_parts n ≡ Some a
    → scan_parts f ≡ Some s → PartsBelow d s → ScanBelow (At (with_style v n)) f → ScanBelow (At (with_style v (with_set n d))) f
at-style-as v n a d s (At (place.Value w)) g i h p l =
    value-below (styled_value v (with_set n d)) w (value-style-as v w n a d s g i h p (below-value (styled_value v n) w l))
at-style-as v n a d s (At (place.Style c)) g i h p l = absurd (none_some (place.Style c) l)
at-style-as v n a d s (InStyleElement m k) g i h p l = absurd l
at-style-as v n a d s (At _) g i h p l = absurd (none_some s h)
at-style-as v n a d s (InUrl w y z) g i h p l = absurd l
at-style-as v n a d s (InStyle w m z) g i h p l = absurd l
at-style-as v n a d s _ g i h p l = absurd (none_some s h)

under-as : (v : ValuePlace) (n : StyleScan) (a d s : Parts) (w : ValuePlace) → style_scan_parts n ≡ Some a → body_parts w.body ≡ Some s
    → PartsBelow d s → StyleUnderBody v n w w.body → StyleUnderBody v (with_set n d) w w.body
under-as v n a d s w i h p l =
    let c = under-body v n w w.body l in
    let m = style_scan_start c.0 in
    subst (StyleUnderBody v (with_set n d) w) (sym c.1)
    (record {
      tag = c.2.tag;
      typed = c.2.typed;
      quotes = c.2.quotes;
      scan = set-over n m d s (above-in-url n m a c.2.scan i).2.same (sym (ap body_parts c.1) ∙ h) p;
    })

in-style-as : (v : ValuePlace) (n : StyleScan) (a d s : Parts) (r : Reference) (f : Scan) → style_scan_parts n ≡ Some a → scan_parts f ≡ Some s
    → PartsBelow d s → ScanBelow (InStyle v n r) f → ScanBelow (InStyle v (with_set n d) r) f
in-style-as v n a d s r (InStyle w m z) i h p l = (
  record {
    tag = l.0.tag;
    typed = l.0.typed;
    quotes = l.0.quotes;
    scan = set-over n m d s (above-in-url n m a l.0.scan i).2.same h p;
  },
  l.1,
)
in-style-as v n a d s r (At (place.Value w)) i h p l = (under-as v n a d s w i h p l.0, l.1)
in-style-as v n a d s r (At (place.Style c)) i h p l = absurd l.0
in-style-as v n a d s r (At _) i h p l = absurd (none_some s h)
in-style-as v n a d s r _ i h p l = absurd l

abbrev if_style : ValuePlace → StyleScan → Bool → Scan
if_style v n x = if x then At (with_style v n) else InStyle v n Closed

style-as-by : (x : Bool) (v : ValuePlace) (n : StyleScan) (a d s : Parts) (f : Scan) → is_style_start n ≡ x → style_scan_parts n ≡ Some a
    → scan_parts f ≡ Some s → PartsBelow d s → ScanBelow (if_style v n x) f → ScanBelow (if_style v (with_set n d) x) f
style-as-by true v n a d s f g i h p l = at-style-as v n a d s f g i h p l
style-as-by false v n a d s f g i h p l = in-style-as v n a d s Closed f i h p l

style-below-as : (v : ValuePlace) (n : StyleScan) (a d s : Parts) (r : Reference) (f : Scan) → style_scan_parts n ≡ Some a → scan_parts f ≡ Some s
    → PartsBelow d s → ScanBelow (style_scan v n r) f → ScanBelow (style_scan v (with_set n d) r) f
style-below-as v n a d s Closed f i h p l =
    subst (λ (x : Bool). ScanBelow (if_style v (with_set n d) x) f) (set-start n d) (style-as-by (is_style_start n) v n a d s f refl i h p l)
style-below-as v n a d s (Open y bytes) f i h p l = in-style-as v n a d s (Open y bytes) f i h p l

-- in the element
pub element-place-as : (n : StyleScan) (a d s : Parts) (f : Scan) → is_style_start n ≡ true → style_scan_parts n ≡ Some a
    → scan_parts f ≡ Some s → PartsBelow d s → ScanBelow (At (place.Style (style_scan_place n))) f
    → ScanBelow (At (place.Style (style_scan_place (with_set n d)))) f
element-place-as n a d s (At (place.Style c)) g i h p l =
    let low = subst (λ (k : StyleScan). StyleScanBelow k (style_scan_start c)) (scan-of-start n g) (elements-in-order (style_scan_place n) c l) in
    let over = set-over n (style_scan_start c) d s (above-in-url n (style_scan_start c) a low i).2.same h p in
    style-place-below (style_scan_place (with_set n d)) c (scan-below-start (with_set n d) c over).1
element-place-as n a d s (At x) g i h p l = absurd (none_some x l)
element-place-as n a d s _ g i h p l = absurd l

in-element-as : (x : Pending) (n : StyleScan) (a d s : Parts) (f : Scan) → style_scan_parts n ≡ Some a
    → scan_parts f ≡ Some s → PartsBelow d s → ScanBelow (InStyleElement n x) f → ScanBelow (InStyleElement (with_set n d) x) f
in-element-as x n a d s f i h p l =
    under-element (λ g. scan_parts g ≡ Some s → ScanBelow (InStyleElement (with_set n d) x) g) n x f l
    (λ m k e. (set-over n m d s (above-in-url n m a k i).2.same e p, refl))
    (λ c j k e. (set-over n (style_scan_start c) d s (above-in-url n (style_scan_start c) a k i).2.same e p, j)) h

abbrev if_element : StyleScan → Bool → Scan
if_element n y = if y then At (place.Style (style_scan_place n)) else InStyleElement n Nothing

element-as-by : (y : Bool) (n : StyleScan) (a d s : Parts) (f : Scan) → is_style_start n ≡ y → style_scan_parts n ≡ Some a
    → scan_parts f ≡ Some s → PartsBelow d s → ScanBelow (if_element n y) f → ScanBelow (if_element (with_set n d) y) f
element-as-by true n a d s f g i h p l = element-place-as n a d s f g i h p l
element-as-by false n a d s f g i h p l = in-element-as Nothing n a d s f i h p l

element-below-as : (x : Pending) (n : StyleScan) (a d s : Parts) (f : Scan) → style_scan_parts n ≡ Some a
    → scan_parts f ≡ Some s → PartsBelow d s → ScanBelow (element_at x n) f → ScanBelow (element_at x (with_set n d)) f
element-below-as Nothing n a d s f i h p l =
    subst (λ (y : Bool). ScanBelow (if_element (with_set n d) y) f) (set-start n d) (element-as-by (is_style_start n) n a d s f refl i h p l)
element-below-as PendingLess n a d s f i h p l = in-element-as PendingLess n a d s f i h p l
element-below-as LessAtCut n a d s f i h p l = in-element-as LessAtCut n a d s f i h p l
element-below-as (PendingName letters) n a d s f i h p l = in-element-as (PendingName letters) n a d s f i h p l
element-below-as PendingBang n a d s f i h p l = in-element-as PendingBang n a d s f i h p l
element-below-as PendingBangDash n a d s f i h p l = in-element-as PendingBangDash n a d s f i h p l
element-below-as (PendingOpening letters) n a d s f i h p l = in-element-as (PendingOpening letters) n a d s f i h p l

element-valid-by : (y : Bool) (n : StyleScan) → IsValidCss (style_scan_place n) → ScanValid (if_element n y)
element-valid-by true n v = v
element-valid-by false n v = (v, tt)

element-at-valid : (x : Pending) (n : StyleScan) → IsValidCss (style_scan_place n) → IsPendingName x → ScanValid (element_at x n)
element-at-valid Nothing n v w = element-valid-by (is_style_start n) n v
element-at-valid PendingLess n v w = (v, w)
element-at-valid LessAtCut n v w = (v, w)
element-at-valid (PendingName letters) n v w = (v, w)
element-at-valid PendingBang n v w = (v, w)
element-at-valid PendingBangDash n v w = (v, w)
element-at-valid (PendingOpening letters) n v w = (v, w)

record UnknownElement (x : Pending) (m : StyleScan) (f : Scan) : Type 0 where
  at : element_scanned x m ≡ Some (element_at x m)
  valid : ScanValid (element_at x m)
  below : ScanBelow (element_at x m) f
  apart : is_apart (scan_parts (element_at x m)) ≡ true

unknown-element : (x : Pending) (n : StyleScan) (u : UrlPart) (g f : Scan) (p : Parts) → style_scan_parts n ≡ Some (parts_of u) → is_open u ≡ true
    → element_scanned x n ≡ Some g → ScanValid g → scan_parts f ≡ Some p → is_apart (Some p) ≡ true → ScanBelow g f
    → UnknownElement x (with_set n (parts_of (unknown_part u))) f
unknown-element x n u g f p i o e w h a l =
    let d = parts_of (unknown_part u) in
    let form = element-form x n g e in
    record {
      at = form.other (with_set n d);
      valid = element-at-valid x (with_set n d) (set-valid n (parts_of u) d i (unknown-valid u o)) (element-name x n g e w);
      below = element-below-as x n (parts_of u) d p f i h (unknown-below u p o a) (subst (λ (z : Scan). ScanBelow z f) (sym form.same) l);
      apart = ap is_apart (element-at-parts x (with_set n d) ∙ set-parts n (parts_of u) d i) ∙ unknown-apart u o;
    }

unknown-style-valid : (q : Quoting) (t : Tag) (n : StyleScan) (x : UrlPart) (r : Reference) (a : Parts) → style_scan_parts n ≡ Some a
    → is_open x ≡ true → ScanValid (style_scan (style_value t (quotes_at q)) (with_set n (parts_of (unknown_part x))) r)
unknown-style-valid q t n x r a i o =
    let d = parts_of (unknown_part x) in
    style-valid (style_value t (quotes_at q)) (with_set n d) r (begun-at q) refl (set-valid n a d i (unknown-valid x o))

unknown-style-apart : (v : ValuePlace) (n : StyleScan) (a : Parts) (x : UrlPart) (r : Reference) → style_scan_parts n ≡ Some a → is_open x ≡ true
    → is_apart (scan_parts (style_scan v (with_set n (parts_of (unknown_part x))) r)) ≡ true
unknown-style-apart v n a x r i o =
    let d = parts_of (unknown_part x) in
    ap is_apart (style-parts v (with_set n d) r ∙ set-parts n a d i) ∙ unknown-apart x o

unknown-url : (q : Quoting) (t : Tag) (u : Url) (r : Reference) (f : Scan) (s : Parts) → is_open u.part ≡ true → scan_parts f ≡ Some s
    → is_apart (Some s) ≡ true → ScanBelow (url_scanned q t u r) f → Unknown (AttributeValue q t (ValueOf (OfUrl u)) r) f
unknown-url q t u r f s o h a l =
    let x = parts_of (unknown_part u.part) in
    record {
      scan = url_scan (url_value t (quotes_at q) x) u.triple r;
      at = refl;
      valid = url-valid (url_value t (quotes_at q) x) u.triple r (begun-at q) (unknown-valid u.part o);
      below = below-as t (quotes_at q) (parts_of u.part) x s u.triple r f h (unknown-below u.part s o a) l;
      apart = ap is_apart (url-parts (url_value t (quotes_at q) x) u.triple r) ∙ unknown-apart u.part o;
    }

pub unknown : (s : LexState ValueState) (g f : Scan) (p : Parts) → is_in_beginning s ≡ true → scanned s ≡ Some g → ScanValid g → scan_parts f ≡ Some p
    → is_apart (Some p) ≡ true → ScanBelow g f → Unknown s f
unknown (AttributeValue q t (ValueOf (OfUrl u)) r) g f p o e w h a l =
    let same : url_scanned q t u r ≡ g = one_value (url_scanned q t u r) g e in
    unknown-url q t u r f p o h a (subst (λ (x : Scan). ScanBelow x f) (sym same) l)
unknown (AttributeValue q t (ValueOf (OfKind k)) r) g f p o e w h a l = absurd (no o)
unknown (AttributeValue q t (ValueOf (OfScript v)) r) g f p o e w h a l = absurd (no o)
unknown (AttributeValue q t (ValueOf (OfStyle (style.InUrl Bare u))) r) g f p o e w h a l =
    let n = ScanBareUrl (parts_of u.part) u.triple in
    let same : style_scan (style_value t (quotes_at q)) n r ≡ g = one_value (style_scan (style_value t (quotes_at q)) n r) g e in
    record {
      scan = style_scan (style_value t (quotes_at q)) (ScanBareUrl (parts_of (unknown_part u.part)) u.triple) r;
      at = refl;
      valid = unknown-style-valid q t n u.part r (parts_of u.part) refl o;
      below = style-below-as (style_value t (quotes_at q)) n (parts_of u.part) (parts_of (unknown_part u.part)) p r f refl h
          (unknown-below u.part p o a) (subst (λ (x : Scan). ScanBelow x f) (sym same) l);
      apart = unknown-style-apart (style_value t (quotes_at q)) n (parts_of u.part) u.part r refl o;
    }
unknown (AttributeValue q t (ValueOf (OfStyle (style.InUrl (Quoted y z) u))) r) g f p o e w h a l =
    let n = ScanQuotedUrl y z (parts_of u.part) u.triple in
    let same : style_scan (style_value t (quotes_at q)) n r ≡ g = one_value (style_scan (style_value t (quotes_at q)) n r) g e in
    record {
      scan = style_scan (style_value t (quotes_at q)) (ScanQuotedUrl y z (parts_of (unknown_part u.part)) u.triple) r;
      at = refl;
      valid = unknown-style-valid q t n u.part r (parts_of u.part) refl o;
      below = style-below-as (style_value t (quotes_at q)) n (parts_of u.part) (parts_of (unknown_part u.part)) p r f refl h
          (unknown-below u.part p o a) (subst (λ (x : Scan). ScanBelow x f) (sym same) l);
      apart = unknown-style-apart (style_value t (quotes_at q)) n (parts_of u.part) u.part r refl o;
    }
unknown (AttributeValue q t (ValueOf (OfStyle (style.InUrl Fresh u))) r) g f p o e w h a l = absurd (no o)
unknown (AttributeValue q t (ValueOf (OfStyle (style.InUrl Ended u))) r) g f p o e w h a l = absurd (no o)
unknown (AttributeValue q t (ValueOf (OfStyle (Out v))) r) g f p o e w h a l = absurd (no o)
unknown (AttributeValue q t (Deciding k before) r) g f p o e w h a l = absurd (no o)
unknown (InContent element.Style (InLanguage (OfStyle (style.InUrl Bare u))) x) g f p o e w h a l =
    let k = unknown-element x (ScanBareUrl (parts_of u.part) u.triple) u.part g f p refl o e w h a l in
    record {
      scan = element_at x (ScanBareUrl (parts_of (unknown_part u.part)) u.triple);
      at = k.at;
      valid = k.valid;
      below = k.below;
      apart = k.apart;
    }
unknown (InContent element.Style (InLanguage (OfStyle (style.InUrl (Quoted y z) u))) x) g f p o e w h a l =
    let k = unknown-element x (ScanQuotedUrl y z (parts_of u.part) u.triple) u.part g f p refl o e w h a l in
    record {
      scan = element_at x (ScanQuotedUrl y z (parts_of (unknown_part u.part)) u.triple);
      at = k.at;
      valid = k.valid;
      below = k.below;
      apart = k.apart;
    }
unknown (InContent element.Style (InLanguage (OfStyle (style.InUrl Fresh u))) x) g f p o e w h a l = absurd (no o)
unknown (InContent element.Style (InLanguage (OfStyle (style.InUrl Ended u))) x) g f p o e w h a l = absurd (no o)
unknown (InContent element.Style (InLanguage (OfStyle (Out v))) x) g f p o e w h a l = absurd (no o)
unknown (InContent element.Style (InLanguage (OfKind k)) x) g f p o e w h a l = absurd (no o)
unknown (InContent element.Style (InLanguage (OfScript v)) x) g f p o e w h a l = absurd (no o)
unknown (InContent element.Style (InLanguage (OfUrl u)) x) g f p o e w h a l = absurd (no o)
unknown (InContent element.Script (InLanguage (OfScript v)) x) g f p o e w h a l = absurd (no o)
unknown (InContent element.Script (InLanguage (OfKind k)) x) g f p o e w h a l = absurd (none_some g e)
unknown (InContent element.Script (InLanguage (OfUrl u)) x) g f p o e w h a l = absurd (none_some g e)
unknown (InContent element.Script (InLanguage (OfStyle k)) x) g f p o e w h a l = absurd (none_some g e)
unknown (InContent _ (InLanguage v) x) g f p o e w h a l = absurd (none_some g e)
unknown _ g f p o e w h a l = absurd (no o)

-- the parts of a path, by its state
open-part : (x : UrlPart) → is_open x ≡ true → (p : spelling.Prefix) × (x ≡ UrlOpen p)
open-part (UrlOpen p) h = (p, refl)
open-part UrlStart h = absurd (no h)
open-part UrlOpenhole h = absurd (no h)
open-part UrlPrequery h = absurd (no h)
open-part UrlQuery h = absurd (no h)
open-part UrlBad h = absurd (no h)

pub open-parts : (s : LexState ValueState) (g : Scan) → is_in_beginning s ≡ true → scanned s ≡ Some g → (p : spelling.Prefix) × (scan_parts g ≡ Some (parts_of (UrlOpen p)))
open-parts (AttributeValue q t (ValueOf (OfUrl u)) r) g o e =
    let same : url_scanned q t u r ≡ g = one_value (url_scanned q t u r) g e in
    let p = open-part u.part o in
    (p.0, ap scan_parts (sym same) ∙ url-parts (url_value t (quotes_at q) (parts_of u.part)) u.triple r ∙ ap (λ (x : UrlPart). Some (parts_of x)) p.1)
open-parts (AttributeValue q t (ValueOf (OfKind k)) r) g o e = absurd (no o)
open-parts (AttributeValue q t (ValueOf (OfScript v)) r) g o e = absurd (no o)
open-parts (AttributeValue q t (ValueOf (OfStyle (style.InUrl Bare u))) r) g o e =
    let n = ScanBareUrl (parts_of u.part) u.triple in
    let same : style_scan (style_value t (quotes_at q)) n r ≡ g = one_value (style_scan (style_value t (quotes_at q)) n r) g e in
    let p = open-part u.part o in
    (p.0, ap scan_parts (sym same) ∙ style-parts (style_value t (quotes_at q)) n r ∙ ap (λ (x : UrlPart). Some (parts_of x)) p.1)
open-parts (AttributeValue q t (ValueOf (OfStyle (style.InUrl (Quoted y z) u))) r) g o e =
    let n = ScanQuotedUrl y z (parts_of u.part) u.triple in
    let same : style_scan (style_value t (quotes_at q)) n r ≡ g = one_value (style_scan (style_value t (quotes_at q)) n r) g e in
    let p = open-part u.part o in
    (p.0, ap scan_parts (sym same) ∙ style-parts (style_value t (quotes_at q)) n r ∙ ap (λ (x : UrlPart). Some (parts_of x)) p.1)
open-parts (AttributeValue q t (ValueOf (OfStyle (style.InUrl Fresh u))) r) g o e = absurd (no o)
open-parts (AttributeValue q t (ValueOf (OfStyle (style.InUrl Ended u))) r) g o e = absurd (no o)
open-parts (AttributeValue q t (ValueOf (OfStyle (Out v))) r) g o e = absurd (no o)
open-parts (AttributeValue q t (Deciding k before) r) g o e = absurd (no o)
open-parts (InContent element.Style (InLanguage (OfStyle (style.InUrl Bare u))) x) g o e =
    let n = ScanBareUrl (parts_of u.part) u.triple in
    let p = open-part u.part o in
    (p.0, ap scan_parts (sym (element-form x n g e).same) ∙ element-at-parts x n ∙ ap (λ (y : UrlPart). Some (parts_of y)) p.1)
open-parts (InContent element.Style (InLanguage (OfStyle (style.InUrl (Quoted y z) u))) x) g o e =
    let n = ScanQuotedUrl y z (parts_of u.part) u.triple in
    let p = open-part u.part o in
    (p.0, ap scan_parts (sym (element-form x n g e).same) ∙ element-at-parts x n ∙ ap (λ (y : UrlPart). Some (parts_of y)) p.1)
open-parts (InContent element.Style (InLanguage (OfStyle (style.InUrl Fresh u))) x) g o e = absurd (no o)
open-parts (InContent element.Style (InLanguage (OfStyle (style.InUrl Ended u))) x) g o e = absurd (no o)
open-parts (InContent element.Style (InLanguage (OfStyle (Out v))) x) g o e = absurd (no o)
open-parts (InContent element.Style (InLanguage (OfKind k)) x) g o e = absurd (no o)
open-parts (InContent element.Style (InLanguage (OfScript v)) x) g o e = absurd (no o)
open-parts (InContent element.Style (InLanguage (OfUrl u)) x) g o e = absurd (no o)
open-parts (InContent element.Script (InLanguage (OfScript v)) x) g o e = absurd (no o)
open-parts (InContent element.Script (InLanguage (OfKind k)) x) g o e = absurd (none_some g e)
open-parts (InContent element.Script (InLanguage (OfUrl u)) x) g o e = absurd (none_some g e)
open-parts (InContent element.Script (InLanguage (OfStyle k)) x) g o e = absurd (none_some g e)
open-parts (InContent _ (InLanguage v) x) g o e = absurd (none_some g e)
open-parts _ g o e = absurd (no o)
