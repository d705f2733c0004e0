-- Two paths are apart in the beginning of a URL where their scan states say so, up to the byte at which the text is refused on one of them.
use Rattle.std.proofs.Common.{◌≡◌, ◌<◌, ◌≤◌, ◌+◌, ℕ, zero, suc, inl, Bool, true, false, List, [], ◌∷◌, drop, take, Option, Some, None, option_map, Result, Ok, Err, refl, sym, ap, ◌∙◌, subst, arith}
use Rattle.std.specs.Prelude.{IfSome, if◌then◌else◌}
use Rattle.place_core.specs.page.Classes.{class_of}
use Rattle.place_core.specs.page.Html.{next}
use Rattle.place_core.specs.page.References.{Reference, Closed, Open}
use Rattle.place_core.specs.page.States.{Template, LexState, Text, TagOpen, EndTagOpen, DeclarationOpen, CommentState, Started, StartedDash, Inside, Dash, DashDash, Bang, Broken, InComment, BogusComment, InDoctype, TagName, WholeTagName, BeforeAttributeName, AttributeName, WholeAttributeName, AfterAttributeName, BeforeAttributeValue, AttributeValue, AfterAttributeValue, SelfClosingStartTag, Characters, Bytes, InLanguage, Pending, Nothing, PendingLess, PendingName, PendingBang, PendingBangDash, PendingOpening, InContent, LessAtCut}
use Rattle.place_core.specs.page.Tags.{Tag, ValueState, OfKind, OfUrl, OfStyle, Quoting, languages, ValueOf, Deciding, is_second_type, OfScript, feed_bytes}
use Rattle.place_core.specs.place.ApartPlaces.{ArePlacesApart, beginning_at, opened_apart}
use Rattle.place_core.specs.place.Errors.{PathRefusal, place_before_bytes, shown_place, states, TextRead, nothing_read}
use Rattle.place_core.specs.place.PathPairs.{ApartBefore, is_in_reference}
use Rattle.place_core.specs.place.StatePlaces.{placed, quotes_at}
use Rattle.place_core.specs.place.UrlParts.{parts_of}
use Rattle.place_core.specs.declared.element.Element.{Element}
use Rattle.place_core.specs.declared.element.Element.TheVariants as element
use Rattle.place_core.specs.declared.kind.Kind.TheVariants as kind
use Rattle.place_core.specs.declared.place.Place.{Place}
use Rattle.place_core.specs.declared.place.Place.TheVariants as place
use Rattle.place_core.specs.declared.prefix.Prefix.{Prefix}
use Rattle.place_core.specs.declared.value_place.ValuePlace.{ValuePlace}
use Rattle.place_core.proofs.Semilattices.{one_value}
use Rattle.url_lexer.specs.Triples.{Triple, NoTriple, AfterPercent, AfterDigit}
use Rattle.html_scan.specs.Scans.{Scan, At, InStyle, InStyleElement, scan_next, scan_shown, style_scan, url_scan, with_style, InScript, script_scan_before, with_body, pending_left, script_feeding}
use Rattle.css_step.specs.StyleScans.{StyleScan, is_style_start, style_scan_place}
use Rattle.css_step.specs.StyleScanLaws.{style_scanned}
use Rattle.js_lexer.specs.States.{ScriptState}
use Rattle.js_step.specs.ScriptScans.{ScriptScan, script_scan_shown}
use Rattle.place_core.specs.place.ScriptParts.{script_body}
use Rattle.place_core.specs.declared.js.Js.{Js}
use Rattle.place_core.specs.declared.body.Body.{Body}
use Rattle.place_core.specs.declared.body.Body.TheVariants as body
use Rattle.html_step.proofs.ScriptReads.{ReadFits, begins-fits}
use Rattle.html_step.proofs.ScriptPaths.{kept_script_scanned, script_value}
use Rattle.html_step.specs.ApartInText.{AreApartAfter, AreNotApart, IsLastIn, TakesByte}
use Rattle.html_step.specs.ApartScans.{AreScansApart, IsLastApart, AnswersLast, beginning_after, scan_beginning, unless_in_reference}
use Rattle.html_step.specs.Steps.{after_text, place_before, scan_after, stepped, with_place_before, scan_read_behind}
use Rattle.html_step.proofs.OnePath.{ends-agree}
use Rattle.html_step.proofs.PathScans.{Ends, IsShown, WhereScanned, content_scanned, block_scanned, language_scanned, scanned, style_element_scanned, url_value, script_there, script_unless_placed, script_value_scanned}
use Rattle.html_step.proofs.StyleSteps.{where-styled}
use Rattle.html_step.proofs.StylePaths.{style_value}
use Rattle.html_step.proofs.OneTexts.{Reaches, at-place, is-shown-after, none, place-there, goes-on}
use Rattle.html_step.proofs.ScriptElementSteps.{where-script-element}
use Rattle.place_core.specs.page.Contents.{pending_bytes}

-- what the beginning of a URL spells at a place that is shown, and on a path before the bytes that are left
abbrev shown_beginning : Option Place → Option Prefix
shown_beginning None = None
shown_beginning (Some p) = beginning_at p

abbrev path_beginning : LexState ValueState → List ℕ → Option Prefix
path_beginning s bs = unless_in_reference (is_in_reference s bs) (shown_beginning (place_before_bytes s bs))

-- a scan state has the beginning of its path
abbrev BeginsAs : LexState ValueState → Scan → Type 0
BeginsAs s f = (bs : List ℕ) → unless_in_reference (is_in_reference s bs) (shown_beginning (scan_shown f bs)) ≡ scan_beginning f bs

none-within : (x : Bool) → unless_in_reference x None ≡ None
none-within true = refl
none-within false = refl

comment-begins : (s : CommentState) → WhereScanned (scanned (InComment s)) (BeginsAs (InComment s))
comment-begins Started = λ bs. refl
comment-begins StartedDash = λ bs. refl
comment-begins Inside = λ bs. refl
comment-begins Dash = λ bs. refl
comment-begins DashDash = λ bs. refl
comment-begins Bang = λ bs. refl
comment-begins Broken = λ bs. refl

first-begins : (second : Bool) (s : LexState ValueState) (f : Scan) → BeginsAs s f
    → WhereScanned (if second then None else Some f) (BeginsAs s)
first-begins true s f h = tt
first-begins false s f h = h

url-begins : (q : Quoting) (t : Tag) (v : ValuePlace) (x : Triple) (w : ValueState) (r : Reference)
    → BeginsAs (AttributeValue q t (ValueOf w) r) (url_scan v x r)
url-begins q t v NoTriple w Closed bs = refl
url-begins q t v NoTriple w (Open f bytes) [] = refl
url-begins q t v NoTriple w (Open f bytes) (b ∷ bs) = refl
url-begins q t v AfterPercent w Closed bs = refl
url-begins q t v AfterPercent w (Open f bytes) [] = refl
url-begins q t v AfterPercent w (Open f bytes) (b ∷ bs) = refl
url-begins q t v AfterDigit w Closed bs = refl
url-begins q t v AfterDigit w (Open f bytes) [] = refl
url-begins q t v AfterDigit w (Open f bytes) (b ∷ bs) = refl

style-begins-by : (x : Bool) (q : Quoting) (t : Tag) (v : ValuePlace) (n : StyleScan) (w : ValueState)
    → BeginsAs (AttributeValue q t (ValueOf w) Closed) (if x then At (with_style v n) else InStyle v n Closed)
style-begins-by true q t v n w bs = refl
style-begins-by false q t v n w bs = refl

style-begins : (q : Quoting) (t : Tag) (v : ValuePlace) (n : StyleScan) (w : ValueState) (r : Reference)
    → BeginsAs (AttributeValue q t (ValueOf w) r) (style_scan v n r)
style-begins q t v n w Closed bs = style-begins-by (is_style_start n) q t v n w bs
style-begins q t v n w (Open f bytes) [] = refl
style-begins q t v n w (Open f bytes) (b ∷ bs) = refl

shown-script : (v : ValuePlace) (o : Option Js) → shown_beginning (option_map (λ j. with_body v (body.Js j)) o) ≡ None
shown-script v (Some j) = refl
shown-script v None = refl

shown-element : (o : Option Js) → shown_beginning (option_map place.Script o) ≡ None
shown-element (Some j) = refl
shown-element None = refl

script-in-begins : (q : Quoting) (t : Tag) (s : ScriptState) (v : ValuePlace) (n : ScriptScan) (r : Reference)
    → BeginsAs (AttributeValue q t (ValueOf (OfScript s)) r) (InScript v n r)
script-in-begins q t s v n r bs =
    ap (unless_in_reference (is_in_reference (AttributeValue q t (ValueOf (OfScript s)) r) bs)) (shown-script v (script_scan_shown (script_scan_before n r bs)))
    ∙ none-within (is_in_reference (AttributeValue q t (ValueOf (OfScript s)) r) bs)

script-there-begins : (q : Quoting) (t : Tag) (s : ScriptState) (o : Option ScriptScan) (r : Reference)
    → WhereScanned (script_there q t o r) (BeginsAs (AttributeValue q t (ValueOf (OfScript s)) r))
script-there-begins q t s (Some n) r = script-in-begins q t s (script_value t (quotes_at q)) n r
script-there-begins q t s None r = tt

script-placed-begins : (q : Quoting) (t : Tag) (s : ScriptState) (x : Option Body) (o : Option ScriptScan)
    → WhereScanned (script_unless_placed q t x o) (BeginsAs (AttributeValue q t (ValueOf (OfScript s)) Closed))
script-placed-begins q t s (Some b) o = λ bs. refl
script-placed-begins q t s None o = script-there-begins q t s o Closed

script-begins : (q : Quoting) (t : Tag) (s : ScriptState) (r : Reference)
    → WhereScanned (script_value_scanned q t s r) (BeginsAs (AttributeValue q t (ValueOf (OfScript s)) r))
script-begins q t s Closed = script-placed-begins q t s (script_body s) (kept_script_scanned s)
script-begins q t s (Open f bytes) = script-there-begins q t s (kept_script_scanned s) (Open f bytes)

content-begins : (h : Pending) (e : Element) (r : Reference) → WhereScanned (content_scanned h e) (BeginsAs (InContent e (Characters r) h))
content-begins Nothing element.Title r = λ bs. refl
content-begins Nothing element.Textarea r = λ bs. refl
content-begins PendingLess element.Title r = λ bs. refl
content-begins PendingLess element.Textarea r = λ bs. refl
content-begins (PendingName letters) element.Title r = λ bs. refl
content-begins (PendingName letters) element.Textarea r = λ bs. refl
content-begins h e r = tt

block-begins : (h : Pending) (e : Element) → WhereScanned (block_scanned h e) (BeginsAs (InContent e Bytes h))
block-begins Nothing element.DataBlock = λ bs. refl
block-begins LessAtCut element.DataBlock = λ bs. refl
block-begins PendingLess element.DataBlock = λ bs. refl
block-begins (PendingName letters) element.DataBlock = λ bs. refl
block-begins PendingBang element.DataBlock = λ bs. refl
block-begins PendingBangDash element.DataBlock = λ bs. refl
block-begins h e = tt

element-loose-begins : (x : Bool) (n : StyleScan) (v : ValueState)
    → BeginsAs (InContent element.Style (InLanguage v) Nothing)
    (if x then At (place.Style (style_scan_place n)) else InStyleElement n Nothing)
element-loose-begins true n v bs = refl
element-loose-begins false n v bs = refl

element-begins : (h : Pending) (v : ValueState) (o : Option StyleScan)
    → WhereScanned (style_element_scanned h o) (BeginsAs (InContent element.Style (InLanguage v) h))
element-begins Nothing v (Some n) = element-loose-begins (is_style_start n) n v
element-begins PendingLess v (Some n) = λ bs. refl
element-begins (PendingName letters) v (Some n) = λ bs. refl
element-begins LessAtCut v (Some n) = tt
element-begins PendingBang v (Some n) = tt
element-begins PendingBangDash v (Some n) = tt
element-begins (PendingOpening letters) v (Some n) = tt
element-begins h v None = tt

language-begins : (h : Pending) (e : Element) (v : ValueState)
    → WhereScanned (language_scanned h e v) (BeginsAs (InContent e (InLanguage v) h))
language-begins h element.Style (OfStyle s) = element-begins h (OfStyle s) (style_scanned s)
language-begins h element.Style (OfKind k) = tt
language-begins h element.Style (OfUrl u) = tt
language-begins h element.Style (OfScript s) = tt
language-begins h element.Script (OfScript s) =
    where-script-element h s (BeginsAs (InContent element.Script (InLanguage (OfScript s)) h)) (λ j e i bs. refl)
    (λ n i bs. ap (unless_in_reference (is_in_reference (InContent element.Script (InLanguage (OfScript s)) h) bs))
    (shown-element (script_scan_shown (feed_bytes script_feeding n (pending_bytes (pending_left element.Script h bs)))))
    ∙ none-within (is_in_reference (InContent element.Script (InLanguage (OfScript s)) h) bs))
language-begins h element.Script (OfKind k) = tt
language-begins h element.Script (OfUrl u) = tt
language-begins h element.Script (OfStyle s) = tt
language-begins h _ v = tt

begins : (s : LexState ValueState) → WhereScanned (scanned s) (BeginsAs s)
begins (Text r) = λ bs. refl
begins (TagOpen r) = λ bs. refl
begins (EndTagOpen r) = λ bs. refl
begins (DeclarationOpen r pending) = λ bs. refl
begins (InComment s) = comment-begins s
begins BogusComment = tt
begins InDoctype = λ bs. refl
begins (TagName ends name) = λ bs. refl
begins (WholeTagName t) = λ bs. refl
begins (BeforeAttributeName t) = λ bs. refl
begins (AttributeName t name) = λ bs. refl
begins (WholeAttributeName t k) = first-begins (is_second_type t.typed k) (WholeAttributeName t k) _ (λ bs. refl)
begins (AfterAttributeName t k) = first-begins (is_second_type t.typed k) (AfterAttributeName t k) _ (λ bs. refl)
begins (BeforeAttributeValue t kind.Plain) = λ bs. refl
begins (BeforeAttributeValue t kind.NoHole) = λ bs. refl
begins (BeforeAttributeValue t kind.Url) = λ bs. refl
begins (BeforeAttributeValue t kind.Script) = λ bs. refl
begins (BeforeAttributeValue t kind.Style) = λ bs. refl
begins (BeforeAttributeValue t kind.ScriptType) = first-begins t.typed (BeforeAttributeValue t kind.ScriptType) _ (λ bs. refl)
begins (AttributeValue q t (ValueOf (OfKind kind.Plain)) r) =
    λ bs. none-within (is_in_reference (AttributeValue q t (ValueOf (OfKind kind.Plain)) r) bs)
begins (AttributeValue q t (ValueOf (OfKind kind.NoHole)) r) =
    λ bs. none-within (is_in_reference (AttributeValue q t (ValueOf (OfKind kind.NoHole)) r) bs)
begins (AttributeValue q t (ValueOf (OfKind k)) r) = tt
begins (AttributeValue q t (ValueOf (OfStyle s)) r) =
    where-styled q t s r (BeginsAs (AttributeValue q t (ValueOf (OfStyle s)) r)) (style_scanned s) refl
    (λ n i. style-begins q t (style_value t (quotes_at q)) n (OfStyle s) r)
begins (AttributeValue q t (ValueOf (OfScript s)) r) = script-begins q t s r
begins (AttributeValue q t (ValueOf (OfUrl u)) r) = url-begins q t (url_value t (quotes_at q) (parts_of u.part)) u.triple (OfUrl u) r
begins (AttributeValue q t (Deciding kind.ScriptType before) r) =
    first-begins t.typed (AttributeValue q t (Deciding kind.ScriptType before) r) _
    (λ bs. none-within (is_in_reference (AttributeValue q t (Deciding kind.ScriptType before) r) bs))
begins (AttributeValue q t (Deciding k before) r) = tt
begins (AfterAttributeValue t) = λ bs. refl
begins (SelfClosingStartTag t) = λ bs. refl
begins (InContent e (Characters r) h) = content-begins h e r
begins (InContent e Bytes h) = block-begins h e
begins (InContent e (InLanguage v) h) = language-begins h e v

abbrev scanned_beginning : Option Scan → List ℕ → Option Prefix
scanned_beginning None bs = None
scanned_beginning (Some f) bs = scan_beginning f bs

begins-by : (s : LexState ValueState) (o : Option Scan) (f : Scan) → WhereScanned o (Ends s) → WhereScanned o (BeginsAs s)
    → o ≡ Some f → (bs : List ℕ) → IsShown f bs
    → path_beginning s bs ≡ scan_beginning f bs
begins-by s None f a h e bs i = cc
begins-by s (Some g) f a h e bs i =
    let shown : IsShown g bs = subst (λ (x : Scan). IsShown x bs) (sym (one_value g f e)) i in
    ap (λ (o : Option Place). unless_in_reference (is_in_reference s bs) (shown_beginning o)) (a.shown bs shown) ∙ h bs
    ∙ ap (λ (o : Option Scan). scanned_beginning o bs) e

begins-at : (s : LexState ValueState) (f : Scan) → scanned s ≡ Some f → (bs : List ℕ) → IsShown f bs → path_beginning s bs ≡ scan_beginning f bs
begins-at s f e = begins-by s (scanned s) f (ends-agree s) (begins s) e

-- two paths are apart where their beginnings are
none-apart : (o : Option Prefix) → opened_apart o None ≡ true → ⊥
none-apart None e = cc
none-apart (Some p) e = cc

same-apart : (a b x y : Option Prefix) → a ≡ x → b ≡ y → opened_apart a b ≡ true → opened_apart x y ≡ true
same-apart a b x y e h t = rw (e, h) at t

record ApartWhere (x y : Bool) (o w : Option Place) : Type 0 where
  own : Place
  other_own : Place
  between : x ≡ false
  other_between : y ≡ false
  stands : o ≡ Some own
  other_stands : w ≡ Some other_own
  apart : ArePlacesApart own other_own

apart-where : (x y : Bool) (o w : Option Place)
    → opened_apart (unless_in_reference x (shown_beginning o)) (unless_in_reference y (shown_beginning w)) ≡ true → ApartWhere x y o w
apart-where false false (Some p) (Some q) h =
    record { own = p; other_own = q; between = refl; other_between = refl; stands = refl; other_stands = refl; apart = h }
apart-where true y o w h = cc
apart-where false y None w h = cc
apart-where false true (Some p) w h = absurd (none-apart (beginning_at p) h)
apart-where false false (Some p) None h = absurd (none-apart (beginning_at p) h)

apart-before : (bs : List ℕ) (s r : LexState ValueState) → opened_apart (path_beginning s bs) (path_beginning r bs) ≡ true
    → ApartBefore bs s r
apart-before bs s r h =
    let a = apart-where (is_in_reference s bs) (is_in_reference r bs) (place_before_bytes s bs) (place_before_bytes r bs) h in
    record {
      own = a.own;
      other_own = a.other_own;
      between = a.between;
      other_between = a.other_between;
      stands = a.stands;
      other_stands = a.other_stands;
      apart = a.apart;
    }

before-apart : (bs : List ℕ) (s r : LexState ValueState) → ApartBefore bs s r
    → opened_apart (path_beginning s bs) (path_beginning r bs) ≡ true
before-apart bs s r a = rw (a.between, a.other_between, a.stands, a.other_stands) a.apart

-- the scan state of a path after some bytes, up to the one that is refused
states-there : (n : ℕ) (bytes : List ℕ) (k : ℕ) (since : TextRead) (s : LexState ValueState) (f : Scan) → scanned s ≡ Some f → ReadFits k since s
    → Reaches (k + n) (stepped k since bytes f)
    → scanned (states (take n bytes) s) ≡ Some (scan_after (take n bytes) f)
states-there zero bytes k since s f e w r = e
states-there (suc n) [] k since s f e w r = e
states-there (suc n) (b ∷ bs) k since s f e w r =
    let l = goes-on k n since b bs s f e w r in
    states-there n bs (k + 1) (scan_read_behind k since f (class_of b) b) (next languages Template s (class_of b) b) (scan_next f (class_of b) b) l.at l.fits
    l.reaches

takes-by : (n upto : ℕ) (bytes : List ℕ) (p : Place) (r : Result Place PathRefusal) → TakesByte upto (with_place_before bytes p r)
    → n ≤ upto → Reaches (0 + n) r
takes-by n upto bytes p (Ok q) h l = tt
takes-by n upto bytes p (Err r) h l = inl (omega (arith, h, l))

-- a path at a place, and a text that is taken on it up to a byte
record Taken (upto : ℕ) (bytes : List ℕ) (s : LexState ValueState) (p : Place) : Type 0 where
  at : placed s ≡ Some p
  takes : TakesByte upto (after_text bytes p)

reaches : (upto n : ℕ) (bytes : List ℕ) (s : LexState ValueState) (p : Place) → Taken upto bytes s p → n ≤ upto
    → Reaches (0 + n) (stepped 0 nothing_read bytes (At p))
reaches upto n bytes s p k l = takes-by n upto bytes p (stepped 0 nothing_read bytes (At p)) k.takes l

begins-after : (upto n : ℕ) (bytes : List ℕ) (s : LexState ValueState) (p : Place) → Taken upto bytes s p → n ≤ upto
    → path_beginning (states (take n bytes) s) (drop n bytes) ≡ beginning_after n bytes (At p)
begins-after upto n bytes s p k l =
    begins-at (states (take n bytes) s) (scan_after (take n bytes) (At p))
    (states-there n bytes 0 nothing_read s (At p) (at-place s p k.at) (begins-fits s p 0 k.at) (reaches upto n bytes s p k l)) (drop n bytes)
    (is-shown-after n bytes 0 nothing_read s (At p) (at-place s p k.at) (begins-fits s p 0 k.at) (λ z. refl) (reaches upto n bytes s p k l))

apart-after : (upto n : ℕ) (bytes : List ℕ) (s r : LexState ValueState) (p q : Place) → Taken upto bytes s p → Taken upto bytes r q
    → n ≤ upto
    → AreScansApart n bytes (At p) (At q) → AreApartAfter n bytes s r
apart-after upto n bytes s r p q k h l a =
    apart-before (drop n bytes) (states (take n bytes) s) (states (take n bytes) r)
    (rw ((begins-after upto n bytes s p k l), (begins-after upto n bytes r q h l)) a)

after-apart : (upto n : ℕ) (bytes : List ℕ) (s r : LexState ValueState) (p q : Place) → Taken upto bytes s p → Taken upto bytes r q
    → n ≤ upto
    → AreApartAfter n bytes s r → AreScansApart n bytes (At p) (At q)
after-apart upto n bytes s r p q k h l a =
    same-apart (path_beginning (states (take n bytes) s) (drop n bytes)) (path_beginning (states (take n bytes) r) (drop n bytes))
    (beginning_after n bytes (At p)) (beginning_after n bytes (At q)) (begins-after upto n bytes s p k l)
    (begins-after upto n bytes r q h l)
    (before-apart (drop n bytes) (states (take n bytes) s) (states (take n bytes) r) a)

stands-after : (upto n : ℕ) (bytes : List ℕ) (s : LexState ValueState) (p : Place) → Taken upto bytes s p → n ≤ upto
    → shown_place n bytes s ≡ Some (place_before bytes n p)
stands-after upto n bytes s p k l = place-there n bytes 0 s p k.at (reaches upto n bytes s p k l)

-- what the scan states say of the last point is so on the paths
abbrev pub OnPaths : ℕ → List ℕ → Place → Place → (LexState ValueState → LexState ValueState → Type 0) → Type 0
OnPaths upto bytes p q P = (s r : LexState ValueState) → placed s ≡ Some p → placed r ≡ Some q
    → TakesByte upto (after_text bytes p) → TakesByte upto (after_text bytes q) → P s r

last-found : (upto n : ℕ) (bytes : List ℕ) (p q : Place) → IsLastApart (upto + 1) n bytes (At p) (At q)
    → OnPaths upto bytes p q (λ s r. IsLastIn upto bytes s r (place_before bytes n p) (place_before bytes n q))
last-found upto n bytes p q a s r e h k l =
    let one : Taken upto bytes s p = record { at = e; takes = k } in
    let other : Taken upto bytes r q = record { at = h; takes = l } in
    let before : n < upto + 1 = a.before in
    let within : n ≤ upto = omega (arith, before) in
    record {
      after = n;
      within = within;
      apart = apart-after upto n bytes s r p q one other within a.apart;
      stands = stands-after upto n bytes s p one within;
      other_stands = stands-after upto n bytes r q other within;
      last = λ m x y t. a.last m x (let l : m < upto + 1 = omega (arith, y) in l) (after-apart upto m bytes s r p q one other y t);
    }

pub found : (upto : ℕ) (bytes : List ℕ) (p q : Place) (o : Option ℕ) → AnswersLast (upto + 1) bytes (At p) (At q) o
    → IfSome o (λ n. OnPaths upto bytes p q (λ s r. IsLastIn upto bytes s r (place_before bytes n p) (place_before bytes n q)))
found upto bytes p q (Some n) a = last-found upto n bytes p q a
found upto bytes p q None a = tt

pub none-found : (upto : ℕ) (bytes : List ℕ) (p q : Place) (o : Option ℕ) → AnswersLast (upto + 1) bytes (At p) (At q) o → o ≡ None
    → OnPaths upto bytes p q (λ s r. AreNotApart upto bytes s r)
none-found upto bytes p q (Some n) a x s r e h k l = absurd (none (sym x))
none-found upto bytes p q None a x s r e h k l = λ m y t.
    a m (let l : m < upto + 1 = omega (arith, y) in l)
    (after-apart upto m bytes s r p q (record { at = e; takes = k }) (record { at = h; takes = l }) y t)
