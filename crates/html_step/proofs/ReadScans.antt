-- The scan state before the bytes that are left of a text: a reference that the next byte breaks has been read. The states of paths are read alike.
use Rattle.std.proofs.Common.{◌≡◌, ℕ, ◌+◌, Bool, true, false, List, [], ◌∷◌, ◌++◌, length, Option, Some, None, Ok, refl, sym, ap, ◌∙◌, subst, if◌then◌else◌}
use Rattle.place_core.specs.page.Classes.{Class, White, QuotationMark, Apostrophe, GreaterThan, class_of, is_equals_sign}
use Rattle.place_core.specs.page.Html.{ends_value}
use Rattle.place_core.specs.page.References.{Form, Reference, Closed, Open, ReferenceStep, Grows, Closes, Breaks, begin_reference, flushed, plain_bytes, reference_turned, turn, turn_bytes}
use Rattle.place_core.specs.page.Tags.{Feeding, Tag, feed_bytes, DoubleQuoted, SingleQuoted, Unquoted}
use Rattle.place_core.specs.place.Errors.{PathCause, body_error, at_hand, fed_error, first_cause, first_error, flushed_error, is_written, language_error, quotes_error, turned_error, value_error, TextRead}
use Rattle.place_core.specs.declared.body.Body.{Body}
use Rattle.place_core.specs.declared.body.Body.TheVariants as body
use Rattle.place_core.specs.declared.parts.Parts.{Parts}
use Rattle.place_core.specs.declared.place.Place.{Place}
use Rattle.place_core.specs.declared.quotes.Quotes.{Quotes}
use Rattle.place_core.specs.declared.quotes.Quotes.TheVariants as quotes
use Rattle.place_core.specs.declared.value_place.ValuePlace.{ValuePlace}
use Rattle.html_scan.specs.Scans.{Scan, At, InUrl, InStyle, bare_begun, body_cause, parts_feeding, parts_with, quoted_error, quoted_next, quotes_lead, scan_error, scan_next, style_cause, style_fed, style_feeding, style_scan, triple_behind, url_scan, value_between, value_cause, value_fed, with_parts, scan_reference, with_style}
use Rattle.html_step.proofs.ScriptEnds.{script_end}
use Rattle.html_step.specs.Origins.{scan_parts}
use Rattle.html_step.specs.Steps.{stepped, scan_read_behind}
use Rattle.html_scan.proofs.UrlsFed.{feed_more}
use Rattle.html_step.proofs.BelowScans.{below-style, below-url}
use Rattle.html_step.proofs.FedAlike.{first-caused}
use Rattle.html_step.proofs.OnePath.{none-at-hand, some, url-scan-error, url-scan-next, url-reference}
use Rattle.html_step.proofs.PlaceParts.{ValueBelow}
use Rattle.html_step.proofs.ScanOrder.{HasBegun, ScanBelow, ScanValid, StyleValueBelow, UrlWithin, one-url, parts-below, style-below, url-below, url-within}
use Rattle.html_step.proofs.StyleOrder.{style-fed-grow, style-fed-valid}
use Rattle.html_step.proofs.StylePaths.{HasValue, empty_css, ends-no-equals, style-scan-error, style-scan-next, style-scan-reference, style_value}
use Rattle.html_step.proofs.UrlOrder.{fed-grow, fed-more}
use Rattle.html_step.proofs.UrlScans.{below-reference}
use Rattle.html_step.proofs.ValidSteps.{style-valid, url-valid, with-within}
use Rattle.css_step.specs.StyleScans.{StyleScan, is_style_start, style_scan_place}
use Rattle.html_step.proofs.WholeTexts.{accepts-anywhere, step-ok, deep-behind, not-deep, ok-step}
use Rattle.place_core.specs.place.LanguagePlaces.{IsValidCss}
use Rattle.place_core.specs.place.Places.{joined_bodies}
use Rattle.place_core.proofs.Semilattices.{none_some}
use Rattle.url_lexer.specs.Triples.{Triple, NoTriple, AfterPercent, AfterDigit}
use Rattle.url_lexer.specs.Classes.{url_class_of}
use Rattle.url_lexer.specs.Triples.{next_triple}

abbrev pub read_value : ValuePlace → List ℕ → ValuePlace
read_value v bytes = record { tag = v.tag; typed = v.typed; quotes = v.quotes; body = parts_with v.body bytes }

abbrev pub read_turn : ReferenceStep → ValuePlace → Triple → Form → List ℕ → Class → Scan
read_turn Breaks v t f bytes c =
    url_scan (read_value v (flushed true (is_equals_sign c) f bytes)) (triple_behind t (flushed true (is_equals_sign c) f bytes)) Closed
read_turn step v t f bytes c = InUrl v t (Open f bytes)

-- in a style
abbrev pub read_style : ReferenceStep → ValuePlace → StyleScan → Form → List ℕ → Class → Scan
read_style Breaks v n f bytes c = style_scan v (feed_bytes style_feeding n (flushed true (is_equals_sign c) f bytes)) Closed
read_style step v n f bytes c = InStyle v n (Open f bytes)

abbrev pub scan_read : Scan → List ℕ → Scan
scan_read (InUrl v t (Open f bytes)) (b ∷ bs) = read_turn (turn (class_of b) f) v t f bytes (class_of b)
scan_read (InStyle v n (Open f bytes)) (b ∷ bs) = read_style (turn (class_of b) f) v n f bytes (class_of b)
scan_read f bs = f

-- what a broken reference and the byte behind it refuse, and where they lead
broken-accepted : {S : Type 0} (m : Feeding S) (x : Bool) (s : S) (f : Form) (bytes : List ℕ) (c : Class) (b : ℕ) → turn c f ≡ Breaks
    → (x ≡ true → is_equals_sign c ≡ false)
    → language_error m x s (Open f bytes) c b ≡ None → flushed_error m s (is_equals_sign c) f bytes ≡ None
broken-accepted m true s f bytes c b k e n = ap (λ (y : Bool). flushed_error m s y f bytes) (e refl) ∙ n
broken-accepted m false s f bytes c b k e n =
    (first-caused (flushed_error m s (is_equals_sign c) f bytes)
    (fed_error m (feed_bytes m s (flushed true (is_equals_sign c) f bytes)) (plain_bytes c b) false 0)
    (sym (ap (λ (z : ReferenceStep). turned_error m s z f bytes c b) k) ∙ n)).0

language-read : {S : Type 0} (m : Feeding S) (x : Bool) (s : S) (f : Form) (bytes : List ℕ) (c : Class) (b : ℕ) → turn c f ≡ Breaks
    → (x ≡ true → is_equals_sign c ≡ false) → flushed_error m s (is_equals_sign c) f bytes ≡ None
    → language_error m x (feed_bytes m s (flushed true (is_equals_sign c) f bytes)) Closed c b ≡ language_error m x s (Open f bytes) c b
language-read m true s f bytes c b k e n = sym (sym (ap (λ (y : Bool). flushed_error m s y f bytes) (e refl)) ∙ n)
language-read m false s f bytes c b k e n =
    sym (ap (λ (z : ReferenceStep). turned_error m s z f bytes c b) k
    ∙ ap (λ (o : Option PathCause). first_cause o
    (fed_error m (feed_bytes m s (flushed true (is_equals_sign c) f bytes)) (plain_bytes c b) false 0)) n)

pub fed-accepted : {S : Type 0} (m : Feeding S) (q : Quotes) (s : S) (f : Form) (bytes : List ℕ) (c : Class) (b : ℕ) → HasBegun q → turn c f ≡ Breaks
    → quoted_error m q s (Open f bytes) c b ≡ None → flushed_error m s (is_equals_sign c) f bytes ≡ None
fed-accepted m quotes.Dq s f bytes c b g k n =
    broken-accepted m (ends_value DoubleQuoted c) s f bytes c b k (ends-no-equals DoubleQuoted c) n
fed-accepted m quotes.Sq s f bytes c b g k n =
    broken-accepted m (ends_value SingleQuoted c) s f bytes c b k (ends-no-equals SingleQuoted c) n
fed-accepted m (quotes.Bare x) s f bytes c b g k n =
    broken-accepted m (ends_value Unquoted c) s f bytes c b k (ends-no-equals Unquoted c) (rw g.0 at n)

pub fed-quoted-read : {S : Type 0} (m : Feeding S) (q : Quotes) (s : S) (f : Form) (bytes : List ℕ) (c : Class) (b : ℕ) → HasBegun q
    → turn c f ≡ Breaks → flushed_error m s (is_equals_sign c) f bytes ≡ None
    → quoted_error m q (feed_bytes m s (flushed true (is_equals_sign c) f bytes)) Closed c b ≡ quoted_error m q s (Open f bytes) c b
fed-quoted-read m quotes.Dq s f bytes c b g k n = language-read m (ends_value DoubleQuoted c) s f bytes c b k (ends-no-equals DoubleQuoted c) n
fed-quoted-read m quotes.Sq s f bytes c b g k n = language-read m (ends_value SingleQuoted c) s f bytes c b k (ends-no-equals SingleQuoted c) n
fed-quoted-read m (quotes.Bare x) s f bytes c b g k n =
    rw g.0 (language-read m (ends_value Unquoted c) s f bytes c b k (ends-no-equals Unquoted c) n)

-- in a URL
abbrev pub Broken : Parts → Form → List ℕ → Class → Option PathCause
Broken s f bytes c = flushed_error parts_feeding s (is_equals_sign c) f bytes

abbrev pub Behind : Parts → Form → List ℕ → Class → Parts
Behind s f bytes c = feed_bytes parts_feeding s (flushed true (is_equals_sign c) f bytes)

quoted-accepted : (q : Quotes) (s : Parts) (f : Form) (bytes : List ℕ) (c : Class) (b : ℕ) → HasBegun q → turn c f ≡ Breaks
    → quoted_error parts_feeding q s (Open f bytes) c b ≡ None → Broken s f bytes c ≡ None
quoted-accepted q s f bytes c b g k n = fed-accepted parts_feeding q s f bytes c b g k n

pub quoted-read : (q : Quotes) (s : Parts) (f : Form) (bytes : List ℕ) (c : Class) (b : ℕ) → HasBegun q → turn c f ≡ Breaks → Broken s f bytes c ≡ None
    → quoted_error parts_feeding q (Behind s f bytes c) Closed c b ≡ quoted_error parts_feeding q s (Open f bytes) c b
quoted-read q s f bytes c b g k n = fed-quoted-read parts_feeding q s f bytes c b g k n

triple-more : (xs ys : List ℕ) (t : Triple) → triple_behind t (xs ++ ys) ≡ triple_behind (triple_behind t xs) ys
triple-more [] ys t = refl
triple-more (x ∷ xs) ys t = triple-more xs ys (next_triple t (url_class_of x))

fed-read : (v : ValuePlace) (q : Quotes) (s : Parts) (t : Triple) (f : Form) (bytes : List ℕ) (c : Class) (b : ℕ) → turn c f ≡ Breaks
    → value_fed (read_value v (flushed true (is_equals_sign c) f bytes)) q (body.Url (Behind s f bytes c)) (triple_behind t (flushed true (is_equals_sign c) f bytes)) Closed c b
    ≡ value_fed v q (body.Url s) t (Open f bytes) c b
fed-read v q s t f bytes c b k =
    let xs = flushed true (is_equals_sign c) f bytes in
    let ys = plain_bytes c b in
    ap (λ (z : Parts). url_scan (with_parts v q z) (triple_behind (triple_behind t xs) ys) (begin_reference c)) (sym (fed-more xs ys s))
    ∙ ap (λ (z : Triple). url_scan (with_parts v q (feed_bytes parts_feeding s (xs ++ ys))) z (begin_reference c)) (sym (triple-more xs ys t))
    ∙ ap (λ (z : ReferenceStep). url_scan (with_parts v q (feed_bytes parts_feeding s (turn_bytes true z f bytes c b))) (triple_behind t (turn_bytes true z f bytes c b)) (reference_turned z bytes c b)) (sym k)

body-read : (v : ValuePlace) (x : Body) (q : Quotes) (s : Parts) (t : Triple) (f : Form) (bytes : List ℕ) (c : Class) (b : ℕ) → turn c f ≡ Breaks → x ≡ body.Url s
    → value_fed (read_value v (flushed true (is_equals_sign c) f bytes)) q (parts_with x (flushed true (is_equals_sign c) f bytes)) (triple_behind t (flushed true (is_equals_sign c) f bytes)) Closed c b
    ≡ value_fed v q x t (Open f bytes) c b
body-read v x q s t f bytes c b k e =
    let xs = flushed true (is_equals_sign c) f bytes in
    ap (λ (y : Body). value_fed (read_value v xs) q (parts_with y xs) (triple_behind t xs) Closed c b) e
    ∙ fed-read v q s t f bytes c b k ∙ ap (λ (y : Body). value_fed v q y t (Open f bytes) c b) (sym e)

next-read : (v : ValuePlace) (q : Quotes) (s : Parts) (t : Triple) (f : Form) (bytes : List ℕ) (c : Class) (b : ℕ) → HasBegun q → turn c f ≡ Breaks
    → v.body ≡ body.Url s → quotes_error v.tag q c ≡ None
    → quoted_next (read_value v (flushed true (is_equals_sign c) f bytes)) q (triple_behind t (flushed true (is_equals_sign c) f bytes)) Closed c b
    ≡ quoted_next v q t (Open f bytes) c b
next-read v quotes.Dq s t f bytes QuotationMark b g k e n = refl
next-read v quotes.Dq s t f bytes c b g k e n = body-read v v.body quotes.Dq s t f bytes c b k e
next-read v quotes.Sq s t f bytes Apostrophe b g k e n = refl
next-read v quotes.Sq s t f bytes c b g k e n = body-read v v.body quotes.Sq s t f bytes c b k e
next-read v (quotes.Bare x) s t f bytes White b g k e n = rw g.0 refl
next-read v (quotes.Bare x) s t f bytes QuotationMark b g k e n = absurd (some _ (rw g.0 at n))
next-read v (quotes.Bare x) s t f bytes Apostrophe b g k e n = absurd (some _ (rw g.0 at n))
next-read v (quotes.Bare x) s t f bytes GreaterThan b g k e n = refl
next-read v (quotes.Bare x) s t f bytes c b g k e n = body-read v v.body _ s t f bytes c b k e

url-cause : (v : ValuePlace) (s : Parts) (r : Reference) (c : Class) (b : ℕ) → v.body ≡ body.Url s
    → value_cause v r c b ≡ first_cause (quoted_error parts_feeding v.quotes s r c b) (at_hand (quotes_error v.tag v.quotes c))
url-cause v s r c b e = ap (λ (x : Body). first_cause (body_cause x v.quotes r c b) (at_hand (first_error (body_error x) (quotes_error v.tag v.quotes c)))) e

cause-read : (v : ValuePlace) (s : Parts) (f : Form) (bytes : List ℕ) (c : Class) (b : ℕ) → v.body ≡ body.Url s → HasBegun v.quotes → turn c f ≡ Breaks
    → Broken s f bytes c ≡ None
    → value_cause (read_value v (flushed true (is_equals_sign c) f bytes)) Closed c b ≡ value_cause v (Open f bytes) c b
cause-read v s f bytes c b e g k n =
    let xs = flushed true (is_equals_sign c) f bytes in
    url-cause (read_value v xs) (Behind s f bytes c) Closed c b (ap (λ (x : Body). parts_with x xs) e)
    ∙ ap (λ (o : Option PathCause). first_cause o (at_hand (quotes_error v.tag v.quotes c))) (quoted-read v.quotes s f bytes c b g k n)
    ∙ sym (url-cause v s (Open f bytes) c b e)

-- the whole of it: what is refused there, and where it leads
read-error-by : (z : ReferenceStep) (v : ValuePlace) (s : Parts) (t : Triple) (f : Form) (bytes : List ℕ) (c : Class) (b : ℕ) → turn c f ≡ z → v.body ≡ body.Url s
    → HasBegun v.quotes → Broken s f bytes c ≡ None → scan_error (read_turn z v t f bytes c) c b ≡ value_cause v (Open f bytes) c b
read-error-by Breaks v s t f bytes c b k e g n =
    let xs = flushed true (is_equals_sign c) f bytes in
    url-scan-error (read_value v xs) (triple_behind t xs) Closed c b ∙ cause-read v s f bytes c b e g k n
read-error-by (Grows x) v s t f bytes c b k e g n = refl
read-error-by Closes v s t f bytes c b k e g n = refl

pub record ReadOn (f g : Scan) (c : Class) (b : ℕ) : Type 0 where
  pub error : scan_error g c b ≡ None
  pub next : scan_next g c b ≡ scan_next f c b

read-on-by : (z : ReferenceStep) (v : ValuePlace) (s : Parts) (t : Triple) (f : Form) (bytes : List ℕ) (c : Class) (b : ℕ) → turn c f ≡ z → v.body ≡ body.Url s
    → HasBegun v.quotes → value_cause v (Open f bytes) c b ≡ None → ReadOn (InUrl v t (Open f bytes)) (read_turn z v t f bytes c) c b
read-on-by Breaks v s t f bytes c b k e g n =
    let xs = flushed true (is_equals_sign c) f bytes in
    let m = first-caused (quoted_error parts_feeding v.quotes s (Open f bytes) c b) (at_hand (quotes_error v.tag v.quotes c)) (sym (url-cause v s (Open f bytes) c b e) ∙ n) in
    record {
      error = read-error-by Breaks v s t f bytes c b k e g (quoted-accepted v.quotes s f bytes c b g k m.0) ∙ n;
      next = url-scan-next (read_value v xs) (triple_behind t xs) Closed c b
          ∙ next-read v v.quotes s t f bytes c b g k e (none-at-hand (quotes_error v.tag v.quotes c) m.1);
    }
read-on-by (Grows x) v s t f bytes c b k e g n = record { error = n; next = refl }
read-on-by Closes v s t f bytes c b k e g n = record { error = n; next = refl }

-- likewise in a style
abbrev with_value_body : ValuePlace → Body → ValuePlace
with_value_body v x = record { tag = v.tag; typed = v.typed; quotes = v.quotes; body = x }

pub style-value-of : (v : ValuePlace) → v.body ≡ body.Css empty_css → style_value (record { tag = v.tag; typed = v.typed }) v.quotes ≡ v
style-value-of v e = ap (with_value_body v) (sym e)

has-value-of : (q : Quotes) → HasBegun q → HasValue q
has-value-of quotes.Dq g = tt
has-value-of quotes.Sq g = tt
has-value-of (quotes.Bare x) g = g.0

lead-same : (v : ValuePlace) (q : Quotes) (c : Class) (f g : Quotes → Scan) → ((p : Quotes) → f p ≡ g p) → quotes_lead v q c f ≡ quotes_lead v q c g
lead-same v quotes.Dq QuotationMark f g h = refl
lead-same v quotes.Dq c f g h = h quotes.Dq
lead-same v quotes.Sq Apostrophe f g h = refl
lead-same v quotes.Sq c f g h = h quotes.Sq
lead-same v (quotes.Bare x) White f g h = refl
lead-same v (quotes.Bare x) QuotationMark f g h = refl
lead-same v (quotes.Bare x) Apostrophe f g h = refl
lead-same v (quotes.Bare x) GreaterThan f g h = refl
lead-same v (quotes.Bare x) c f g h = h bare_begun

pub style-fed-read : (v : ValuePlace) (n : StyleScan) (f : Form) (bytes : List ℕ) (c : Class) (b : ℕ) → turn c f ≡ Breaks
    → style_fed v (feed_bytes style_feeding n (flushed true (is_equals_sign c) f bytes)) Closed c b ≡ style_fed v n (Open f bytes) c b
style-fed-read v n f bytes c b k =
    let xs = flushed true (is_equals_sign c) f bytes in
    ap (λ (m : StyleScan). style_scan v m (begin_reference c)) (sym (feed_more style_feeding n xs (plain_bytes c b)))
    ∙ ap (λ (z : ReferenceStep). style_scan v (feed_bytes style_feeding n (turn_bytes true z f bytes c b)) (reference_turned z bytes c b)) (sym k)

style-read-by : (z : ReferenceStep) (t : Tag) (q : Quotes) (n : StyleScan) (f : Form) (bytes : List ℕ) (c : Class) (b : ℕ) → turn c f ≡ z
    → HasBegun q → style_cause (style_value t q) n (Open f bytes) c b ≡ None
    → ReadOn (InStyle (style_value t q) n (Open f bytes)) (read_style z (style_value t q) n f bytes c) c b
style-read-by Breaks t q n f bytes c b k g e =
    let w = style_value t q in
    let behind = feed_bytes style_feeding n (flushed true (is_equals_sign c) f bytes) in
    let m = first-caused (quoted_error style_feeding q n (Open f bytes) c b) (at_hand (quotes_error t.tag q c)) e in
    let taken = fed-accepted style_feeding q n f bytes c b g k m.0 in
    record {
      error = style-scan-error t q behind Closed c b
          ∙ ap (λ (o : Option PathCause). first_cause o (at_hand (quotes_error t.tag q c))) (fed-quoted-read style_feeding q n f bytes c b g k taken)
          ∙ e;
      next = style-scan-next t q behind Closed c b (has-value-of q g) m.1
          ∙ lead-same w q c (λ p. style_fed (value_between w p) behind Closed c b) (λ p. style_fed (value_between w p) n (Open f bytes) c b)
          (λ p. style-fed-read (value_between w p) n f bytes c b k);
    }
style-read-by (Grows x) t q n f bytes c b k g e = record { error = e; next = refl }
style-read-by Closes t q n f bytes c b k g e = record { error = e; next = refl }

style-read-on : (v : ValuePlace) (n : StyleScan) (f : Form) (bytes : List ℕ) (c : Class) (b : ℕ) → HasBegun v.quotes → v.body ≡ body.Css empty_css
    → style_cause v n (Open f bytes) c b ≡ None → ReadOn (InStyle v n (Open f bytes)) (read_style (turn c f) v n f bytes c) c b
style-read-on v n f bytes c b g w =
    subst (λ (x : ValuePlace). style_cause x n (Open f bytes) c b ≡ None
    → ReadOn (InStyle x n (Open f bytes)) (read_style (turn c f) x n f bytes c) c b)
    (style-value-of v w)
    (λ e. style-read-by (turn c f) (record { tag = v.tag; typed = v.typed }) v.quotes n f bytes c b refl g e)

pub read-on : (f : Scan) (b : ℕ) (bs : List ℕ) → ScanValid f → scan_error f (class_of b) b ≡ None → ReadOn f (scan_read f (b ∷ bs)) (class_of b) b
read-on (InUrl v t (Open f bytes)) b bs w n =
    (let s = url-within v.body w.1 in read-on-by (turn (class_of b) f) v s.0 t f bytes (class_of b) b refl s.1 w.0 n)
read-on (InUrl v t Closed) b bs w n = record { error = n; next = refl }
read-on (InStyle v m (Open f bytes)) b bs w n = style-read-on v m f bytes (class_of b) b w.0 w.1 n
read-on (InStyle v m Closed) b bs w n = record { error = n; next = refl }
read-on f b bs w n = record { error = n; next = refl }

-- what is read is no script
url-no-script : (v : ValuePlace) (t : Triple) (r : Reference) (c : Class) → script_end (url_scan v t r) c ≡ None
url-no-script v NoTriple Closed c = refl
url-no-script v NoTriple (Open f bytes) c = refl
url-no-script v AfterPercent r c = refl
url-no-script v AfterDigit r c = refl

style-no-script-by : (v : ValuePlace) (n : StyleScan) (x : Bool) (c : Class)
    → script_end (if x then At (with_style v n) else InStyle v n Closed) c ≡ None
style-no-script-by v n true c = refl
style-no-script-by v n false c = refl

style-no-script : (v : ValuePlace) (n : StyleScan) (r : Reference) (c : Class) → script_end (style_scan v n r) c ≡ None
style-no-script v n Closed c = style-no-script-by v n (is_style_start n) c
style-no-script v n (Open f bytes) c = refl

turn-no-script : (z : ReferenceStep) (v : ValuePlace) (t : Triple) (f : Form) (bytes : List ℕ) (c d : Class) → script_end (read_turn z v t f bytes c) d ≡ None
turn-no-script Breaks v t f bytes c d =
    (let xs = flushed true (is_equals_sign c) f bytes in url-no-script (read_value v xs) (triple_behind t xs) Closed d)
turn-no-script (Grows g) v t f bytes c d = refl
turn-no-script Closes v t f bytes c d = refl

style-turn-no-script : (z : ReferenceStep) (v : ValuePlace) (n : StyleScan) (f : Form) (bytes : List ℕ) (c d : Class) → script_end (read_style z v n f bytes c) d ≡ None
style-turn-no-script Breaks v n f bytes c d = style-no-script v (feed_bytes style_feeding n (flushed true (is_equals_sign c) f bytes)) Closed d
style-turn-no-script (Grows g) v n f bytes c d = refl
style-turn-no-script Closes v n f bytes c d = refl

read-script-end : (f : Scan) (bs : List ℕ) (c : Class) → script_end f c ≡ None → script_end (scan_read f bs) c ≡ None
read-script-end (InUrl v t (Open x l)) (b ∷ bs) c h = turn-no-script (turn (class_of b) x) v t x l (class_of b) c
read-script-end (InUrl v t (Open x l)) [] c h = refl
read-script-end (InUrl v t Closed) bs c h = refl
read-script-end (InStyle v n (Open x l)) (b ∷ bs) c h = style-turn-no-script (turn (class_of b) x) v n x l (class_of b) c
read-script-end (InStyle v n (Open x l)) [] c h = refl
read-script-end (InStyle v n Closed) bs c h = refl
read-script-end _ bs c h = h

pub read-ok : (b : ℕ) (bs : List ℕ) (k : ℕ) (since : TextRead) (f : Scan) (q : Place) → ScanValid f → stepped k since (b ∷ bs) f ≡ Ok q
    → stepped k since (b ∷ bs) (scan_read f (b ∷ bs)) ≡ Ok q
read-ok b bs k since f q w e =
    let n = step-ok k since b bs f q e in
    let m = read-on f b bs w n.0 in
    let g = scan_read f (b ∷ bs) in
    let last = scan_read_behind k since f (class_of b) b in
    let over = scan_read_behind k since g (class_of b) b in
    let ends = read-script-end f (b ∷ bs) (class_of b) n.2 in
    ok-step k since b bs g q m.error ends
    (ap (stepped (k + 1) over bs) m.next
    ∙ accepts-anywhere bs (k + 1) last (k + 1) over (scan_next f (class_of b) b) q
    (deep-behind k since b g (not-deep (b ∷ bs) k since f q e) m.error ends) n.1)

-- a reference that is open in it is not broken by the byte
abbrev pub NotBroken : Reference → ℕ → Type 0
NotBroken Closed b = Unit {0}
NotBroken (Open f bytes) b = turn (class_of b) f ≡ Breaks → ⊥

not-broken-by : (z : ReferenceStep) (v : ValuePlace) (t : Triple) (f : Form) (bytes : List ℕ) (b : ℕ) → turn (class_of b) f ≡ z
    → NotBroken (scan_reference (read_turn z v t f bytes (class_of b))) b
not-broken-by Breaks v t f bytes b k =
    (let xs = flushed true (is_equals_sign (class_of b)) f bytes in
    subst (λ (r : Reference). NotBroken r b) (sym (url-reference (read_value v xs) (triple_behind t xs) Closed)) tt)
not-broken-by (Grows g) v t f bytes b k = λ h. (let same : Grows g ≡ Breaks = sym k ∙ h in cc)
not-broken-by Closes v t f bytes b k = λ h. (let same : Closes ≡ Breaks = sym k ∙ h in cc)

style-not-broken : (z : ReferenceStep) (v : ValuePlace) (n : StyleScan) (f : Form) (bytes : List ℕ) (b : ℕ) → turn (class_of b) f ≡ z
    → NotBroken (scan_reference (read_style z v n f bytes (class_of b))) b
style-not-broken Breaks v n f bytes b k =
    let behind = feed_bytes style_feeding n (flushed true (is_equals_sign (class_of b)) f bytes) in
    subst (λ (r : Reference). NotBroken r b) (sym (style-scan-reference v behind Closed)) tt
style-not-broken (Grows g) v n f bytes b k = λ h. (let same : Grows g ≡ Breaks = sym k ∙ h in cc)
style-not-broken Closes v n f bytes b k = λ h. (let same : Closes ≡ Breaks = sym k ∙ h in cc)

pub not-broken : (f : Scan) (b : ℕ) (bs : List ℕ) (s : Parts) → scan_parts (scan_read f (b ∷ bs)) ≡ Some s
    → NotBroken (scan_reference (scan_read f (b ∷ bs))) b
not-broken (InUrl v t (Open f bytes)) b bs s h = not-broken-by (turn (class_of b) f) v t f bytes b refl
not-broken (InUrl v t Closed) b bs s h = tt
not-broken (InStyle v n (Open f bytes)) b bs s h = style-not-broken (turn (class_of b) f) v n f bytes b refl
not-broken (InStyle v n Closed) b bs s h = tt
not-broken f b bs s h = tt

-- it is valid, and keeps the order
read-valid-by : (z : ReferenceStep) (v : ValuePlace) (t : Triple) (f : Form) (bytes : List ℕ) (c : Class) → HasBegun v.quotes → UrlWithin v.body
    → ScanValid (read_turn z v t f bytes c)
read-valid-by Breaks v t f bytes c g w =
    let xs = flushed true (is_equals_sign c) f bytes in url-valid (read_value v xs) (triple_behind t xs) Closed g (with-within v.body xs w)
read-valid-by (Grows x) v t f bytes c g w = (g, w)
read-valid-by Closes v t f bytes c g w = (g, w)

style-read-valid : (z : ReferenceStep) (v : ValuePlace) (n : StyleScan) (f : Form) (bytes : List ℕ) (c : Class) → HasBegun v.quotes
    → v.body ≡ body.Css empty_css → IsValidCss (style_scan_place n) → ScanValid (read_style z v n f bytes c)
style-read-valid Breaks v n f bytes c g e w =
    let xs = flushed true (is_equals_sign c) f bytes in style-valid v (feed_bytes style_feeding n xs) Closed g e (style-fed-valid xs n w)
style-read-valid (Grows x) v n f bytes c g e w = (g, e, w)
style-read-valid Closes v n f bytes c g e w = (g, e, w)

pub read-valid : (f : Scan) (bs : List ℕ) → ScanValid f → ScanValid (scan_read f bs)
read-valid (InUrl v t (Open f bytes)) (b ∷ bs) w = read-valid-by (turn (class_of b) f) v t f bytes (class_of b) w.0 w.1
read-valid (InUrl v t (Open f bytes)) [] w = w
read-valid (InUrl v t Closed) bs w = w
read-valid (InStyle v n (Open f bytes)) (b ∷ bs) w = style-read-valid (turn (class_of b) f) v n f bytes (class_of b) w.0 w.1 w.2
read-valid (InStyle v n (Open f bytes)) [] w = w
read-valid (InStyle v n Closed) bs w = w
read-valid f bs w = w

-- what is broken is taken
pub record Takes (f : Scan) (b : ℕ) : Type 0 where
  pub taken : (v : ValuePlace) (s : Parts) (t : Triple) (x : Form) (bytes : List ℕ) → f ≡ InUrl v t (Open x bytes) → v.body ≡ body.Url s
      → turn (class_of b) x ≡ Breaks → Broken s x bytes (class_of b) ≡ None
  pub styled : (v : ValuePlace) (n : StyleScan) (x : Form) (bytes : List ℕ) → f ≡ InStyle v n (Open x bytes) → turn (class_of b) x ≡ Breaks
      → flushed_error style_feeding n (is_equals_sign (class_of b)) x bytes ≡ None

pub broken-of : (v : ValuePlace) (s : Parts) (f : Form) (bytes : List ℕ) (c : Class) (b : ℕ) → v.body ≡ body.Url s → HasBegun v.quotes → turn c f ≡ Breaks
    → value_cause v (Open f bytes) c b ≡ None → Broken s f bytes c ≡ None
broken-of v s f bytes c b e g k n =
    quoted-accepted v.quotes s f bytes c b g k
    (first-caused (quoted_error parts_feeding v.quotes s (Open f bytes) c b) (at_hand (quotes_error v.tag v.quotes c)) (sym (url-cause v s (Open f bytes) c b e) ∙ n)).0

pub style-broken-of : (v : ValuePlace) (n : StyleScan) (f : Form) (bytes : List ℕ) (c : Class) (b : ℕ) → HasBegun v.quotes → turn c f ≡ Breaks
    → style_cause v n (Open f bytes) c b ≡ None → flushed_error style_feeding n (is_equals_sign c) f bytes ≡ None
style-broken-of v n f bytes c b g k e =
    fed-accepted style_feeding v.quotes n f bytes c b g k
    (first-caused (quoted_error style_feeding v.quotes n (Open f bytes) c b) (at_hand (value_error v c)) e).0

pub takes : (f : Scan) (b : ℕ) → ScanValid f → scan_error f (class_of b) b ≡ None → Takes f b
takes f b w n = record {
  taken = λ v s t x bytes i e k.
      broken-of v s x bytes (class_of b) b e (subst ScanValid i w).0 k (subst (λ (y : Scan). scan_error y (class_of b) b ≡ None) i n);
  styled = λ v m x bytes i k.
      style-broken-of v m x bytes (class_of b) b (subst ScanValid i w).0 k (subst (λ (y : Scan). scan_error y (class_of b) b ≡ None) i n);
}

-- of one scan state, before the bytes that are left: what a path's own one needs to be read as the path is
abbrev pub ReadTaken : Scan → List ℕ → Type 0
ReadTaken (InStyle v n (Open f bytes)) (b ∷ bs) =
    turn (class_of b) f ≡ Breaks → flushed_error style_feeding n (is_equals_sign (class_of b)) f bytes ≡ None
ReadTaken f bs = Unit {0}

not-open : (f : Form) (bytes : List ℕ) → Open f bytes ≡ Closed → ⊥
not-open f bytes e = cc

pub closed-taken : (f : Scan) (bs : List ℕ) → scan_reference f ≡ Closed → ReadTaken f bs
closed-taken (InStyle v n Closed) bs h = tt
closed-taken (InStyle v n (Open f bytes)) bs h = absurd (not-open f bytes h)
closed-taken f bs h = tt

-- so below one of which it is taken
style-taken : (u : ValuePlace) (n : StyleScan) (x : Form) (bytes : List ℕ) (f : Scan) (b : ℕ) (bs : List ℕ) → Takes f b
    → ScanBelow (InStyle u n (Open x bytes)) f → ReadTaken (InStyle u n (Open x bytes)) (b ∷ bs)
style-taken u n x bytes (InStyle v m z) b bs a l = λ k.
    let equals = is_equals_sign (class_of b) in
    (style-fed-grow (flushed true equals x bytes) (is_written equals x bytes) (length bytes + 1) n m l.0.scan
    (a.styled v m x bytes (ap (InStyle v m) (sym l.1)) k)).0
style-taken u n x bytes (At p) b bs a l = absurd (not-open x bytes l.1)
style-taken u n x bytes _ b bs a l = absurd l

pub read-taken : (g f : Scan) (b : ℕ) (bs : List ℕ) → Takes f b → ScanBelow g f → ReadTaken g (b ∷ bs)
read-taken (InStyle u n (Open x bytes)) f b bs a l = style-taken u n x bytes f b bs a l
read-taken (InStyle u n Closed) f b bs a l = tt
read-taken g f b bs a l = tt

fed-bodies : (b d : Body) (s : Parts) (f : Form) (bytes : List ℕ) (c : Class) → joined_bodies b d ≡ Some d → d ≡ body.Url s → Broken s f bytes c ≡ None
    → joined_bodies (parts_with b (flushed true (is_equals_sign c) f bytes)) (parts_with d (flushed true (is_equals_sign c) f bytes))
    ≡ Some (parts_with d (flushed true (is_equals_sign c) f bytes))
fed-bodies (body.Url a) (body.Url d) s f bytes c h e n =
    let xs = flushed true (is_equals_sign c) f bytes in
    let same : d ≡ s = one-url d s e in
    ap (λ (z : Parts). Some (body.Url z))
    (fed-grow xs (is_written (is_equals_sign c) f bytes) (length bytes + 1) a d (parts-below a d h)
    (ap (λ (z : Parts). Broken z f bytes c) same ∙ n)).1
fed-bodies b body.Plain s f bytes c h e n = cc
fed-bodies b body.NoHole s f bytes c h e n = cc
fed-bodies b (body.Js j) s f bytes c h e n = cc
fed-bodies b (body.Css j) s f bytes c h e n = cc
fed-bodies b (body.Url d) s f bytes c h e n = absurd (none_some (body.Url d) h)

read-below-by : (z : ReferenceStep) (u v : ValuePlace) (s : Parts) (t : Triple) (f : Form) (bytes : List ℕ) (c : Class) → turn c f ≡ z → ValueBelow u v
    → v.body ≡ body.Url s → (turn c f ≡ Breaks → Broken s f bytes c ≡ None) → ScanBelow (read_turn z u t f bytes c) (read_turn z v t f bytes c)
read-below-by Breaks u v s t f bytes c k l e n =
    let xs = flushed true (is_equals_sign c) f bytes in
    url-below (read_value u xs) (read_value v xs) (triple_behind t xs) Closed
    (record { tag = l.tag; typed = l.typed; quotes = l.quotes; body = fed-bodies u.body v.body s f bytes c l.body e (n k) })
read-below-by (Grows x) u v s t f bytes c k l e n = (l, refl, refl)
read-below-by Closes u v s t f bytes c k l e n = (l, refl, refl)

read-below-url : (v : ValuePlace) (t : Triple) (f : Form) (bytes bs : List ℕ) (b : ℕ) → ScanValid (InUrl v t (Open f bytes)) → Takes (InUrl v t (Open f bytes)) b
    → (g : Scan) → ScanBelow g (InUrl v t (Open f bytes)) → ScanBelow (scan_read g (b ∷ bs)) (scan_read (InUrl v t (Open f bytes)) (b ∷ bs))
read-below-url v t f bytes bs b w a g l =
    let s = url-within v.body w.1 in
    below-url (λ (x : Scan). ScanBelow (scan_read x (b ∷ bs)) (scan_read (InUrl v t (Open f bytes)) (b ∷ bs))) v t (Open f bytes)
    (λ u m. read-below-by (turn (class_of b) f) u v s.0 t f bytes (class_of b) refl m s.1 (λ k. a.taken v s.0 t f bytes refl s.1 k)) g l

read-below-style-by : (z : ReferenceStep) (u v : ValuePlace) (n m : StyleScan) (f : Form) (bytes : List ℕ) (c : Class) → turn c f ≡ z
    → StyleValueBelow u v n m → (turn c f ≡ Breaks → flushed_error style_feeding m (is_equals_sign c) f bytes ≡ None)
    → ScanBelow (read_style z u n f bytes c) (read_style z v m f bytes c)
read-below-style-by Breaks u v n m f bytes c k l e =
    let xs = flushed true (is_equals_sign c) f bytes in
    style-below u v (feed_bytes style_feeding n xs) (feed_bytes style_feeding m xs) Closed
    (record {
      tag = l.tag;
      typed = l.typed;
      quotes = l.quotes;
      scan = (style-fed-grow xs (is_written (is_equals_sign c) f bytes) (length bytes + 1) n m l.scan (e k)).1;
    })
read-below-style-by (Grows x) u v n m f bytes c k l e = (l, refl)
read-below-style-by Closes u v n m f bytes c k l e = (l, refl)

read-below-style : (v : ValuePlace) (m : StyleScan) (f : Form) (bytes bs : List ℕ) (b : ℕ) → Takes (InStyle v m (Open f bytes)) b
    → (g : Scan) → ScanBelow g (InStyle v m (Open f bytes)) → ScanBelow (scan_read g (b ∷ bs)) (scan_read (InStyle v m (Open f bytes)) (b ∷ bs))
read-below-style v m f bytes bs b a g l =
    below-style (λ (x : Scan). ScanBelow (scan_read x (b ∷ bs)) (scan_read (InStyle v m (Open f bytes)) (b ∷ bs))) v m (Open f bytes)
    (λ u n k. read-below-style-by (turn (class_of b) f) u v n m f bytes (class_of b) refl k (λ e. a.styled v m f bytes refl e)) g l

pub read-end : (f : Scan) → scan_read f [] ≡ f
read-end (InUrl v t Closed) = refl
read-end (InUrl v t (Open f bytes)) = refl
read-end (InStyle v n Closed) = refl
read-end (InStyle v n (Open f bytes)) = refl
read-end f = refl

pub read-closed : (f : Scan) (bs : List ℕ) → scan_reference f ≡ Closed → scan_read f bs ≡ f
read-closed (InUrl v t Closed) bs h = refl
read-closed (InUrl v t (Open f bytes)) bs h = cc
read-closed (InStyle v n Closed) bs h = refl
read-closed (InStyle v n (Open f bytes)) bs h = absurd (not-open f bytes h)
read-closed f bs h = refl

closed-below : (g f : Scan) (bs : List ℕ) → ScanBelow g f → scan_reference f ≡ Closed → ScanBelow (scan_read g bs) (scan_read f bs)
closed-below g f bs l h =
    subst (λ (x : Scan). ScanBelow x (scan_read f bs)) (sym (read-closed g bs (below-reference g f l ∙ h)))
    (subst (ScanBelow g) (sym (read-closed f bs h)) l)

pub read-below : (g f : Scan) (b : ℕ) (bs : List ℕ) → ScanValid f → Takes f b → ScanBelow g f → ScanBelow (scan_read g (b ∷ bs)) (scan_read f (b ∷ bs))
read-below g (InUrl v t (Open f bytes)) b bs w a l = read-below-url v t f bytes bs b w a g l
read-below g (InUrl v t Closed) b bs w a l = closed-below g (InUrl v t Closed) (b ∷ bs) l refl
read-below g (InStyle v n (Open f bytes)) b bs w a l = read-below-style v n f bytes bs b a g l
read-below g (InStyle v n Closed) b bs w a l = closed-below g (InStyle v n Closed) (b ∷ bs) l refl
read-below g f b bs w a l = closed-below g f (b ∷ bs) l refl
