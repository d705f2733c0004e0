-- The path of a value that is a style, and the scan state of a style, at a byte and at the end of a text.
use Rattle.std.proofs.Common.{◌≡◌, ◌≤◌, ℕ, ◌+◌, ◌-◌, Bool, true, false, List, [], ◌∷◌, length, Option, Some, None, option_map, if◌then◌else◌, refl, sym, ap, ◌∙◌, subst, arith, ◌⊎◌, inl, inr}
use Rattle.std.proofs.lemmas.Slice.Eq.{bytes_eq-Decides}
use Rattle.css_lexer.specs.Classes.{style_class}
use Rattle.css_lexer.specs.RefusalCodes.{StyleCutRefusal}
use Rattle.css_lexer.specs.Escapes.{StyleEscape, NoEscape, AfterBackslash, HexDigits, AfterReturn}
use Rattle.css_lexer.specs.PartSpots.{may_begin_text, part_spot}
use Rattle.css_lexer.specs.Paths.{style_after_hole}
use Rattle.css_lexer.specs.Spots.{StyleSpot}
use Rattle.css_lexer.specs.States.{Quote, DoubleQuote, SingleQuote, Style}
use Rattle.css_lexer.specs.Urls.{urls, url_refusal}
use Rattle.css_step.specs.StyleScans.{StyleScan, style_scan_start, style_scan_place, style_scan_error, style_scan_cut_error, is_style_start, style_split_word, style_at_hole, style_hole_error}
use Rattle.css_step.specs.StyleScanLaws.{IsStyleScan, scans_between, scans_less_than, scans_word, scans_solidus, scans_comment, scans_string, scans_behind_hole, scans_split_word, scans_solidus_before, scans_less_than_before, scans_star_before, scans_fresh, scans_bare, scans_quoted, scans_ended, style_scanned}
use Rattle.css_step.proofs.OneStylePath.{one-style}
use Rattle.css_step.proofs.StyleBodies.{body-after-hole, body-of-scan, scan-of-body}
use Rattle.css_step.proofs.StyleGrowth.{empty-texts-keep-styles}
use Rattle.css_step.proofs.StyleScanned.{has-scan}
use Rattle.place_core.proofs.Semilattices.{no_map, one_value}
use Rattle.place_core.specs.page.Classes.{Class, White, QuotationMark, Apostrophe, GreaterThan, is_equals_sign}
use Rattle.place_core.specs.page.Html.{ends_value}
use Rattle.place_core.specs.page.References.{Form, Reference, Closed, Open, ReferenceStep, Breaks, turn, flushed, plain_bytes, as_it_stands}
use Rattle.place_core.specs.page.Tags.{Tag, Value, ValueOf, Deciding, ValueState, OfKind, OfUrl, OfStyle, OfScript, Feeding, feeding, feed_bytes, languages, refusal_code, style_code, Quoting, DoubleQuoted, SingleQuoted, Unquoted}
use Rattle.place_core.specs.place.Errors.{PathCause, at_hand, cause_back, css_hole_error, fed_error, first_cause, flushed_error, is_written, language_error, quotes_error, turned_error, url_hole_error}
use Rattle.place_core.specs.place.StatePlaces.{quotes_at}
use Rattle.place_core.specs.place.StyleParts.{style_body, style_place, style_quoted_place, style_string_place, style_tails}
use Rattle.place_core.specs.place.UrlParts.{parts_of}
use Rattle.place_core.specs.declared.body.Body.{Body}
use Rattle.place_core.specs.declared.body.Body.TheVariants as body
use Rattle.place_core.specs.declared.code.Code.{Code}
use Rattle.place_core.specs.declared.css.Css.{Css}
use Rattle.place_core.specs.declared.css.Css.TheVariants as css
use Rattle.place_core.specs.declared.parts.Parts.{Parts}
use Rattle.place_core.specs.declared.quotes.Quotes.{Quotes}
use Rattle.place_core.specs.declared.quotes.Quotes.TheVariants as quotes
use Rattle.place_core.specs.declared.value_place.ValuePlace.{ValuePlace}
use Rattle.html_scan.specs.Scans.{Scan, At, bare_begun, InStyle, parts_feeding, scan_cut_error, scan_error, scan_lexeme_error, scan_next, scan_place, scan_reference, scan_shown, style_cause, style_fed, style_feeding, style_scan, style_scan_before, style_value_next, quoted_error, with_style, written_error}
use Rattle.html_step.proofs.FedAlike.{FedAlike}
use Rattle.url_lexer.specs.Classes.{url_class_of}
use Rattle.url_lexer.specs.Parts.{UrlPart, UrlStart, UrlOpen, UrlOpenhole, UrlPrequery, UrlQuery, UrlBad}
use Rattle.url_lexer.specs.States.{Url}
use Rattle.url_step.proofs.OnePath.{one-error, one-next}
use Rattle.url_step.specs.PartSets.{parts_error, parts_hole_error, parts_next}

given : {A : Type 0} (a : A) → Some a ≡ None → ⊥
given a e = cc

-- The values of a path in a URL and in a style, and what all paths there are kept as.
abbrev pub IsUrlAt : Value ValueState → Parts → Type 0
IsUrlAt (ValueOf (OfUrl u)) s = parts_of u.part ≡ s
IsUrlAt (ValueOf (OfKind k)) s = ⊥
IsUrlAt (ValueOf (OfStyle v)) s = ⊥
IsUrlAt (ValueOf (OfScript v)) s = ⊥
IsUrlAt (Deciding k before) s = ⊥

abbrev pub IsStyleAt : Value ValueState → StyleScan → Type 0
IsStyleAt (ValueOf (OfStyle v)) n = IsStyleScan v n
IsStyleAt (ValueOf (OfKind k)) n = ⊥
IsStyleAt (ValueOf (OfUrl u)) n = ⊥
IsStyleAt (ValueOf (OfScript v)) n = ⊥
IsStyleAt (Deciding k before) n = ⊥

url-errors : (z : Value ValueState) (s : Parts) (b : ℕ) → IsUrlAt z s → (feeding languages).refuses z b ≡ parts_feeding.refuses s b
url-errors (ValueOf (OfUrl u)) s b e =
    ap (option_map refusal_code) (sym (one-error u.part (url_class_of b)))
    ∙ ap (λ (z : Parts). option_map refusal_code (parts_error z (url_class_of b))) e
url-errors (ValueOf (OfKind k)) s b e = absurd e
url-errors (ValueOf (OfStyle v)) s b e = absurd e
url-errors (ValueOf (OfScript v)) s b e = absurd e
url-errors (Deciding k before) s b e = absurd e

url-goes : (z : Value ValueState) (s : Parts) (b : ℕ) → IsUrlAt z s → IsUrlAt ((feeding languages).feed z b) (parts_feeding.feed s b)
url-goes (ValueOf (OfUrl u)) s b e = sym (one-next u.part (url_class_of b) b) ∙ ap (λ (z : Parts). parts_next z (url_class_of b) b) e
url-goes (ValueOf (OfKind k)) s b e = absurd e
url-goes (ValueOf (OfStyle v)) s b e = absurd e
url-goes (ValueOf (OfScript v)) s b e = absurd e
url-goes (Deciding k before) s b e = absurd e

url-names : (z : Value ValueState) (s : Parts) → IsUrlAt z s → (feeding languages).refuses_names z ≡ parts_feeding.refuses_names s
url-names (ValueOf (OfUrl u)) s e = refl
url-names (ValueOf (OfKind k)) s e = absurd e
url-names (ValueOf (OfStyle v)) s e = absurd e
url-names (ValueOf (OfScript v)) s e = absurd e
url-names (Deciding k before) s e = absurd e

pub urls-alike : FedAlike (feeding languages) parts_feeding IsUrlAt
urls-alike = record { errors = url-errors; goes = λ z s b e n. url-goes z s b e; names = url-names }

style-errors : (z : Value ValueState) (n : StyleScan) (b : ℕ) → IsStyleAt z n → (feeding languages).refuses z b ≡ style_feeding.refuses n b
style-errors (ValueOf (OfStyle v)) n b i = ap (option_map style_code) (sym ((one-style v n i).error (style_class b) b))
style-errors (ValueOf (OfKind k)) n b i = absurd i
style-errors (ValueOf (OfUrl u)) n b i = absurd i
style-errors (ValueOf (OfScript v)) n b i = absurd i
style-errors (Deciding k before) n b i = absurd i

style-goes : (z : Value ValueState) (n : StyleScan) (b : ℕ) → IsStyleAt z n → style_feeding.refuses n b ≡ None → IsStyleAt ((feeding languages).feed z b) (style_feeding.feed n b)
style-goes (ValueOf (OfStyle v)) n b i e =
    (one-style v n i).next (style_class b) b (sym ((one-style v n i).error (style_class b) b) ∙ no_map style_code (style_scan_error n (style_class b) b) e)
style-goes (ValueOf (OfKind k)) n b i e = absurd i
style-goes (ValueOf (OfUrl u)) n b i e = absurd i
style-goes (ValueOf (OfScript v)) n b i e = absurd i
style-goes (Deciding k before) n b i e = absurd i

style-names : (z : Value ValueState) (n : StyleScan) → IsStyleAt z n → (feeding languages).refuses_names z ≡ style_feeding.refuses_names n
style-names (ValueOf (OfStyle v)) n i = refl
style-names (ValueOf (OfKind k)) n i = absurd i
style-names (ValueOf (OfUrl u)) n i = absurd i
style-names (ValueOf (OfScript v)) n i = absurd i
style-names (Deciding k before) n i = absurd i

pub styles-alike : FedAlike (feeding languages) style_feeding IsStyleAt
styles-alike = record { errors = style-errors; goes = style-goes; names = style-names }

-- The place of a style but for its body, which is that of the empty style: the scan state has it.
abbrev pub empty_css : Css
empty_css = css.Code (style_tails false false false)

abbrev pub style_value : Tag → Quotes → ValuePlace
style_value t q = record { tag = t.tag; typed = t.typed; quotes = q; body = body.Css empty_css }

-- A start is where a text begins at its place, and no lexeme is open there.
pub start-of : (n : StyleScan) → is_style_start n ≡ true → style_scan_start (style_scan_place n) ≡ n
start-of n h = empty-texts-keep-styles.starts n h

pub start-whole : (n : StyleScan) → is_style_start n ≡ true → style_scan_cut_error n ≡ None
start-whole n h =
    ap style_scan_cut_error (sym (start-of n h)) ∙ (empty-texts-keep-styles.places (style_scan_place n)).cut_error

-- The scan state of a style: what is refused at a byte, and where it leads, whichever form it has
start-error : (x : Bool) (t : Tag) (q : Quotes) (n : StyleScan) (c : Class) (b : ℕ) → is_style_start n ≡ x
    → scan_error (if x then At (with_style (style_value t q) n) else InStyle (style_value t q) n Closed) c b ≡ style_cause (style_value t q) n Closed c b
start-error true t q n c b h =
    ap (λ (m : StyleScan). first_cause (quoted_error style_feeding q m Closed c b) (at_hand (quotes_error t.tag q c))) (start-of n h)
start-error false t q n c b h = refl

pub style-scan-error : (t : Tag) (q : Quotes) (n : StyleScan) (r : Reference) (c : Class) (b : ℕ)
    → scan_error (style_scan (style_value t q) n r) c b ≡ style_cause (style_value t q) n r c b
style-scan-error t q n Closed c b = start-error (is_style_start n) t q n c b refl
style-scan-error t q n (Open f bytes) c b = refl

start-fed : (t : Tag) (p : Quotes) (n : StyleScan) (c : Class) (b : ℕ) → is_style_start n ≡ true
    → style_fed (style_value t p) (style_scan_start (style_scan_place n)) Closed c b ≡ style_fed (style_value t p) n Closed c b
start-fed t p n c b h = ap (λ (m : StyleScan). style_fed (style_value t p) m Closed c b) (start-of n h)

-- in a value that has begun on each path
abbrev pub HasValue : Quotes → Type 0
HasValue (quotes.Bare x) = x.uq ≡ true
HasValue q = Unit {0}

pub has-value : (q : Quoting) → HasValue (quotes_at q)
has-value DoubleQuoted = tt
has-value SingleQuoted = tt
has-value Unquoted = refl

no : false ≡ true → ⊥
no e = cc

abbrev GoesAlike : Tag → Quotes → Scan → StyleScan → Class → ℕ → Type 0
GoesAlike t q f n c b = scan_next f c b ≡ style_value_next (style_value t q) n Closed c b

start-bare : (begun unbegun : Bool) (t : Tag) (n : StyleScan) (c : Class) (b : ℕ) → begun ≡ true → is_style_start n ≡ true
    → at_hand (quotes_error t.tag (quotes.Bare (record { uq = begun; unbegun = unbegun })) c) ≡ None
    → GoesAlike t (quotes.Bare (record { uq = begun; unbegun = unbegun })) (At (with_style (style_value t (quotes.Bare (record { uq = begun; unbegun = unbegun }))) n)) n c b
start-bare false x t n c b g h e = absurd (no g)
start-bare true x t n White b g h e = refl
start-bare true x t n GreaterThan b g h e = refl
start-bare true x t n QuotationMark b g h e = absurd (given _ e)
start-bare true x t n Apostrophe b g h e = absurd (given _ e)
start-bare true x t n c b g h e = start-fed t bare_begun n c b h

start-next : (t : Tag) (q : Quotes) (n : StyleScan) (c : Class) (b : ℕ) → HasValue q → is_style_start n ≡ true → at_hand (quotes_error t.tag q c) ≡ None
    → GoesAlike t q (At (with_style (style_value t q) n)) n c b
start-next t quotes.Dq n QuotationMark b g h e = refl
start-next t quotes.Dq n c b g h e = start-fed t quotes.Dq n c b h
start-next t quotes.Sq n Apostrophe b g h e = refl
start-next t quotes.Sq n c b g h e = start-fed t quotes.Sq n c b h
start-next t (quotes.Bare x) n c b g h e = start-bare x.uq x.unbegun t n c b g h e

next-by : (x : Bool) (t : Tag) (q : Quotes) (n : StyleScan) (c : Class) (b : ℕ) → HasValue q → is_style_start n ≡ x → at_hand (quotes_error t.tag q c) ≡ None
    → GoesAlike t q (if x then At (with_style (style_value t q) n) else InStyle (style_value t q) n Closed) n c b
next-by true t q n c b g h e = start-next t q n c b g h e
next-by false t q n c b g h e = refl

-- where the quotes refuse nothing
pub style-scan-next : (t : Tag) (q : Quotes) (n : StyleScan) (r : Reference) (c : Class) (b : ℕ) → HasValue q → at_hand (quotes_error t.tag q c) ≡ None
    → scan_next (style_scan (style_value t q) n r) c b ≡ style_value_next (style_value t q) n r c b
style-scan-next t q n Closed c b g e = next-by (is_style_start n) t q n c b g refl e
style-scan-next t q n (Open f bytes) c b g e = refl

-- and the end of a text
reference-by : (x : Bool) (v : ValuePlace) (n : StyleScan) → scan_reference (if x then At (with_style v n) else InStyle v n Closed) ≡ Closed
reference-by true v n = refl
reference-by false v n = refl

pub style-scan-reference : (v : ValuePlace) (n : StyleScan) (r : Reference) → scan_reference (style_scan v n r) ≡ r
style-scan-reference v n Closed = reference-by (is_style_start n) v n
style-scan-reference v n (Open f bytes) = refl

cut-by : (x : Bool) (v : ValuePlace) (n : StyleScan) → scan_cut_error (if x then At (with_style v n) else InStyle v n Closed) ≡ None
cut-by true v n = refl
cut-by false v n = refl

pub style-scan-cut : (v : ValuePlace) (n : StyleScan) (r : Reference) → scan_cut_error (style_scan v n r) ≡ written_error style_feeding n (as_it_stands r)
style-scan-cut v n Closed = cut-by (is_style_start n) v n
style-scan-cut v n (Open f bytes) = refl

-- what is refused of a style at the end of a text, as a lexeme that has begun
abbrev pub style_unfinished : StyleScan → Option Code
style_unfinished n = option_map (λ (e : StyleCutRefusal). style_code e.code) (style_scan_cut_error n)

lexeme-by : (x : Bool) (v : ValuePlace) (n : StyleScan) → is_style_start n ≡ x
    → scan_lexeme_error (if x then At (with_style v n) else InStyle v n Closed) ≡ style_unfinished n
lexeme-by true v n h = ap (option_map (λ (e : StyleCutRefusal). style_code e.code)) (sym (start-whole n h))
lexeme-by false v n h = refl

pub style-scan-lexeme : (v : ValuePlace) (n : StyleScan) (r : Reference)
    → scan_lexeme_error (style_scan v n r) ≡ style_unfinished (feed_bytes style_feeding n (as_it_stands r))
style-scan-lexeme v n Closed = lexeme-by (is_style_start n) v n refl
style-scan-lexeme v n (Open f bytes) = refl

place-by : (x : Bool) (v : ValuePlace) (n : StyleScan) → scan_place (if x then At (with_style v n) else InStyle v n Closed) ≡ with_style v n
place-by true v n = refl
place-by false v n = refl

pub style-scan-place : (v : ValuePlace) (n : StyleScan) (r : Reference)
    → scan_place (style_scan v n r) ≡ with_style v (feed_bytes style_feeding n (as_it_stands r))
style-scan-place v n Closed = place-by (is_style_start n) v n
style-scan-place v n (Open f bytes) = refl

shown-by : (x : Bool) (v : ValuePlace) (n : StyleScan) (bs : List ℕ)
    → scan_shown (if x then At (with_style v n) else InStyle v n Closed) bs ≡ Some (with_style v (style_scan_before n Closed bs))
shown-by true v n bs = refl
shown-by false v n bs = refl

pub style-scan-shown : (v : ValuePlace) (n : StyleScan) (r : Reference) (bs : List ℕ)
    → scan_shown (style_scan v n r) bs ≡ Some (with_style v (style_scan_before n r bs))
style-scan-shown v n Closed bs = shown-by (is_style_start n) v n bs
style-scan-shown v n (Open f bytes) bs = refl

-- A path that has a body is at its place, which is a start.
pub record StyleAtPlace (v : Style Url) (b : Body) : Type 0 where
  pub scan : StyleScan
  pub is : style_scanned v ≡ Some scan
  pub starts : is_style_start scan ≡ true
  pub place : b ≡ body.Css (style_scan_place scan)

none-given : {A : Type 0} (a : A) → None ≡ Some a → ⊥
none-given a e = cc

css-by : (begins : Bool) (o : Option (StyleSpot UrlPart)) (b : Body)
    → (if begins then option_map (λ p. body.Css (style_place p)) o else None) ≡ Some b → (c : Css) × (b ≡ body.Css c)
css-by true (Some p) b e = (style_place p, sym (one_value (body.Css (style_place p)) b e))
css-by true None b e = absurd (none-given b e)
css-by false o b e = absurd (none-given b e)

pub style-at-place : (v : Style Url) (b : Body) → style_body v ≡ Some b → StyleAtPlace v b
style-at-place v b e =
    let n = scan-of-body v b e in
    let c = css-by (may_begin_text v) (part_spot v) b e in
    let own = body-of-scan v n.0 c.0 (has-scan v n.0 n.1) (e ∙ ap Some c.1) in
    record {
      scan = n.0;
      is = n.1;
      starts = subst (λ (m : StyleScan). is_style_start m ≡ true) own.start (empty-texts-keep-styles.places c.0).start;
      place = c.1 ∙ ap body.Css (sym own.place);
    }

-- A hole in a style: what is refused of one path, and the place behind it.
part-hole : (p : UrlPart) → url_hole_error (parts_of p).bad ≡ option_map style_code (url_refusal (parts_hole_error (parts_of p)))
part-hole UrlStart = refl
part-hole (UrlOpen x) = refl
part-hole UrlOpenhole = refl
part-hole UrlPrequery = refl
part-hole UrlQuery = refl
part-hole UrlBad = refl

quoted-hole : (q : Quote) (p : UrlPart)
    → css_hole_error (style_quoted_place q (parts_of p)) ≡ option_map style_code (style_hole_error (style_quoted_place q (parts_of p)))
quoted-hole DoubleQuote p = part-hole p
quoted-hole SingleQuote p = part-hole p

string-hole : (q : Quote) → css_hole_error (style_string_place q) ≡ option_map style_code (style_hole_error (style_string_place q))
string-hole DoubleQuote = refl
string-hole SingleQuote = refl

split-hole : (e : StyleEscape)
    → css_hole_error (style_scan_place (style_split_word e)) ≡ option_map style_code (style_hole_error (style_scan_place (style_split_word e)))
split-hole NoEscape = refl
split-hole AfterBackslash = refl
split-hole (HexDigits k) = refl
split-hole AfterReturn = refl

hole-error : (v : Style Url) (n : StyleScan) → IsStyleScan v n → css_hole_error (style_scan_place n) ≡ option_map style_code (style_hole_error (style_scan_place n))
hole-error _ _ (scans_between k) = refl
hole-error _ _ scans_less_than = refl
hole-error _ _ (scans_word w e) = refl
hole-error _ _ (scans_solidus k) = refl
hole-error _ _ (scans_comment star) = refl
hole-error _ _ (scans_string q e) = string-hole q
hole-error _ _ (scans_behind_hole s l) = refl
hole-error _ _ (scans_split_word e) = split-hole e
hole-error _ _ (scans_solidus_before k) = refl
hole-error _ _ scans_less_than_before = refl
hole-error _ _ scans_star_before = refl
hole-error _ _ scans_fresh = refl
hole-error _ _ (scans_bare u) = part-hole u.part
hole-error _ _ (scans_quoted q e u) = quoted-hole q u.part
hole-error _ _ (scans_ended u) = refl

pub record StyleHole (v : Style Url) (c : Css) : Type 0 where
  pub error : css_hole_error c ≡ option_map style_code (style_hole_error c)
  pub after : style_hole_error c ≡ None → style_body (style_after_hole urls v) ≡ Some (body.Css (style_at_hole c))

hole-by : (v : Style Url) (n : StyleScan) → IsStyleScan v n → is_style_start n ≡ true → StyleHole v (style_scan_place n)
hole-by v n i h = record {
  error = hole-error v n i;
  after = λ e. body-after-hole v n i (sym (one-style v n i).cut_error ∙ start-whole n h) (sym (one-style v n i).hole_error ∙ e);
}

pub one-css : (c d : Css) → body.Css c ≡ body.Css d → c ≡ d
one-css c d e = cc

pub style-hole : (v : Style Url) (c : Css) → style_body v ≡ Some (body.Css c) → StyleHole v c
style-hole v c e =
    let a = style-at-place v (body.Css c) e in
    subst (StyleHole v) (sym (one-css c (style_scan_place a.scan) a.place)) (hole-by v a.scan (has-scan v a.scan a.is) a.starts)

-- What is refused of a reference stands before the byte that breaks it, and before the end of the text.
abbrev pub StandsHere : Option PathCause → Type 0
StandsHere None = Unit {0}
StandsHere (Some x) = (x.back ≡ 0) ⊎ (x.shown ≡ 0)

pub first-here : (o p : Option PathCause) → StandsHere (first_cause o p) → StandsHere o
first-here None p h = tt
first-here (Some x) p h = h

not-back : (back : ℕ) → 1 ≤ back → (back ≡ 0) ⊎ (back ≡ 0) → ⊥
not-back back l (inl e) = omega (arith, l, e)
not-back back l (inr e) = omega (arith, l, e)

here-by : (o : Option Code) (back : ℕ) (rest : Option PathCause) → 1 ≤ back → (StandsHere rest → rest ≡ None)
    → StandsHere (first_cause (cause_back back o) rest) → first_cause (cause_back back o) rest ≡ None
here-by None back rest l more h = more h
here-by (Some e) back rest l more h = absurd (not-back back l h)

flat-here : {S : Type 0} (m : Feeding S) (bs : List ℕ) (back : ℕ) (s : S) → 1 ≤ back → StandsHere (fed_error m s bs false back) → fed_error m s bs false back ≡ None
flat-here m [] back s l h = refl
flat-here m (b ∷ bs) back s l h = here-by (m.refuses s b) back (fed_error m (m.feed s b) bs false back) l (flat-here m bs back (m.feed s b) l) h

pub written-here : {S : Type 0} (m : Feeding S) (bs : List ℕ) (back : ℕ) (s : S) → length bs ≤ back → StandsHere (fed_error m s bs true back) → fed_error m s bs true back ≡ None
written-here m [] back s l h = refl
written-here m (b ∷ bs) back s l h =
    let more : length (b ∷ bs) ≤ back = l in
    here-by (m.refuses s b) back (fed_error m (m.feed s b) bs true (back - 1)) (omega (arith, more)) (written-here m bs (back - 1) (m.feed s b) (omega (arith, more))) h

pub written-is : (equals : Bool) (f : Form) (bytes : List ℕ) → is_written equals f bytes ≡ true → flushed true equals f bytes ≡ 38 ∷ bytes
unfolding is_written
written-is equals f bytes h = (bytes_eq-Decides (flushed true equals f bytes) (38 ∷ bytes)).0 h

flushed-by : {S : Type 0} (m : Feeding S) (s : S) (equals : Bool) (f : Form) (bytes : List ℕ) (written : Bool) → is_written equals f bytes ≡ written
    → StandsHere (fed_error m s (flushed true equals f bytes) written (length bytes + 1)) → fed_error m s (flushed true equals f bytes) written (length bytes + 1) ≡ None
flushed-by m s equals f bytes true e h =
    let l : length (flushed true equals f bytes) ≡ length (38 ∷ bytes) = ap length (written-is equals f bytes e) in
    written-here m (flushed true equals f bytes) (length bytes + 1) s (omega (arith, l)) h
flushed-by m s equals f bytes false e h = flat-here m (flushed true equals f bytes) (length bytes + 1) s (omega arith) h

flushed-here : {S : Type 0} (m : Feeding S) (s : S) (equals : Bool) (f : Form) (bytes : List ℕ) → StandsHere (flushed_error m s equals f bytes) → flushed_error m s equals f bytes ≡ None
flushed-here m s equals f bytes h = flushed-by m s equals f bytes (is_written equals f bytes) refl h

pub ends-no-equals : (q : Quoting) (c : Class) → ends_value q c ≡ true → is_equals_sign c ≡ false
ends-no-equals DoubleQuoted QuotationMark h = refl
ends-no-equals SingleQuoted Apostrophe h = refl
ends-no-equals Unquoted White h = refl
ends-no-equals Unquoted GreaterThan h = refl
ends-no-equals q c h = absurd (no h)

pub language-here : {S : Type 0} (m : Feeding S) (ends : Bool) (s : S) (f : Form) (bytes : List ℕ) (c : Class) (b : ℕ) → turn c f ≡ Breaks → (ends ≡ true → is_equals_sign c ≡ false)
    → StandsHere (language_error m ends s (Open f bytes) c b) → flushed_error m s (is_equals_sign c) f bytes ≡ None
language-here m true s f bytes c b k e h = ap (λ (y : Bool). flushed_error m s y f bytes) (e refl) ∙ flushed-here m s false f bytes h
language-here m false s f bytes c b k e h =
    flushed-here m s (is_equals_sign c) f bytes
    (first-here (flushed_error m s (is_equals_sign c) f bytes) (fed_error m (feed_bytes m s (flushed true (is_equals_sign c) f bytes)) (plain_bytes c b) false 0)
    (subst (λ (z : ReferenceStep). StandsHere (turned_error m s z f bytes c b)) k h))

-- the language of a value between the quotes of a path
pub quoted-at : {S : Type 0} (m : Feeding S) (q : Quoting) (s : S) (r : Reference) (c : Class) (b : ℕ)
    → quoted_error m (quotes_at q) s r c b ≡ language_error m (ends_value q c) s r c b
quoted-at m DoubleQuoted s r c b = refl
quoted-at m SingleQuoted s r c b = refl
quoted-at m Unquoted s r c b = refl

pub broken-here : (q : Quoting) (t : Tag) (n : StyleScan) (f : Form) (bytes : List ℕ) (c : Class) (b : ℕ) → turn c f ≡ Breaks
    → StandsHere (style_cause (style_value t (quotes_at q)) n (Open f bytes) c b) → flushed_error style_feeding n (is_equals_sign c) f bytes ≡ None
broken-here q t n f bytes c b k h =
    language-here style_feeding (ends_value q c) n f bytes c b k (ends-no-equals q c)
    (subst StandsHere (quoted-at style_feeding q n (Open f bytes) c b)
    (first-here (quoted_error style_feeding (quotes_at q) n (Open f bytes) c b) (at_hand (quotes_error t.tag (quotes_at q) c)) h))

pub end-here : (n : StyleScan) (bytes : List ℕ) → StandsHere (written_error style_feeding n bytes) → written_error style_feeding n bytes ≡ None
end-here n bytes h = (let l : length bytes ≤ length bytes = omega arith in written-here style_feeding bytes (length bytes) n l h)
