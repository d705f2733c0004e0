-- From the scan state of a path in the element `style`, a byte and the end of a text are as on the path.
use Rattle.std.proofs.Common.{◌≡◌, ℕ, Bool, true, false, List, [], ◌∷◌, ◌++◌, codes, Option, Some, None, if◌then◌else◌, option_map, refl, sym, ap, ◌∙◌}
use Rattle.css_lexer.specs.Elements.{less_than_cut_in, or_less_than}
use Rattle.css_lexer.specs.Classes.{style_class}
use Rattle.css_lexer.specs.Escapes.{StyleEscape, NoEscape, AfterBackslash, HexDigits, AfterReturn}
use Rattle.css_lexer.specs.PartSpots.{may_begin_text, part_spot}
use Rattle.css_lexer.specs.Paths.{style_after_cut}
use Rattle.css_lexer.specs.RefusalCodes.{RefusalCode, StyleCutRefusal}
use Rattle.css_lexer.specs.Refusals.{style_refuses}
use Rattle.css_lexer.specs.Spots.{StyleSpot}
use Rattle.css_lexer.specs.States.{SplitWord, Style, Out}
use Rattle.css_lexer.specs.Urls.{urls}
use Rattle.css_step.specs.StyleScans.{StyleScan, is_style_start, style_scan_error, style_scan_next, style_scan_place, style_split_word}
use Rattle.css_step.specs.StyleScanLaws.{IsStyleScan, scans_between, scans_less_than, scans_word, scans_solidus, scans_comment, scans_string, scans_behind_hole, scans_split_word, scans_solidus_before, scans_less_than_before, scans_star_before, scans_fresh, scans_bare, scans_quoted, scans_ended, style_scanned}
use Rattle.css_step.proofs.OneStylePath.{exact-on-one-style, one-style}
use Rattle.css_step.proofs.StyleBodies.{body-after-cut}
use Rattle.place_core.proofs.Semilattices.{no_map, one_value}
use Rattle.place_core.specs.page.Classes.{Class, White, ExclamationMark, Solidus, LessThan, GreaterThan, Letter, class_of}
use Rattle.place_core.specs.page.Contents.{content_after, is_name_of, may_be_name_of, next_end_name, next_less, next_loose, pending_bytes}
use Rattle.place_core.specs.page.States.{LexState, InContent, InLanguage, Pending, Nothing, PendingLess, LessAtCut, PendingName, PendingBang, PendingBangDash, PendingOpening}
use Rattle.place_core.specs.page.Tags.{ValueState, ValueOf, OfKind, OfUrl, OfStyle, OfScript, feed_bytes, fed_state, language_feeding, languages, style_code, style_cut}
use Rattle.place_core.specs.place.Errors.{PathCause, block_cut_error, cause_back, cut_cause, end_name_error, first_cause, less_error, loose_byte_error, pending_before, pending_error, place_before_bytes, released_error}
use Rattle.place_core.specs.place.StatePlaces.{language_place}
use Rattle.place_core.specs.place.StyleParts.{style_body, style_css, style_place}
use Rattle.place_core.specs.declared.body.Body.{Body}
use Rattle.place_core.specs.declared.body.Body.TheVariants as body
use Rattle.place_core.specs.declared.css.Css.{Css}
use Rattle.place_core.specs.declared.element.Element.{Element}
use Rattle.place_core.specs.declared.element.Element.TheVariants as element
use Rattle.place_core.specs.declared.place.Place.TheVariants as place
use Rattle.html_scan.specs.Scans.{Scan, At, InStyleElement, element_cause, element_less_next, element_name_next, element_next, element_scan, pending_left, released_next, scan_cut_error, scan_error, scan_lexeme_error, scan_next, scan_place, scan_reference, scan_script_cut_refusal, scan_shown, style_feeding, style_less_cause, style_less_cut}
use Rattle.html_step.proofs.ContentsAlike.{content-alike, pending-alike, pending-behind, released-beside}
use Rattle.html_step.proofs.FedAlike.{FedAlike, alike-first, beside, cause-none, first-caused}
use Rattle.html_step.proofs.PathScans.{Agrees, Ends, ScriptFacts, ScriptsAgree, WhereScanned, element_scanned, language_scanned, none-at-hand, scanned, style_element_scanned}
use Rattle.html_step.proofs.ScriptElementSteps.{script-element-ends, script-element-steps}
use Rattle.html_step.proofs.StylePaths.{one-css, start-of, start-whole, style_unfinished, styles-alike}
use Rattle.url_lexer.specs.Parts.{UrlPart}
use Rattle.url_lexer.specs.States.{Url}

-- The states of a path in a style, and what all paths there are kept as.
abbrev pub IsStyleState : ValueState → StyleScan → Type 0
IsStyleState (OfStyle v) n = IsStyleScan v n
IsStyleState (OfKind k) n = ⊥
IsStyleState (OfUrl u) n = ⊥
IsStyleState (OfScript v) n = ⊥

state-errors : (z : ValueState) (n : StyleScan) (b : ℕ) → IsStyleState z n
    → (language_feeding languages).refuses z b ≡ style_feeding.refuses n b
state-errors (OfStyle v) n b i = styles-alike.errors (ValueOf (OfStyle v)) n b i
state-errors (OfKind k) n b i = absurd i
state-errors (OfUrl u) n b i = absurd i
state-errors (OfScript v) n b i = absurd i

state-goes : (z : ValueState) (n : StyleScan) (b : ℕ) → IsStyleState z n → style_feeding.refuses n b ≡ None
    → IsStyleState ((language_feeding languages).feed z b) (style_feeding.feed n b)
state-goes (OfStyle v) n b i e = styles-alike.goes (ValueOf (OfStyle v)) n b i e
state-goes (OfKind k) n b i e = absurd i
state-goes (OfUrl u) n b i e = absurd i
state-goes (OfScript v) n b i e = absurd i

state-names : (z : ValueState) (n : StyleScan) → IsStyleState z n
    → (language_feeding languages).refuses_names z ≡ style_feeding.refuses_names n
state-names (OfStyle v) n i = refl
state-names (OfKind k) n i = absurd i
state-names (OfUrl u) n i = absurd i
state-names (OfScript v) n i = absurd i

pub states-alike : FedAlike (language_feeding languages) style_feeding IsStyleState
states-alike = record { errors = state-errors; goes = state-goes; names = state-names }

-- The scan state where nothing is pending, whichever form it has.
error-by : (x : Bool) (n : StyleScan) (c : Class) (b : ℕ) → is_style_start n ≡ x
    → scan_error (if x then At (place.Style (style_scan_place n)) else InStyleElement n Nothing) c b ≡ element_cause n Nothing c b
error-by true n c b h = ap (λ (m : StyleScan). element_cause m Nothing c b) (start-of n h)
error-by false n c b h = refl

pub element-scan-error : (n : StyleScan) (c : Class) (b : ℕ) → scan_error (element_scan n) c b ≡ element_cause n Nothing c b
element-scan-error n c b = error-by (is_style_start n) n c b refl

next-by : (x : Bool) (n : StyleScan) (c : Class) (b : ℕ) → is_style_start n ≡ x
    → scan_next (if x then At (place.Style (style_scan_place n)) else InStyleElement n Nothing) c b ≡ element_next n c b
next-by true n c b h = ap (λ (m : StyleScan). element_next m c b) (start-of n h)
next-by false n c b h = refl

pub element-scan-next : (n : StyleScan) (c : Class) (b : ℕ) → scan_next (element_scan n) c b ≡ element_next n c b
element-scan-next n c b = next-by (is_style_start n) n c b refl

-- and the end of a text
cut-by : (x : Bool) (n : StyleScan) → scan_cut_error (if x then At (place.Style (style_scan_place n)) else InStyleElement n Nothing) ≡ None
cut-by true n = refl
cut-by false n = refl

pub element-scan-cut : (n : StyleScan) → scan_cut_error (element_scan n) ≡ None
element-scan-cut n = cut-by (is_style_start n) n

lexeme-by : (x : Bool) (n : StyleScan) → is_style_start n ≡ x
    → scan_lexeme_error (if x then At (place.Style (style_scan_place n)) else InStyleElement n Nothing) ≡ style_unfinished n
lexeme-by true n h = ap (option_map (λ (e : StyleCutRefusal). style_code e.code)) (sym (start-whole n h))
lexeme-by false n h = refl

pub element-scan-lexeme : (n : StyleScan) → scan_lexeme_error (element_scan n) ≡ style_unfinished n
element-scan-lexeme n = lexeme-by (is_style_start n) n refl

reference-by : (x : Bool) (n : StyleScan)
    → scan_reference (if x then At (place.Style (style_scan_place n)) else InStyleElement n Nothing) ≡ scan_reference (At place.Text)
reference-by true n = refl
reference-by false n = refl

place-by : (x : Bool) (n : StyleScan)
    → scan_place (if x then At (place.Style (style_scan_place n)) else InStyleElement n Nothing) ≡ place.Style (style_scan_place n)
place-by true n = refl
place-by false n = refl

pub element-scan-place : (n : StyleScan) → scan_place (element_scan n) ≡ place.Style (style_scan_place n)
element-scan-place n = place-by (is_style_start n) n

shown-by : (x : Bool) (n : StyleScan) (bs : List ℕ)
    → scan_shown (if x then At (place.Style (style_scan_place n)) else InStyleElement n Nothing) bs
    ≡ scan_shown (InStyleElement n Nothing) bs
shown-by true n [] = refl
shown-by true n (b ∷ bs) = refl
shown-by false n bs = refl

-- no script is in it
places-by : (x : Bool) (z : ValueState) (n : StyleScan) (c : Class) (b k : ℕ) (places : List ℕ)
    → ScriptsAgree k places (InContent element.Style (InLanguage z) Nothing)
    (if x then At (place.Style (style_scan_place n)) else InStyleElement n Nothing) c b
places-by true z n c b k places = (refl, refl, λ h. refl)
places-by false z n c b k places = (refl, refl, λ h. refl)

script-cut-by : (x : Bool) (n : StyleScan) (k : ℕ) (places : List ℕ)
    → None ≡ scan_script_cut_refusal k places (if x then At (place.Style (style_scan_place n)) else InStyleElement n Nothing)
script-cut-by true n k places = refl
script-cut-by false n k places = refl

facts-by : (x : Bool) (s : LexState ValueState) (n : StyleScan)
    → ScriptFacts s (if x then At (place.Style (style_scan_place n)) else InStyleElement n Nothing)
facts-by true s n = tt
facts-by false s n = tt

-- a byte
there : (z : ValueState) (n : StyleScan) (h : Pending) → IsStyleState z n
    → scanned (InContent element.Style (InLanguage z) h) ≡ element_scanned h n
there (OfStyle s) n h i = ap (style_element_scanned h) (exact-on-one-style.scanned s n i)
there (OfKind k) n h i = absurd i
there (OfUrl u) n h i = absurd i
there (OfScript v) n h i = absurd i

element-loose : (c : Class) (b : ℕ) (z : ValueState) (n : StyleScan) → IsStyleState z n → loose_byte_error style_feeding n c b ≡ None
    → scanned (next_loose languages c b element.Style (InLanguage z)) ≡ Some (element_next n c b)
element-loose LessThan b z n i e = there z n PendingLess i
element-loose _ b z n i e = there (languages.feed z b) (style_scan_next n (style_class b) b) Nothing (states-alike.goes z n b i e)

element-released : (bytes : List ℕ) (c : Class) (b : ℕ) (z : ValueState) (n : StyleScan) → IsStyleState z n
    → released_error style_feeding n bytes c b ≡ None
    → scanned (next_loose languages c b element.Style (content_after languages (InLanguage z) bytes)) ≡ Some (released_next n bytes c b)
element-released bytes c b z n i e =
    let p = released-beside (beside states-alike) bytes c b z n i e in
    element-loose c b (fed_state languages z bytes) (feed_bytes style_feeding n bytes) p.behind p.loose

element-less : (c : Class) (b : ℕ) (z : ValueState) (n : StyleScan) → IsStyleState z n → less_error style_feeding n c b ≡ None
    → scanned (next_less languages c b element.Style (InLanguage z)) ≡ Some (element_less_next n c b)
element-less Solidus b z n i e = there z n (PendingName []) i
element-less ExclamationMark b z n i e = element-released (codes "<") ExclamationMark b z n i e
element-less c b z n i e = element-released (codes "<") c b z n i e

element-name : (grows whole : Bool) (c : Class) (b : ℕ) (letters : List ℕ) (z : ValueState) (n : StyleScan) → IsStyleState z n
    → end_name_error style_feeding n grows whole c b letters ≡ None
    → scanned (next_end_name languages grows whole c b element.Style (InLanguage z) letters)
    ≡ Some (element_name_next n grows whole c b letters)
element-name true whole (Letter l) b letters z n i e = there z n (PendingName (letters ++ b ∷ [])) i
element-name true true White b letters z n i e = refl
element-name true true Solidus b letters z n i e = refl
element-name true true GreaterThan b letters z n i e = refl
element-name true true c b letters z n i e = element-released (codes "</" ++ letters) c b z n i e
element-name true false c b letters z n i e = element-released (codes "</" ++ letters) c b z n i e
element-name false true White b letters z n i e = refl
element-name false true Solidus b letters z n i e = refl
element-name false true GreaterThan b letters z n i e = refl
element-name false true c b letters z n i e = element-released (codes "</" ++ letters) c b z n i e
element-name false false c b letters z n i e = element-released (codes "</" ++ letters) c b z n i e

element-steps : (h : Pending) (s : Style Url) (n : StyleScan) (c : Class) (b : ℕ) → IsStyleScan s n
    → WhereScanned (element_scanned h n) (λ f. Agrees (InContent element.Style (InLanguage (OfStyle s)) h) f c b)
element-steps Nothing s n c b i = record {
  errors = content-alike states-alike element.Style Nothing c b (OfStyle s) n i ∙ sym (element-scan-error n c b);
  scripts = λ k places w. places-by (is_style_start n) (OfStyle s) n c b k places;
  steps = λ e.
      element-loose c b (OfStyle s) n i (none-at-hand (loose_byte_error style_feeding n c b) (sym (element-scan-error n c b) ∙ e))
      ∙ ap Some (sym (element-scan-next n c b));
}
element-steps PendingLess s n c b i = record {
  errors = content-alike states-alike element.Style PendingLess c b (OfStyle s) n i;
  scripts = λ k places w. (refl, refl, λ h. refl);
  steps = λ e. element-less c b (OfStyle s) n i e;
}
element-steps (PendingName letters) s n c b i = record {
  errors = content-alike states-alike element.Style (PendingName letters) c b (OfStyle s) n i;
  scripts = λ k places w. (refl, refl, λ h. refl);
  steps = λ e. element-name (may_be_name_of element.Style (letters ++ b ∷ [])) (is_name_of element.Style letters) c b letters (OfStyle s) n i e;
}
element-steps LessAtCut s n c b i = tt
element-steps PendingBang s n c b i = tt
element-steps PendingBangDash s n c b i = tt
element-steps (PendingOpening letters) s n c b i = tt

where-element : (h : Pending) (s : Style Url) (P : Scan → Type 0) (o : Option StyleScan) → style_scanned s ≡ o
    → ((n : StyleScan) → IsStyleScan s n → WhereScanned (element_scanned h n) P) → WhereScanned (style_element_scanned h o) P
where-element h s P None e f = tt
where-element h s P (Some n) e f = f n (exact-on-one-style.has_scan s n e)

pub language-steps : (h : Pending) (e : Element) (v : ValueState) (c : Class) (b : ℕ)
    → WhereScanned (language_scanned h e v) (λ f. Agrees (InContent e (InLanguage v) h) f c b)
language-steps h element.Style (OfStyle s) c b =
    where-element h s (λ f. Agrees (InContent element.Style (InLanguage (OfStyle s)) h) f c b) (style_scanned s) refl
    (λ n i. element-steps h s n c b i)
language-steps h element.Style (OfKind k) c b = tt
language-steps h element.Style (OfUrl u) c b = tt
language-steps h element.Style (OfScript v) c b = tt
language-steps h element.Script (OfScript v) c b = script-element-steps h v c b
language-steps h element.Script (OfKind k) c b = tt
language-steps h element.Script (OfUrl u) c b = tt
language-steps h element.Script (OfStyle v) c b = tt
language-steps h _ v c b = tt

-- the place where a text ends, and behind a hole
css-by : (begins : Bool) (o : Option (StyleSpot UrlPart))
    → (if begins then option_map (λ p. body.Css (style_place p)) o else None)
    ≡ option_map body.Css (if begins then option_map style_place o else None)
css-by true (Some p) = refl
css-by true None = refl
css-by false o = refl

pub body-css : (v : Style Url) → style_body v ≡ option_map body.Css (style_css v)
body-css v = css-by (may_begin_text v) (part_spot v)

no-body : (b : Body) → None ≡ Some b → ⊥
no-body b e = cc

css-of : (o : Option Css) (c : Css) → option_map body.Css o ≡ Some (body.Css c) → o ≡ Some c
css-of (Some d) c e = ap Some (one-css d c (one_value (body.Css d) (body.Css c) e))
css-of None c e = absurd (no-body (body.Css c) e)

pub css-is : (v : Style Url) (c : Css) → style_body v ≡ Some (body.Css c) → style_css v ≡ Some c
css-is v c e = css-of (style_css v) c (sym (body-css v) ∙ e)

state-place : (z : ValueState) (n : StyleScan) → IsStyleState z n
    → language_place element.Style (languages.after_cut z) ≡ Some (place.Style (style_scan_place n))
state-place (OfStyle s) n i = ap (option_map place.Style) (css-is (style_after_cut urls s) (style_scan_place n) (body-after-cut s n i))
state-place (OfKind k) n i = absurd i
state-place (OfUrl u) n i = absurd i
state-place (OfScript v) n i = absurd i

state-lexeme : (z : ValueState) (n : StyleScan) → IsStyleState z n → languages.refuses_cut z ≡ style_unfinished n
state-lexeme (OfStyle s) n i = ap (option_map (λ (e : StyleCutRefusal). style_code e.code)) (sym (one-style s n i).cut_error)
state-lexeme (OfKind k) n i = absurd i
state-lexeme (OfUrl u) n i = absurd i
state-lexeme (OfScript v) n i = absurd i

-- A `<` that the style does not refuse: whether it may be cut from what follows.
split-less : (e : StyleEscape) → less_than_cut_in {U = Url} (Out (SplitWord e)) ≡ style_less_cut (style_split_word e)
split-less NoEscape = refl
split-less AfterBackslash = refl
split-less (HexDigits k) = refl
split-less AfterReturn = refl

less-cut : (s : Style Url) (n : StyleScan) → IsStyleScan s n → less_than_cut_in s ≡ style_less_cut n
less-cut _ _ (scans_between k) = refl
less-cut _ _ scans_less_than = refl
less-cut _ _ (scans_word w e) = refl
less-cut _ _ (scans_solidus k) = refl
less-cut _ _ (scans_comment star) = refl
less-cut _ _ (scans_string q e) = refl
less-cut _ _ (scans_behind_hole s l) = refl
less-cut _ _ (scans_split_word e) = split-less e
less-cut _ _ (scans_solidus_before k) = refl
less-cut _ _ scans_less_than_before = refl
less-cut _ _ scans_star_before = refl
less-cut _ _ scans_fresh = refl
less-cut _ _ (scans_bare u) = refl
less-cut _ _ (scans_quoted q e u) = refl
less-cut _ _ (scans_ended u) = refl

less-taken : (n : StyleScan) → pending_error style_feeding n (codes "<") ≡ None → style_scan_error n (style_class 60) 60 ≡ None
less-taken n e =
    no_map style_code (style_scan_error n (style_class 60) 60)
    (cause-none 1 (style_feeding.refuses n 60) (first-caused (cause_back 1 (style_feeding.refuses n 60)) None e).0)

state-less : (z : ValueState) (n : StyleScan) → IsStyleState z n → pending_error style_feeding n (codes "<") ≡ None
    → option_map cut_cause (languages.refuses_less z) ≡ style_less_cause n
state-less (OfStyle s) n i e =
    let own : style_refuses urls s 60 ≡ None = sym ((one-style s n i).error (style_class 60) 60) ∙ less-taken n e in
    ap (λ (o : Option RefusalCode). option_map cut_cause (option_map style_cut (or_less_than o (less_than_cut_in s)))) own
    ∙ ap (λ (o : Option StyleCutRefusal). option_map cut_cause (option_map style_cut o)) (less-cut s n i)
state-less (OfKind k) n i e = absurd i
state-less (OfUrl u) n i e = absurd i
state-less (OfScript v) n i e = absurd i

-- the end of a text
pending-place : (bytes : List ℕ) (z : ValueState) (n : StyleScan) → IsStyleState z n → pending_error style_feeding n bytes ≡ None
    → language_place element.Style (languages.after_cut (fed_state languages z bytes))
    ≡ Some (place.Style (style_scan_place (feed_bytes style_feeding n bytes)))
pending-place bytes z n i e =
    state-place (fed_state languages z bytes) (feed_bytes style_feeding n bytes) (pending-behind (beside states-alike) bytes z n i e)

pending-lexeme : (bytes : List ℕ) (z : ValueState) (n : StyleScan) → IsStyleState z n → pending_error style_feeding n bytes ≡ None
    → languages.refuses_cut (fed_state languages z bytes) ≡ style_unfinished (feed_bytes style_feeding n bytes)
pending-lexeme bytes z n i e =
    state-lexeme (fed_state languages z bytes) (feed_bytes style_feeding n bytes) (pending-behind (beside states-alike) bytes z n i e)

-- the place that is shown before the bytes that are left
element-shown : (h : Pending) (bs : List ℕ) (s : Style Url) (n : StyleScan) → IsStyleScan s n
    → pending_error style_feeding n (pending_bytes (pending_left element.Style h bs)) ≡ None
    → place_before_bytes (InContent element.Style (InLanguage (OfStyle s)) h) bs ≡ scan_shown (InStyleElement n h) bs
element-shown h [] s n i e = pending-place (pending_bytes h) (OfStyle s) n i e
element-shown h (b ∷ bs) s n i e = pending-place (pending_bytes (pending_before element.Style h (class_of b) b)) (OfStyle s) n i e

none-left : (bs : List ℕ) (n : StyleScan) → pending_error style_feeding n (pending_bytes (pending_left element.Style Nothing bs)) ≡ None
none-left [] n = refl
none-left (b ∷ bs) n = refl

element-ends : (h : Pending) (s : Style Url) (n : StyleScan) → IsStyleScan s n
    → WhereScanned (element_scanned h n) (Ends (InContent element.Style (InLanguage (OfStyle s)) h))
element-ends Nothing s n i = record {
  errors = sym (element-scan-cut n);
  scripts = λ k places. script-cut-by (is_style_start n) n k places;
  facts = facts-by (is_style_start n) (InContent element.Style (InLanguage (OfStyle s)) Nothing) n;
  lexeme = λ e. state-lexeme (OfStyle s) n i ∙ sym (element-scan-lexeme n);
  reference = sym (reference-by (is_style_start n) n);
  place = λ e. state-place (OfStyle s) n i ∙ ap Some (sym (element-scan-place n));
  shown = λ bs e. element-shown Nothing bs s n i (none-left bs n) ∙ sym (shown-by (is_style_start n) n bs);
}
element-ends PendingLess s n i =
    let bytes = codes "<" in
    let own = option_map cut_cause (languages.refuses_less (OfStyle s)) in
    record {
      errors = ap (λ (o : Option PathCause). first_cause o own) (pending-alike states-alike bytes (OfStyle s) n i)
          ∙ alike-first (pending_error style_feeding n bytes) own (style_less_cause n) (λ e. state-less (OfStyle s) n i e);
      scripts = λ k places. refl;
      facts = tt;
      lexeme = λ e. pending-lexeme bytes (OfStyle s) n i (first-caused (pending_error style_feeding n bytes) (style_less_cause n) e.cut).0;
      reference = refl;
      place = λ e. pending-place bytes (OfStyle s) n i (first-caused (pending_error style_feeding n bytes) (style_less_cause n) e.cut).0;
      shown = λ bs e. element-shown PendingLess bs s n i e;
    }
element-ends (PendingName letters) s n i =
    let bytes = codes "</" ++ letters in
    let split = block_cut_error (PendingName letters) in
    record {
      errors = ap (λ (o : Option PathCause). first_cause o split) (pending-alike states-alike bytes (OfStyle s) n i);
      scripts = λ k places. refl;
      facts = tt;
      lexeme = λ e. pending-lexeme bytes (OfStyle s) n i (first-caused (pending_error style_feeding n bytes) split e.cut).0;
      reference = refl;
      place = λ e. pending-place bytes (OfStyle s) n i (first-caused (pending_error style_feeding n bytes) split e.cut).0;
      shown = λ bs e. element-shown (PendingName letters) bs s n i e;
    }
element-ends LessAtCut s n i = tt
element-ends PendingBang s n i = tt
element-ends PendingBangDash s n i = tt
element-ends (PendingOpening letters) s n i = tt

pub language-ends : (h : Pending) (e : Element) (v : ValueState)
    → WhereScanned (language_scanned h e v) (Ends (InContent e (InLanguage v) h))
language-ends h element.Style (OfStyle s) =
    where-element h s (Ends (InContent element.Style (InLanguage (OfStyle s)) h)) (style_scanned s) refl
    (λ n i. element-ends h s n i)
language-ends h element.Style (OfKind k) = tt
language-ends h element.Style (OfUrl u) = tt
language-ends h element.Style (OfScript v) = tt
language-ends h element.Script (OfScript v) = script-element-ends h v
language-ends h element.Script (OfKind k) = tt
language-ends h element.Script (OfUrl u) = tt
language-ends h element.Script (OfStyle v) = tt
language-ends h _ v = tt
