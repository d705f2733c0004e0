-- A whole text, from the place of one path.
use Rattle.std.proofs.Common.{◌≡◌, ◌≤◌, ℕ, ◌+◌, ◌-◌, zero, suc, List, [], ◌∷◌, ◌++◌, codes, take, drop, nat_lt, ◌<◌, Option, Some, None, Result, Ok, Err, refl, sym, ap, ◌∙◌, subst, arith, Bool, true, false, ◌⊎◌, inl, inr}
use Rattle.std.specs.Prelude.{⊤, is_some, if◌then◌else◌}
use Rattle.std.specs.Option.{option_map}
use Rattle.place_core.specs.page.Classes.{Class, White, Solidus, GreaterThan, Letter, class_of}
use Rattle.place_core.specs.place.Errors.{PathCause, PathRefusal, PathRefuses, TextRead, at_hand, before_cause, deep_behind, end_name_error, fed_behind, fed_places, first_path_refusal, first_places, nests_too_deep, nothing_read, one_script, read_behind, script_byte_refusal, script_cut_refusal, unless_in_script, first_cause, less_error, loose_byte_error, name_goes_on, pending_before, pending_error, split_error, unless_it_goes_on, refusal_from, node, or_place, place_before_bytes, shown_from, shown_place, broken_off, lexeme_error}
use Rattle.place_core.specs.place.LastLexeme.{language_reference}
use Rattle.place_core.specs.page.Contents.{is_name_of, may_be_name_of, pending_bytes}
use Rattle.place_core.specs.page.Html.{ends_value, next}
use Rattle.place_core.specs.page.References.{Reference, Closed, Open}
use Rattle.place_core.specs.place.UrlParts.{parts_of}
use Rattle.place_core.specs.place.ScriptParts.{script_js}
use Rattle.place_core.specs.place.StyleParts.{style_body, style_css}
use Rattle.place_core.specs.place.StatePlaces.{placed, quotes_at, value_spot}
use Rattle.place_core.specs.page.States.{Template, LexState, Text, TagOpen, EndTagOpen, DeclarationOpen, Started, StartedDash, Inside, Dash, DashDash, Bang, Broken, InComment, BogusComment, InDoctype, TagName, WholeTagName, BeforeAttributeName, AttributeName, WholeAttributeName, AfterAttributeName, BeforeAttributeValue, AttributeValue, AfterAttributeValue, SelfClosingStartTag, Characters, Bytes, InLanguage, Pending, Nothing, PendingLess, PendingName, PendingBang, PendingBangDash, PendingOpening, InContent, LessAtCut}
use Rattle.place_core.specs.page.Tags.{Tag, ValueState, OfKind, OfUrl, OfStyle, OfScript, Quoting, languages, ValueOf, Deciding, feed_bytes, is_second_type}
use Rattle.css_lexer.specs.States.{Style}
use Rattle.css_step.specs.StyleScans.{StyleScan, style_scan_place}
use Rattle.place_core.specs.declared.body.Body.{Body}
use Rattle.place_core.specs.declared.body.Body.TheVariants as body
use Rattle.place_core.specs.declared.code.Code.{Code}
use Rattle.place_core.specs.declared.css.Css.{Css}
use Rattle.place_core.specs.declared.element.Element.TheVariants as element
use Rattle.place_core.specs.declared.place.Place.{Place}
use Rattle.place_core.specs.declared.place.Place.TheVariants as place
use Rattle.place_core.specs.declared.step_err.StepErr.{StepErr}
use Rattle.place_core.specs.declared.value_place.ValuePlace.{ValuePlace}
use Rattle.js_lexer.specs.Holes.{script_after_cut}
use Rattle.js_lexer.specs.States.{script_start}
use Rattle.js_step.specs.ScriptScans.{ScriptScan}
use Rattle.html_scan.specs.Scans.{Scan, At, InScript, InStyle, InScriptElement, InStyleElement, element_cause, scan_deep_behind, scan_fed_behind, scan_script_cut_refusal, scan_script_refusal, pending_left, style_less_cause, scan_next, scan_error, scan_place, scan_cut_error, scan_lexeme_error, scan_shown, scan_reference, style_feeding, url_scan, with_body, with_style}
use Rattle.html_step.specs.Laws.{OneBefore, OneText}
use Rattle.html_step.specs.Steps.{after_text, scan_after, scan_read_behind, stepped, unless_refused, unless_broken_off, unless_refused_in_script, unless_too_deep, place_before, with_place_before, or_shown, shown_scan}
use Rattle.html_step.proofs.ElementSteps.{body-css}
use Rattle.html_step.proofs.OnePath.{agrees, ends-agree}
use Rattle.html_step.proofs.ScriptPlaces.{AreBelow, ReferenceBelow, RefusalBelow, bytes-below, first-places-below, places-below}
use Rattle.html_step.proofs.ScriptReads.{ReadFits, begins-fits, fits-next, nil-fits, read-fits}
use Rattle.html_step.proofs.ScriptShown.{script-broken, script-end}
pub use Rattle.html_step.proofs.ScriptShown.{Reaches}
use Rattle.html_step.proofs.ScriptElementReached.{script-between, script-element-shown}
use Rattle.html_step.proofs.ScriptElementSteps.{script-element-at-place}
use Rattle.html_step.proofs.ScriptSteps.{script-at-place}
use Rattle.html_step.proofs.PathScans.{FitsFed, IsScriptShown, TakesEnd, scanned, style_element_scanned, style_value_scanned, url_value, Agrees, Ends, IsShown, WhereScanned, refused_next}
use Rattle.html_step.proofs.StylePaths.{HasValue, StandsHere, end-here, first-here, one-css, style-at-place, style_value}
use Rattle.place_core.specs.declared.kind.Kind.TheVariants as kind
use Rattle.url_lexer.specs.Parts.{UrlPart}
use Rattle.url_lexer.specs.Spots.{where_whole}
use Rattle.url_lexer.specs.States.{Url}
use Rattle.url_lexer.specs.Triples.{Triple, NoTriple, AfterPercent, AfterDigit}

pub none : {A : Type 0} {x : A} → None ≡ Some x → ⊥
none e = cc

first-place : (second : Bool) (a p : Place) → (if second then None else Some a) ≡ Some p → (if second then None else Some (At a)) ≡ Some (At p)
first-place true a p e = absurd (none e)
first-place false a p e = ap (option_map At) e

-- in a URL a path is at a place outside of percent triples
url-place : (q : Quoting) (t : Tag) (x : Triple) (u : UrlPart) (p : Place)
    → value_spot t (quotes_at q) (option_map (λ (a : UrlPart). body.Url (parts_of a)) (where_whole x u)) ≡ Some p
    → Some (url_scan (url_value t (quotes_at q) (parts_of u)) x Closed) ≡ Some (At p)
url-place q t NoTriple u p e = ap (option_map At) e
url-place q t AfterPercent u p e = absurd (none e)
url-place q t AfterDigit u p e = absurd (none e)

-- in the element `style`, outside of lexemes
element-at : (s : Style Url) (p : Place) (o : Option Css) → style_css s ≡ o → option_map place.Style o ≡ Some p
    → scanned (InContent element.Style (InLanguage (OfStyle s)) Nothing) ≡ Some (At p)
element-at s p None h e = absurd (none e)
element-at s p (Some c) h e =
    let a = style-at-place s (body.Css c) (body-css s ∙ ap (option_map body.Css) h) in
    ap (style_element_scanned Nothing) a.is
    ∙ ap (λ (y : Bool). Some (if y then At (place.Style (style_scan_place a.scan)) else InStyleElement a.scan Nothing)) a.starts
    ∙ ap (λ (d : Css). Some (At (place.Style d))) (sym (one-css c (style_scan_place a.scan) a.place)) ∙ ap (option_map At) e

-- in a style, outside of lexemes
style-at : (q : Quoting) (t : Tag) (s : Style Url) (p : Place) (o : Option Body) → style_body s ≡ o → value_spot t (quotes_at q) o ≡ Some p
    → scanned (AttributeValue q t (ValueOf (OfStyle s)) Closed) ≡ Some (At p)
style-at q t s p None h e = absurd (none e)
style-at q t s p (Some x) h e =
    let a = style-at-place s x h in
    let v = style_value t (quotes_at q) in
    ap (λ (o : Option StyleScan). style_value_scanned q t o Closed) a.is
    ∙ ap (λ (y : Bool). Some (if y then At (with_style v a.scan) else InStyle v a.scan Closed)) a.starts
    ∙ ap (λ (y : Body). Some (At (with_body v y))) (sym a.place) ∙ ap (option_map At) e

-- a state that has a place is at it
pub at-place : (s : LexState ValueState) (p : Place) → placed s ≡ Some p → scanned s ≡ Some (At p)
at-place (Text Closed) p e = ap (option_map At) e
at-place (Text (Open f bytes)) p e = absurd (none e)
at-place (TagOpen r) p e = absurd (none e)
at-place (EndTagOpen r) p e = absurd (none e)
at-place (DeclarationOpen r pending) p e = absurd (none e)
at-place (InComment Inside) p e = ap (option_map At) e
at-place (InComment Broken) p e = ap (option_map At) e
at-place (InComment Started) p e = absurd (none e)
at-place (InComment StartedDash) p e = absurd (none e)
at-place (InComment Dash) p e = absurd (none e)
at-place (InComment DashDash) p e = absurd (none e)
at-place (InComment Bang) p e = absurd (none e)
at-place BogusComment p e = absurd (none e)
at-place InDoctype p e = ap (option_map At) e
at-place (TagName ends name) p e = absurd (none e)
at-place (WholeTagName t) p e = ap (option_map At) e
at-place (BeforeAttributeName t) p e = ap (option_map At) e
at-place (AttributeName t name) p e = absurd (none e)
at-place (WholeAttributeName t k) p e = first-place (is_second_type t.typed k) _ p e
at-place (AfterAttributeName t k) p e = first-place (is_second_type t.typed k) _ p e
at-place (BeforeAttributeValue t kind.ScriptType) p e = absurd (none e)
at-place (BeforeAttributeValue t kind.Plain) p e = ap (option_map At) e
at-place (BeforeAttributeValue t kind.NoHole) p e = ap (option_map At) e
at-place (BeforeAttributeValue t kind.Url) p e = ap (option_map At) e
at-place (BeforeAttributeValue t kind.Script) p e = ap (option_map At) e
at-place (BeforeAttributeValue t kind.Style) p e = ap (option_map At) e
at-place (AttributeValue q t (ValueOf (OfKind k)) Closed) p e = ap (option_map At) e
at-place (AttributeValue q t (ValueOf (OfUrl u)) Closed) p e = url-place q t u.triple u.part p e
at-place (AttributeValue q t (ValueOf (OfStyle s)) Closed) p e = style-at q t s p (style_body s) refl e
at-place (AttributeValue q t (ValueOf (OfScript s)) Closed) p e = script-at-place q t s p e
at-place (AttributeValue q t (Deciding k before) Closed) p e = absurd (none e)
at-place (AttributeValue q t v (Open f bytes)) p e = absurd (none e)
at-place (AfterAttributeValue t) p e = ap (option_map At) e
at-place (SelfClosingStartTag t) p e = ap (option_map At) e
at-place (InContent element.Title (Characters Closed) Nothing) p e = ap (option_map At) e
at-place (InContent element.Textarea (Characters Closed) Nothing) p e = ap (option_map At) e
at-place (InContent element.DataBlock (Characters Closed) Nothing) p e = absurd (none e)
at-place (InContent element.Script (Characters Closed) Nothing) p e = absurd (none e)
at-place (InContent element.Style (Characters Closed) Nothing) p e = absurd (none e)
at-place (InContent element.Other (Characters Closed) Nothing) p e = absurd (none e)
at-place (InContent x (Characters (Open f bytes)) Nothing) p e = absurd (none e)
at-place (InContent element.DataBlock Bytes Nothing) p e = ap (option_map At) e
at-place (InContent element.Title Bytes Nothing) p e = absurd (none e)
at-place (InContent element.Textarea Bytes Nothing) p e = absurd (none e)
at-place (InContent element.Script Bytes Nothing) p e = absurd (none e)
at-place (InContent element.Style Bytes Nothing) p e = absurd (none e)
at-place (InContent element.Other Bytes Nothing) p e = absurd (none e)
at-place (InContent element.Style (InLanguage (OfStyle s)) Nothing) p e = element-at s p (style_css s) refl e
at-place (InContent element.Style (InLanguage (OfKind k)) Nothing) p e = absurd (none e)
at-place (InContent element.Style (InLanguage (OfUrl u)) Nothing) p e = absurd (none e)
at-place (InContent element.Style (InLanguage (OfScript s)) Nothing) p e = absurd (none e)
at-place (InContent element.Title (InLanguage v) Nothing) p e = absurd (none e)
at-place (InContent element.Textarea (InLanguage v) Nothing) p e = absurd (none e)
at-place (InContent element.DataBlock (InLanguage v) Nothing) p e = absurd (none e)
at-place (InContent element.Script (InLanguage (OfScript s)) Nothing) p e = script-element-at-place s p (script_js s) refl e
at-place (InContent element.Script (InLanguage (OfKind k)) Nothing) p e = absurd (none e)
at-place (InContent element.Script (InLanguage (OfUrl u)) Nothing) p e = absurd (none e)
at-place (InContent element.Script (InLanguage (OfStyle s)) Nothing) p e = absurd (none e)
at-place (InContent element.Other (InLanguage v) Nothing) p e = absurd (none e)
at-place (InContent x (InLanguage v) LessAtCut) p e = absurd (none e)
at-place (InContent x (Characters r) LessAtCut) p e = absurd (none e)
at-place (InContent element.DataBlock Bytes LessAtCut) p e = ap (option_map At) e
at-place (InContent element.Title Bytes LessAtCut) p e = absurd (none e)
at-place (InContent element.Textarea Bytes LessAtCut) p e = absurd (none e)
at-place (InContent element.Script Bytes LessAtCut) p e = absurd (none e)
at-place (InContent element.Style Bytes LessAtCut) p e = absurd (none e)
at-place (InContent element.Other Bytes LessAtCut) p e = absurd (none e)
at-place (InContent x y PendingLess) p e = absurd (none e)
at-place (InContent x y (PendingName letters)) p e = absurd (none e)
at-place (InContent x y PendingBang) p e = absurd (none e)
at-place (InContent x y PendingBangDash) p e = absurd (none e)
at-place (InContent x y (PendingOpening letters)) p e = absurd (none e)

pub agrees-at : (s : LexState ValueState) (f : Scan) (b : ℕ) → scanned s ≡ Some f → Agrees s f (class_of b) b
agrees-at s f b e = subst (λ (o : Option Scan). WhereScanned o (λ g. Agrees s g (class_of b) b)) e (agrees s (class_of b) b refl)

pub ends-at : (s : LexState ValueState) (f : Scan) → scanned s ≡ Some f → Ends s f
ends-at s f e = subst (λ (o : Option Scan). WhereScanned o (Ends s)) e (ends-agree s)

-- what stepping from the scan state of a path's state says of the path
abbrev pub Says : Result Place PathRefusal → ℕ → TextRead → List ℕ → LexState ValueState → Type 0
Says (Ok q) k since bytes s = (refusal_from k since bytes s ≡ None) × (placed (node bytes s) ≡ Some q)
Says (Err r) k since bytes s = refusal_from k since bytes s ≡ Some r

-- an answer, and what is refused on the path with the place that it comes to
abbrev Answers : Result Place PathRefusal → Option PathRefusal → Option Place → Type 0
Answers (Ok q) o p = (o ≡ None) × (p ≡ Some q)
Answers (Err r) o p = o ≡ Some r

answers-says : (r : Result Place PathRefusal) (k : ℕ) (since : TextRead) (bytes : List ℕ) (s : LexState ValueState)
    → Answers r (refusal_from k since bytes s) (placed (node bytes s)) → Says r k since bytes s
answers-says (Ok q) k since bytes s h = h
answers-says (Err r) k since bytes s h = h

says-answers : (r : Result Place PathRefusal) (k : ℕ) (since : TextRead) (bytes : List ℕ) (s : LexState ValueState)
    → Says r k since bytes s → Answers r (refusal_from k since bytes s) (placed (node bytes s))
says-answers (Ok q) k since bytes s h = h
says-answers (Err r) k since bytes s h = h

script-answer : (k : ℕ) (x : Option PathRefusal) (o : Option PathCause) (r : Result Place PathRefusal) (u : Option PathRefusal) (p : Option Place)
    → (x ≡ None → o ≡ None → Answers r u p) → Answers (unless_refused_in_script k x o r) (unless_in_script k x o u) p
script-answer k None None r u p h = h refl refl
script-answer k None (Some e) r u p h = refl
script-answer k (Some x) o r u p h = refl

deep-answer : (k last : ℕ) (d : Option ℕ) (l : Option Code) (q : Place) (p : Option Place) → (l ≡ None → p ≡ Some q)
    → Answers (unless_too_deep k d (unless_broken_off k last l q)) (first_path_refusal (nests_too_deep k d) (broken_off k last l)) p
deep-answer k last None None q p h = (refl, h refl)
deep-answer k last None (Some e) q p h = refl
deep-answer k last (Some d) l q p h = refl

end-says : (k : ℕ) (since : TextRead) (s : LexState ValueState) (f : Scan) → Ends s f → Says (stepped k since [] f) k since [] s
end-says k since s f a =
    let x = scan_script_cut_refusal k since.fed f in
    let o = scan_cut_error f in
    let taken : x ≡ None → o ≡ None → TakesEnd f = λ h e. record { cut = e; at = k; places = since.fed; scripts = h } in
    let rest = λ (l : Option Code). first_path_refusal (nests_too_deep k since.deep) (broken_off k since.last l) in
    answers-says (stepped k since [] f) k since [] s
    (subst (λ (u : Option PathRefusal). Answers (stepped k since [] f) u (placed (node [] s)))
    (ap (λ (y : Option PathRefusal). unless_in_script k y (scan_cut_error f) (rest (lexeme_error s))) (sym (a.scripts k since.fed))
    ∙ ap (λ (y : Option PathCause). unless_in_script k (script_cut_refusal k since.fed s) y (rest (lexeme_error s))) (sym a.errors))
    (script-answer k x o (unless_too_deep k since.deep (unless_broken_off k since.last (scan_lexeme_error f) (scan_place f))) (rest (lexeme_error s))
    (placed (node [] s))
    (λ h e. subst (λ (l : Option Code). Answers (unless_too_deep k since.deep (unless_broken_off k since.last (scan_lexeme_error f) (scan_place f))) (rest l)
    (placed (node [] s))) (sym (a.lexeme (taken h e)))
    (deep-answer k since.last since.deep (scan_lexeme_error f) (scan_place f) (placed (node [] s)) (λ l. a.place (taken h e))))))

-- what is kept of the bytes that have been read
read-alike : (k : ℕ) (since : TextRead) (s : LexState ValueState) (f : Scan) (c : Class) (b : ℕ) → language_reference s ≡ scan_reference f
    → fed_behind k since.fed s c b ≡ scan_fed_behind k since.fed f c b → deep_behind k since.fed s c b ≡ scan_deep_behind k since.fed f c b
    → read_behind k since s c b ≡ scan_read_behind k since f c b
read-alike k since s f c b e g h = rw (e, g, h) refl

pub says : (bytes : List ℕ) (k : ℕ) (since : TextRead) (s : LexState ValueState) (f : Scan) → scanned s ≡ Some f → FitsFed since.fed s
    → Says (stepped k since bytes f) k since bytes s
says [] k since s f e w = end-says k since s f (ends-at s f e)
says (b ∷ bs) k since s f e w =
    let c = class_of b in
    let a = agrees-at s f b e in
    let x = a.scripts k since.fed w in
    let t = next languages Template s c b in
    let after = scan_read_behind k since f c b in
    let on = refusal_from (k + 1) (read_behind k since s c b) bs t in
    answers-says (stepped k since (b ∷ bs) f) k since (b ∷ bs) s
    (subst (λ (u : Option PathRefusal). Answers (stepped k since (b ∷ bs) f) u (placed (node (b ∷ bs) s)))
    (ap (λ (y : Option PathRefusal). unless_in_script k y (scan_error f c b) on) (sym x.0)
    ∙ ap (λ (y : Option PathCause). unless_in_script k (script_byte_refusal k since.fed s c b) y on) (sym a.errors))
    (script-answer k (scan_script_refusal k since.fed f c b) (scan_error f c b) (stepped (k + 1) after bs (scan_next f c b)) on (placed (node (b ∷ bs) s))
    (λ h n.
    let read = read-alike k since s f c b (ends-at s f e).reference x.1 (x.2 h) in
    subst (λ (z : TextRead). Answers (stepped (k + 1) after bs (scan_next f c b)) (refusal_from (k + 1) z bs t) (placed (node bs t))) (sym read)
    (says-answers (stepped (k + 1) after bs (scan_next f c b)) (k + 1) after bs t
    (says bs (k + 1) after t (scan_next f c b) (a.steps n) (subst (λ (z : TextRead). FitsFed z.fed t) read (fits-next s c b k since.fed)))))))

-- the place that is shown before a byte, up to the one that is refused
refused-late : (k n back : ℕ) → k + suc n ≤ k - back → ⊥
refused-late k n back e = omega (arith, e)

late : {A : Type 0} (k n back shown : ℕ) → (k + suc n ≤ k - back) ⊎ (k + suc n ≤ k - shown) → A
late k n back shown (inl h) = absurd (refused-late k n back h)
late k n back shown (inr h) = absurd (refused-late k n shown h)

late-below : {A : Type 0} (k n at shown : ℕ) → at < k + 1 → shown < k + 1 → (k + suc n ≤ at) ⊎ (k + suc n ≤ shown) → A
late-below k n at shown h i (inl l) = absurd (omega (arith, h, l))
late-below k n at shown h i (inr l) = absurd (omega (arith, i, l))

-- of two that are refused at a byte the one that comes first
before-late-by : {A : Type 0} (k n : ℕ) (x : PathRefusal) (e : PathCause) (y : Bool) → RefusalBelow (k + 1) (Some x)
    → Reaches (k + suc n) (Err (if y then x else record { code = e.code; at = k - e.back; shown = k - e.shown })) → A
before-late-by k n x e true h r = late-below k n x.at x.shown h.0 h.1 r
before-late-by k n x e false h r = late k n e.back e.shown r

before-late : {A : Type 0} (k n : ℕ) (x : PathRefusal) (o : Option PathCause) → RefusalBelow (k + 1) (Some x)
    → Reaches (k + suc n) (Err (before_cause k x o)) → A
before-late k n x None h r = late-below k n x.at x.shown h.0 h.1 r
before-late k n x (Some e) h r = before-late-by k n x e (nat_lt x.at (k - e.back)) h r

pub not-late : (k n : ℕ) (x : Option PathRefusal) (o : Option PathCause) (r : Result Place PathRefusal) → RefusalBelow (k + 1) x
    → Reaches (k + suc n) (unless_refused_in_script k x o r) → (x ≡ None) × (o ≡ None) × Reaches (k + suc n) r
not-late k n None None r w h = (refl, refl, h)
not-late k n None (Some e) r w h = late k n e.back e.shown h
not-late k n (Some x) o r w h = before-late k n x o w h

sooner : (k n a b : ℕ) → (k + suc n ≤ a) ⊎ (k + suc n ≤ b) → (k + 1 + n ≤ a) ⊎ (k + 1 + n ≤ b)
sooner k n a b (inl h) = inl (omega (arith, h))
sooner k n a b (inr h) = inr (omega (arith, h))

pub later : (k n : ℕ) (r : Result Place PathRefusal) → Reaches (k + suc n) r → Reaches (k + 1 + n) r
later k n (Ok q) h = tt
later k n (Err r) h = sooner k n r.at r.shown h

-- What a script refuses on a path does not stand behind the byte at hand.
path-below : (k : ℕ) (since : TextRead) (s : LexState ValueState) (c : Class) (b : ℕ) → ReadFits k since s
    → RefusalBelow (k + 1) (script_byte_refusal k since.fed s c b)
path-below k since (AttributeValue q t (ValueOf (OfScript v)) r) c b w =
    places-below one_script (ends_value q c) k since.fed v (fed_places (ends_value q c) k r c b) w.below (bytes-below (ends_value q c) r c b k w.reference)
path-below k since (AttributeValue q t (ValueOf (OfKind x)) r) c b w = tt
path-below k since (AttributeValue q t (ValueOf (OfUrl u)) r) c b w = tt
path-below k since (AttributeValue q t (ValueOf (OfStyle v)) r) c b w = tt
path-below k since (AttributeValue q t (Deciding x before) r) c b w = tt
path-below k since (BeforeAttributeValue t kind.Script) c b w =
    places-below one_script false k [] (script_after_cut script_start) (first_places k c b) tt (first-places-below c b k)
path-below k since (BeforeAttributeValue t kind.Plain) c b w = tt
path-below k since (BeforeAttributeValue t kind.NoHole) c b w = tt
path-below k since (BeforeAttributeValue t kind.Url) c b w = tt
path-below k since (BeforeAttributeValue t kind.Style) c b w = tt
path-below k since (BeforeAttributeValue t kind.ScriptType) c b w = tt
path-below k since s c b w = tt

pub script-below : (k : ℕ) (since : TextRead) (s : LexState ValueState) (f : Scan) (b : ℕ) → scanned s ≡ Some f → ReadFits k since s
    → RefusalBelow (k + 1) (scan_script_refusal k since.fed f (class_of b) b)
script-below k since s f b e w =
    subst (RefusalBelow (k + 1)) ((agrees-at s f b e).scripts k since.fed w.fits).0 (path-below k since s (class_of b) b w)

-- Up to the byte that is refused what is before the bytes that are left is shown. No reference is open where the text begins.
not-before : (j n back : ℕ) → suc j + n ≤ suc j - back → back ≡ 0
not-before j n back h = omega (arith, h)

stands-here : (j n : ℕ) (o : Option PathCause) (r : Result Place PathRefusal) → Reaches (suc j + n) (unless_refused (suc j) o r) → StandsHere o
stands-here j n None r h = tt
stands-here j n (Some x) r (inl h) = inl (not-before j n x.back h)
stands-here j n (Some x) r (inr h) = inr (not-before j n x.shown h)

-- Nothing is pending there: no reference is open, and no end tag of the element may have begun.
abbrev pub IsBetween : Scan → Type 0
IsBetween (InStyleElement n h) = h ≡ Nothing
IsBetween (InScript v n r) = r ≡ Closed
IsBetween (InScriptElement n h) = h ≡ Nothing
IsBetween f = scan_reference f ≡ Closed

abbrev pub BeginsClosed : ℕ → Scan → Type 0
BeginsClosed k f = k ≡ 0 → IsBetween f

-- What is pending back in the element and comes to nothing at a byte is refused before it.
abbrev PendingTaken : StyleScan → Pending → Type 0
PendingTaken n h = pending_error style_feeding n (pending_bytes h) ≡ None

released-here : (n : StyleScan) (bytes : List ℕ) (rest : Option PathCause)
    → StandsHere (first_cause (pending_error style_feeding n bytes) rest)
    → pending_error style_feeding n bytes ≡ None
released-here n bytes rest k = end-here n bytes (first-here (pending_error style_feeding n bytes) rest k)

abbrev loose-rest : StyleScan → List ℕ → Class → ℕ → Option PathCause
loose-rest n bytes c b = at_hand (loose_byte_error style_feeding (feed_bytes style_feeding n bytes) c b)

less-here : (n : StyleScan) (c : Class) (b : ℕ) → StandsHere (less_error style_feeding n c b)
    → PendingTaken n (pending_before element.Style PendingLess c b)
less-here n Solidus b k = refl
less-here n c b k = released-here n (codes "<") (loose-rest n (codes "<") c b) k

name-here : (n : StyleScan) (grows whole : Bool) (c : Class) (b : ℕ) (letters : List ℕ)
    → StandsHere (end_name_error style_feeding n grows whole c b letters)
    → PendingTaken n (unless_it_goes_on (name_goes_on grows whole c) (PendingName letters))
name-here n true whole (Letter l) b letters k = refl
name-here n true true White b letters k = refl
name-here n true true Solidus b letters k = refl
name-here n true true GreaterThan b letters k = refl
name-here n true true c b letters k = released-here n (codes "</" ++ letters) (loose-rest n (codes "</" ++ letters) c b) k
name-here n true false c b letters k = released-here n (codes "</" ++ letters) (loose-rest n (codes "</" ++ letters) c b) k
name-here n false true White b letters k = refl
name-here n false true Solidus b letters k = refl
name-here n false true GreaterThan b letters k = refl
name-here n false true c b letters k = released-here n (codes "</" ++ letters) (loose-rest n (codes "</" ++ letters) c b) k
name-here n false false (Letter l) b letters k =
    released-here n (codes "</" ++ letters) (loose-rest n (codes "</" ++ letters) (Letter l) b) k
name-here n false false c b letters k = released-here n (codes "</" ++ letters) (loose-rest n (codes "</" ++ letters) c b) k

pending-here : (n : StyleScan) (h : Pending) (c : Class) (b : ℕ) → StandsHere (element_cause n h c b)
    → PendingTaken n (pending_before element.Style h c b)
pending-here n Nothing c b k = refl
pending-here n PendingLess c b k = less-here n c b k
pending-here n LessAtCut c b k = released-here n (codes "<") (loose-rest n (codes "<") c b) k
pending-here n (PendingName letters) c b k =
    name-here n (may_be_name_of element.Style (letters ++ b ∷ [])) (is_name_of element.Style letters) c b letters k
pending-here n PendingBang c b k = released-here n (codes "<!") (loose-rest n (codes "<!") c b) k
pending-here n PendingBangDash c b k = released-here n (codes "<!-") (loose-rest n (codes "<!-") c b) k
pending-here n (PendingOpening letters) c b k = released-here n (codes "<" ++ letters) (loose-rest n (codes "<" ++ letters) c b) k

abbrev pub IsNoScriptScan : Scan → Type 0
IsNoScriptScan (InScript v n r) = ⊥
IsNoScriptScan (InScriptElement n h) = ⊥
IsNoScriptScan f = Unit {0}

pub stands-shown : (f : Scan) (bs : List ℕ) → IsNoScriptScan f → StandsHere (refused_next f bs) → IsShown f bs
stands-shown (InStyleElement n h) [] i k = released-here n (pending_bytes h) (split_error style_less_cause n h) k
stands-shown (InStyleElement n h) (b ∷ bs) i k = pending-here n h (class_of b) b k
stands-shown (InScript v n r) bs i k = absurd i
stands-shown (InScriptElement n h) bs i k = absurd i
stands-shown _ bs i k = inr k

none-shown : (n : StyleScan) (bs : List ℕ) → PendingTaken n (pending_left element.Style Nothing bs)
none-shown n [] = refl
none-shown n (b ∷ bs) = refl

between-shown : (f : Scan) (bs : List ℕ) → IsBetween f → IsShown f bs
between-shown (InStyleElement n h) bs e = subst (λ (x : Pending). PendingTaken n (pending_left element.Style x bs)) (sym e) (none-shown n bs)
between-shown (InScriptElement n h) bs e = script-between n h bs e
between-shown (InScript v n r) bs e = subst (λ (x : Reference). IsScriptShown n x bs) (sym e) tt
between-shown _ bs e = inl e

goes-closed : (k : ℕ) (f : Scan) → BeginsClosed (k + 1) f
goes-closed k f e = absurd (let more : k + 1 ≡ 0 = e in omega (arith, more))

script-is-shown : (k n : ℕ) (since : TextRead) (bytes : List ℕ) (v : ValuePlace) (m : ScriptScan) (x : Reference) → HasValue v.quotes
    → ReferenceBelow k x → AreBelow k since.fed → Reaches (k + n) (stepped k since bytes (InScript v m x)) → IsScriptShown m x bytes
script-is-shown k n since bytes v m Closed g l h r = tt
script-is-shown k n since [] v m (Open f bytes) g l h r =
    script-end k n since.fed v m f bytes
    (unless_too_deep k since.deep (unless_broken_off k since.last None (scan_place (InScript v m (Open f bytes))))) l h r
script-is-shown k n since (b ∷ bs) v m (Open f bytes) g l h r =
    let s = InScript v m (Open f bytes) in
    λ t. script-broken k n since.fed v m f bytes (class_of b) b
    (stepped (k + 1) (scan_read_behind k since s (class_of b) b) bs (scan_next s (class_of b) b)) g t l h r

is-shown : (k n : ℕ) (since : TextRead) (bytes : List ℕ) (s : LexState ValueState) (f : Scan) → scanned s ≡ Some f → ReadFits k since s
    → BeginsClosed k f → Reaches (k + n) (stepped k since bytes f) → IsShown f bytes
is-shown k n since bytes s (At p) e w c r = inl refl
is-shown k n since bytes s (InScriptElement m h) e w c r = script-element-shown k n since bytes m h (ends-at s (InScriptElement m h) e).facts c r
is-shown k n since bytes s (InScript v m x) e w c r =
    let facts = (ends-at s (InScript v m x) e).facts in
    script-is-shown k n since bytes v m x facts.0 (subst (ReferenceBelow k) facts.1 w.reference) w.below r
is-shown zero n since bytes s f e w c r = between-shown f bytes (c refl)
is-shown (suc j) n since [] s f e w c r =
    stands-shown f [] tt
    (stands-here j n (scan_cut_error f) (unless_too_deep (suc j) since.deep (unless_broken_off (suc j) since.last (scan_lexeme_error f) (scan_place f))) r)
is-shown (suc j) n since (b ∷ bs) s f e w c r =
    stands-shown f (b ∷ bs) tt (stands-here j n (scan_error f (class_of b) b)
    (stepped (suc j + 1) (scan_read_behind (suc j) since f (class_of b) b) bs (scan_next f (class_of b) b)) r)

-- what is kept of the bytes fits behind a byte too
fits-behind : (k : ℕ) (since : TextRead) (s : LexState ValueState) (f : Scan) (b : ℕ) → scanned s ≡ Some f → ReadFits k since s
    → scan_script_refusal k since.fed f (class_of b) b ≡ None
    → ReadFits (k + 1) (scan_read_behind k since f (class_of b) b) (next languages Template s (class_of b) b)
fits-behind k since s f b e w h =
    let x = (agrees-at s f b e).scripts k since.fed w.fits in
    subst (λ (z : TextRead). ReadFits (k + 1) z (next languages Template s (class_of b) b))
    (read-alike k since s f (class_of b) b (ends-at s f e).reference x.1 (x.2 h)) (read-fits k since s (class_of b) b w)

-- What a byte of a text leads to that is taken up to a later one.
pub record GoesOn (k n : ℕ) (since : TextRead) (b : ℕ) (bs : List ℕ) (s : LexState ValueState) (f : Scan) : Type 0 where
  pub error : scan_error f (class_of b) b ≡ None
  pub at : scanned (next languages Template s (class_of b) b) ≡ Some (scan_next f (class_of b) b)
  pub fits : ReadFits (k + 1) (scan_read_behind k since f (class_of b) b) (next languages Template s (class_of b) b)
  pub reaches : Reaches (k + 1 + n) (stepped (k + 1) (scan_read_behind k since f (class_of b) b) bs (scan_next f (class_of b) b))

pub goes-on : (k n : ℕ) (since : TextRead) (b : ℕ) (bs : List ℕ) (s : LexState ValueState) (f : Scan) → scanned s ≡ Some f → ReadFits k since s
    → Reaches (k + suc n) (stepped k since (b ∷ bs) f) → GoesOn k n since b bs s f
goes-on k n since b bs s f e w r =
    let g = scan_next f (class_of b) b in
    let after = scan_read_behind k since f (class_of b) b in
    let l = not-late k n (scan_script_refusal k since.fed f (class_of b) b) (scan_error f (class_of b) b) (stepped (k + 1) after bs g)
    (script-below k since s f b e w) r in
    record {
      error = l.1;
      at = (agrees-at s f b e).steps l.1;
      fits = fits-behind k since s f b e w l.0;
      reaches = later k n (stepped (k + 1) after bs g) l.2;
    }

-- likewise behind some bytes
pub is-shown-after : (n : ℕ) (bytes : List ℕ) (k : ℕ) (since : TextRead) (s : LexState ValueState) (f : Scan) → scanned s ≡ Some f → ReadFits k since s
    → BeginsClosed k f → Reaches (k + n) (stepped k since bytes f)
    → IsShown (scan_after (take n bytes) f) (drop n bytes)
is-shown-after zero bytes k since s f e w c r = is-shown k zero since bytes s f e w c r
is-shown-after (suc n) [] k since s f e w c r = is-shown k (suc n) since [] s f e w c r
is-shown-after (suc n) (b ∷ bs) k since s f e w c r =
    let g = scan_next f (class_of b) b in
    let l = goes-on k n since b bs s f e w r in
    is-shown-after n bs (k + 1) (scan_read_behind k since f (class_of b) b) (next languages Template s (class_of b) b) g l.at l.fits
    (goes-closed k g) l.reaches

shown-here : (s : LexState ValueState) (f : Scan) (bs : List ℕ) (o : Option Place) → scanned s ≡ Some f → IsShown f bs
    → or_place (place_before_bytes s bs) o ≡ or_place (scan_shown f bs) o
shown-here s f bs o e i = ap (λ (a : Option Place). or_place a o) ((ends-at s f e).shown bs i)

-- the last place of a path, and the last one of its scan states
pub shown-there : (n : ℕ) (bytes : List ℕ) (k : ℕ) (since : TextRead) (s : LexState ValueState) (f : Scan) (o : Option Place) → scanned s ≡ Some f
    → ReadFits k since s → BeginsClosed k f → Reaches (k + n) (stepped k since bytes f)
    → shown_from n bytes s o ≡ shown_scan n bytes f o
shown-there zero bytes k since s f o e w c r = shown-here s f bytes o e (is-shown k zero since bytes s f e w c r)
shown-there (suc n) [] k since s f o e w c r = shown-here s f [] o e (is-shown k (suc n) since [] s f e w c r)
shown-there (suc n) (b ∷ bs) k since s f o e w c r =
    let g = scan_next f (class_of b) b in
    let l = goes-on k n since b bs s f e w r in
    shown-there n bs (k + 1) (scan_read_behind k since f (class_of b) b) (next languages Template s (class_of b) b) g
    (or_place (place_before_bytes s (b ∷ bs)) o) l.at l.fits (goes-closed k g) l.reaches
    ∙ ap (shown_scan n bs g) (shown-here s f (b ∷ bs) o e (is-shown k (suc n) since (b ∷ bs) s f e w c r))

-- from a place there is always one
or-some : (a o : Option Place) → is_some o ≡ true → is_some (or_place a o) ≡ true
or-some (Some p) o h = refl
or-some None o h = h

has-one : (n : ℕ) (bytes : List ℕ) (f : Scan) (o : Option Place) → is_some o ≡ true → is_some (shown_scan n bytes f o) ≡ true
has-one zero bytes f o h = or-some (scan_shown f bytes) o h
has-one (suc n) [] f o h = or-some (scan_shown f []) o h
has-one (suc n) (b ∷ bs) f o h = has-one n bs (scan_next f (class_of b) b) (or_place (scan_shown f (b ∷ bs)) o) (or-some (scan_shown f (b ∷ bs)) o h)

pub place-shown : (n : ℕ) (bytes : List ℕ) (p : Place) → is_some (shown_scan n bytes (At p) None) ≡ true
place-shown zero bytes p = refl
place-shown (suc n) [] p = refl
place-shown (suc n) (b ∷ bs) p = has-one n bs (scan_next (At p) (class_of b) b) (Some p) refl

some-shown : (o : Option Place) (p : Place) → is_some o ≡ true → o ≡ Some (or_shown o p)
some-shown (Some q) p h = refl
some-shown None p h = cc

pub place-there : (n : ℕ) (bytes : List ℕ) (k : ℕ) (s : LexState ValueState) (p : Place) → placed s ≡ Some p
    → Reaches (k + n) (stepped k nothing_read bytes (At p))
    → shown_place n bytes s ≡ Some (place_before bytes n p)
place-there n bytes k s p e r =
    shown-there n bytes k nothing_read s (At p) None (at-place s p e) (begins-fits s p k e) (λ z. refl) r ∙ some-shown (shown_scan n bytes (At p) None) p (place-shown n bytes p)

-- the whole answer
abbrev pub Whole : Result Place (StepErr Place) → List ℕ → LexState ValueState → Type 0
Whole (Ok q) bytes s = (refusal_from 0 nothing_read bytes s ≡ None) × (placed (node bytes s) ≡ Some q)
Whole (Err e) bytes s = PathRefuses bytes s e

whole-of : (bytes : List ℕ) (p : Place) (s : LexState ValueState) (r : Result Place PathRefusal) → Says r 0 nothing_read bytes s
    → ((at : ℕ) → Reaches (0 + at) r → shown_place at bytes s ≡ Some (place_before bytes at p)) → Whole (with_place_before bytes p r) bytes s
whole-of bytes p s (Ok q) h before = h
whole-of bytes p s (Err r) h before = record { shown = r.shown; stands = h; before = before r.shown (inr (let e : 0 + r.shown ≤ r.shown = omega arith in e)) }

pub whole : (bytes : List ℕ) (p : Place) (s : LexState ValueState) → placed s ≡ Some p → Whole (after_text bytes p) bytes s
whole bytes p s e =
    let f : scanned s ≡ Some (At p) = at-place s p e in
    whole-of bytes p s (stepped 0 nothing_read bytes (At p)) (says bytes 0 nothing_read s (At p) f (nil-fits s)) (λ at h. place-there at bytes 0 s p e h)

pub one-text : OneText
one-text bytes p s h = (
  λ q e. subst (λ (r : Result Place (StepErr Place)). Whole r bytes s) e (whole bytes p s h),
  λ x e. subst (λ (r : Result Place (StepErr Place)). Whole r bytes s) e (whole bytes p s h),
)

abbrev ReachesAnswer : ℕ → Result Place (StepErr Place) → Type 0
ReachesAnswer at (Ok q) = ⊤
ReachesAnswer at (Err e) = at ≤ e.at

reaches : (bytes : List ℕ) (p : Place) (at : ℕ) (r : Result Place PathRefusal) (o : Result Place (StepErr Place)) → with_place_before bytes p r ≡ o → ReachesAnswer at o → Reaches (0 + at) r
reaches bytes p at (Ok q) o e h = tt
reaches bytes p at (Err r) o e h = (let l : at ≤ r.at = subst (ReachesAnswer at) (sym e) h in inl (omega (arith, l)))

one-there : (bytes : List ℕ) (p : Place) (s : LexState ValueState) (at : ℕ) (o : Result Place (StepErr Place)) → placed s ≡ Some p → after_text bytes p ≡ o → ReachesAnswer at o
    → shown_place at bytes s ≡ Some (place_before bytes at p)
one-there bytes p s at o h e r = place-there at bytes 0 s p h (reaches bytes p at (stepped 0 nothing_read bytes (At p)) o e r)

pub one-before : OneBefore
one-before bytes p s at h = (λ q e. one-there bytes p s at (Ok q) h e tt, λ x e l. one-there bytes p s at (Err x) h e l)
