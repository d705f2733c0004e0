-- From the scan state of a path in a style, a byte and the end of a text are as on the path.
use Rattle.std.proofs.Common.{◌≡◌, ℕ, Bool, true, false, List, [], ◌∷◌, length, Option, Some, None, if◌then◌else◌, inl, inr, refl, sym, ap, subst, ◌∙◌}
use Rattle.std.specs.Prelude.{◌+◌}
use Rattle.std.specs.Option.{option_map}
use Rattle.css_lexer.specs.RefusalCodes.{StyleCutRefusal}
use Rattle.css_lexer.specs.States.{Style, style_start}
use Rattle.css_step.specs.StyleScans.{StyleScan, is_style_start, style_scan_start}
use Rattle.css_step.specs.StyleScanLaws.{IsStyleScan, scans_between, style_scanned}
use Rattle.css_step.proofs.OneStylePath.{exact-on-one-style, one-style}
use Rattle.css_step.proofs.StyleBodies.{body-after-cut}
use Rattle.place_core.specs.page.Classes.{Class, White, QuotationMark, Apostrophe, LessThan, EqualsSign, GreaterThan, GraveAccent, class_of, is_equals_sign}
use Rattle.place_core.specs.place.Errors.{byte_error, at_hand, bare_error, quotes_error, PathCause, fed_error, language_error, first_byte_error, is_written, first_cause, place_before_bytes, value_before, flushed_error}
use Rattle.place_core.specs.page.Html.{next, next_before_value, ends_value}
use Rattle.place_core.specs.page.Paths.{at_cut}
use Rattle.place_core.specs.page.References.{Reference, settled, undone_byte, as_it_stands, Closed, Open, Form, ReferenceStep, Grows, Closes, Breaks, turn, flushed, next_reference}
use Rattle.place_core.specs.place.StatePlaces.{value_spot, value_body, value_body_before, quotes_at, unbegun, placed}
use Rattle.place_core.specs.page.States.{Template, LexState, BeforeAttributeValue, AttributeValue}
use Rattle.place_core.specs.page.Tags.{Tag, Value, ValueOf, Deciding, ValueState, OfKind, OfUrl, OfStyle, OfScript, languages, feeding, feed_bytes, style_code, refuses_cut_of, with_bytes, Quoting, DoubleQuoted, SingleQuoted, Unquoted, cut_value}
use Rattle.place_core.specs.declared.kind.Kind.TheVariants as kind
use Rattle.place_core.specs.declared.place.Place.{Place}
use Rattle.place_core.specs.declared.place.Place.TheVariants as place
use Rattle.place_core.specs.declared.quotes.Quotes.{Quotes}
use Rattle.place_core.specs.declared.value_place.ValuePlace.{ValuePlace}
use Rattle.html_scan.specs.Scans.{Scan, At, InStyle, scan_script_cut_refusal, value_next, quoted_error, style_before, style_cause, style_fed, style_feeding, style_scan, style_scan_before, style_value_next, with_style, written_error}
use Rattle.html_step.proofs.FedAlike.{beside, fed-alike, fed-beside, first-byte-alike, first-caused, language-alike, undone-beside}
use Rattle.html_step.proofs.StylePaths.{IsStyleAt, broken-here, empty_css, end-here, has-value, quoted-at, style-scan-cut, style-scan-error, style-scan-lexeme, style-scan-next, style-scan-place, style-scan-reference, style-scan-shown, style_unfinished, style_value, styles-alike}
use Rattle.url_lexer.specs.States.{Url}
use Rattle.url_lexer.specs.Triples.{NoTriple}
use Rattle.html_step.proofs.PathScans.{scanned, style_value_scanned, value_scanned, Agrees, Ends, IsShown, ScriptFacts, ScriptsAgree, WhereScanned, same-with, some, tag-ends, with-fed}

-- Styles: what the bytes that are fed make of the scan state
pub style-there : (q : Quoting) (t : Tag) (z : Value ValueState) (n : StyleScan) (r : Reference) → IsStyleAt z n
    → value_scanned q t z r ≡ Some (style_scan (style_value t (quotes_at q)) n r)
style-there q t (ValueOf (OfStyle s)) n r i = ap (λ (o : Option StyleScan). style_value_scanned q t o r) (exact-on-one-style.scanned s n i)
style-there q t (ValueOf (OfKind k)) n r i = absurd i
style-there q t (ValueOf (OfUrl u)) n r i = absurd i
style-there q t (ValueOf (OfScript v)) n r i = absurd i
style-there q t (Deciding k before) n r i = absurd i

style-goes : (q : Quoting) (t : Tag) (s : Style Url) (n : StyleScan) (r : Reference) (c : Class) (b : ℕ) → IsStyleScan s n
    → language_error style_feeding false n r c b ≡ None
    → value_scanned q t (with_bytes languages (ValueOf (OfStyle s)) (undone_byte true r c b)) (next_reference r c b)
    ≡ Some (style_fed (style_value t (quotes_at q)) n r c b)
style-goes q t s n r c b i e =
    let bytes = undone_byte true r c b in
    ap (λ (z : Value ValueState). value_scanned q t z (next_reference r c b)) (with-fed (ValueOf (OfStyle s)) bytes)
    ∙ style-there q t (feed_bytes (feeding languages) (ValueOf (OfStyle s)) bytes) (feed_bytes style_feeding n bytes) (next_reference r c b)
    (undone-beside (beside styles-alike) r c b (ValueOf (OfStyle s)) n i e)

style-next : (q : Quoting) (t : Tag) (s : Style Url) (n : StyleScan) (r : Reference) (c : Class) (b : ℕ) → IsStyleScan s n
    → language_error style_feeding (ends_value q c) n r c b ≡ None → at_hand (quotes_error t.tag (quotes_at q) c) ≡ None
    → scanned (next languages Template (AttributeValue q t (ValueOf (OfStyle s)) r) c b)
    ≡ Some (style_value_next (style_value t (quotes_at q)) n r c b)
style-next DoubleQuoted t s n r QuotationMark b i l e = rw (same-with t (settled true r) (OfStyle s)) refl
style-next DoubleQuoted t s n r c b i l e = style-goes DoubleQuoted t s n r c b i l
style-next SingleQuoted t s n r Apostrophe b i l e = rw (same-with t (settled true r) (OfStyle s)) refl
style-next SingleQuoted t s n r c b i l e = style-goes SingleQuoted t s n r c b i l
style-next Unquoted t s n r White b i l e = rw (same-with t (settled true r) (OfStyle s)) refl
style-next Unquoted t s n r GreaterThan b i l e = rw (same-with t (settled true r) (OfStyle s)) (tag-ends t.tag)
style-next Unquoted t s n r QuotationMark b i l e = absurd (some _ e)
style-next Unquoted t s n r Apostrophe b i l e = absurd (some _ e)
style-next Unquoted t s n r LessThan b i l e = absurd (some _ e)
style-next Unquoted t s n r EqualsSign b i l e = absurd (some _ e)
style-next Unquoted t s n r GraveAccent b i l e = absurd (some _ e)
style-next Unquoted t s n r c b i l e = style-goes Unquoted t s n r c b i l

-- where one begins
abbrev begun_style : StyleScan
begun_style = style_scan_start empty_css

begin-style : (t : Tag) (c : Class) (b : ℕ) → first_byte_error style_feeding begun_style c b ≡ None
    → at_hand (bare_error t.tag (record { uq = false; unbegun = true }) c) ≡ None
    → scanned (next_before_value languages c b t kind.Style) ≡ Some (value_next (style_value t unbegun) NoTriple Closed c b)
begin-style t White b l n = refl
begin-style t QuotationMark b l n = refl
begin-style t Apostrophe b l n = refl
begin-style t GreaterThan b l n = tag-ends t.tag
begin-style t LessThan b l n = absurd (some _ n)
begin-style t EqualsSign b l n = absurd (some _ n)
begin-style t GraveAccent b l n = absurd (some _ n)
begin-style t c b l n = style-goes Unquoted t style_start begun_style Closed c b (scans_between false) l

-- what is refused of them
style-errors : (q : Quoting) (t : Tag) (s : Style Url) (n : StyleScan) (r : Reference) (c : Class) (b : ℕ) → IsStyleScan s n
    → byte_error (AttributeValue q t (ValueOf (OfStyle s)) r) c b ≡ style_cause (style_value t (quotes_at q)) n r c b
style-errors q t s n r c b i =
    let own = language_error (feeding languages) (ends_value q c) (ValueOf (OfStyle s)) r c b in
    ap (λ (x : Tag). first_cause own (at_hand (quotes_error x.tag (quotes_at q) c))) (same-with t (settled true r) (OfStyle s))
    ∙ ap (λ (o : Option PathCause). first_cause o (at_hand (quotes_error t.tag (quotes_at q) c)))
    (language-alike styles-alike (ends_value q c) r c b (ValueOf (OfStyle s)) n i ∙ sym (quoted-at style_feeding q n r c b))

-- no script is in the scan state of a style
start-places : (x : Bool) (q : Quoting) (t : Tag) (s : Style Url) (p : Quotes) (n : StyleScan) (c : Class) (b k : ℕ) (places : List ℕ)
    → ScriptsAgree k places (AttributeValue q t (ValueOf (OfStyle s)) Closed)
    (if x then At (with_style (style_value t p) n) else InStyle (style_value t p) n Closed) c b
start-places true q t s p n c b k places = (refl, refl, λ h. refl)
start-places false q t s p n c b k places = (refl, refl, λ h. refl)

style-scan-places : (q : Quoting) (t : Tag) (s : Style Url) (p : Quotes) (n : StyleScan) (r : Reference) (c : Class) (b k : ℕ) (places : List ℕ)
    → ScriptsAgree k places (AttributeValue q t (ValueOf (OfStyle s)) r) (style_scan (style_value t p) n r) c b
style-scan-places q t s p n Closed c b k places = start-places (is_style_start n) q t s p n c b k places
style-scan-places q t s p n (Open f bytes) c b k places = (refl, refl, λ h. refl)

start-script-cut : (x : Bool) (v : ValuePlace) (n : StyleScan) (k : ℕ) (places : List ℕ)
    → None ≡ scan_script_cut_refusal k places (if x then At (with_style v n) else InStyle v n Closed)
start-script-cut true v n k places = refl
start-script-cut false v n k places = refl

style-scan-script-cut : (v : ValuePlace) (n : StyleScan) (r : Reference) (k : ℕ) (places : List ℕ)
    → None ≡ scan_script_cut_refusal k places (style_scan v n r)
style-scan-script-cut v n Closed k places = start-script-cut (is_style_start n) v n k places
style-scan-script-cut v n (Open f bytes) k places = refl

start-facts : (x : Bool) (s : LexState ValueState) (v : ValuePlace) (n : StyleScan)
    → ScriptFacts s (if x then At (with_style v n) else InStyle v n Closed)
start-facts true s v n = tt
start-facts false s v n = tt

style-scan-facts : (s : LexState ValueState) (v : ValuePlace) (n : StyleScan) (r : Reference) → ScriptFacts s (style_scan v n r)
style-scan-facts s v n Closed = start-facts (is_style_start n) s v n
style-scan-facts s v n (Open f bytes) = tt

pub style-steps : (q : Quoting) (t : Tag) (s : Style Url) (n : StyleScan) (r : Reference) (c : Class) (b : ℕ) → IsStyleScan s n
    → Agrees (AttributeValue q t (ValueOf (OfStyle s)) r) (style_scan (style_value t (quotes_at q)) n r) c b
style-steps q t s n r c b i =
    let bytes = at_hand (quotes_error t.tag (quotes_at q) c) in
    let own = quoted_error style_feeding (quotes_at q) n r c b in
    record {
      errors = style-errors q t s n r c b i ∙ sym (style-scan-error t (quotes_at q) n r c b);
      scripts = λ k places w. style-scan-places q t s (quotes_at q) n r c b k places;
      steps = λ e.
          let p = first-caused own bytes (sym (style-scan-error t (quotes_at q) n r c b) ∙ e) in
          style-next q t s n r c b i (sym (quoted-at style_feeding q n r c b) ∙ p.0) p.1 ∙ ap Some (sym (style-scan-next t (quotes_at q) n r c b (has-value q) p.1));
    }

pub where-styled : (q : Quoting) (t : Tag) (s : Style Url) (r : Reference) (P : Scan → Type 0) (o : Option StyleScan) → style_scanned s ≡ o
    → ((n : StyleScan) → IsStyleScan s n → P (style_scan (style_value t (quotes_at q)) n r)) → WhereScanned (style_value_scanned q t o r) P
where-styled q t s r P None e f = tt
where-styled q t s r P (Some n) e f = f n (exact-on-one-style.has_scan s n e)

pub begin-style-steps : (t : Tag) (c : Class) (b : ℕ) → Agrees (BeforeAttributeValue t kind.Style) (At (place.Value (style_value t unbegun))) c b
begin-style-steps t c b =
    let quotes = at_hand (bare_error t.tag (record { uq = false; unbegun = true }) c) in
    record {
      errors = ap (λ (o : Option PathCause). first_cause o quotes) (first-byte-alike styles-alike c b (ValueOf (OfStyle style_start)) begun_style (scans_between false));
      scripts = λ k places w. (refl, refl, λ h. refl);
      steps = λ e. (let p = first-caused (first_byte_error style_feeding begun_style c b) quotes e in begin-style t c b p.0 p.1);
    }

-- the end of a text in a style: its body, and the lexeme that is open
abbrev pub at_style : Tag → Quoting → StyleScan → Place
at_style t q n = with_style (style_value t (quotes_at q)) n

style-cut-place : (q : Quoting) (t : Tag) (z : Value ValueState) (n : StyleScan) → IsStyleAt z n
    → value_spot t (quotes_at q) (value_body (cut_value languages z)) ≡ Some (at_style t q n)
style-cut-place q t (ValueOf (OfStyle s)) n i = ap (value_spot t (quotes_at q)) (body-after-cut s n i)
style-cut-place q t (ValueOf (OfKind k)) n i = absurd i
style-cut-place q t (ValueOf (OfUrl u)) n i = absurd i
style-cut-place q t (ValueOf (OfScript v)) n i = absurd i
style-cut-place q t (Deciding k before) n i = absurd i

-- the one that is shown is that of the end of a text
style-place-before : (q : Quoting) (t : Tag) (z : Value ValueState) (n : StyleScan) → IsStyleAt z n
    → value_spot t (quotes_at q) (value_body_before z) ≡ Some (at_style t q n)
style-place-before q t (ValueOf (OfStyle s)) n i = ap (value_spot t (quotes_at q)) (body-after-cut s n i)
style-place-before q t (ValueOf (OfKind k)) n i = absurd i
style-place-before q t (ValueOf (OfUrl u)) n i = absurd i
style-place-before q t (ValueOf (OfScript v)) n i = absurd i
style-place-before q t (Deciding k before) n i = absurd i

style-cut-lexeme : (z : Value ValueState) (n : StyleScan) → IsStyleAt z n → refuses_cut_of languages z ≡ style_unfinished n
style-cut-lexeme (ValueOf (OfStyle s)) n i = ap (option_map (λ (e : StyleCutRefusal). style_code e.code)) (sym (one-style s n i).cut_error)
style-cut-lexeme (ValueOf (OfKind k)) n i = absurd i
style-cut-lexeme (ValueOf (OfUrl u)) n i = absurd i
style-cut-lexeme (ValueOf (OfScript v)) n i = absurd i
style-cut-lexeme (Deciding k before) n i = absurd i

pub style-fed-there : (s : Style Url) (n : StyleScan) (bytes : List ℕ) (written : Bool) (back : ℕ) → IsStyleScan s n
    → fed_error style_feeding n bytes written back ≡ None → IsStyleAt (with_bytes languages (ValueOf (OfStyle s)) bytes) (feed_bytes style_feeding n bytes)
style-fed-there s n bytes written back i e =
    subst (λ (z : Value ValueState). IsStyleAt z (feed_bytes style_feeding n bytes)) (sym (with-fed (ValueOf (OfStyle s)) bytes))
    (fed-beside (beside styles-alike) bytes written back (ValueOf (OfStyle s)) n i e).1

style-place : (q : Quoting) (t : Tag) (s : Style Url) (n : StyleScan) (r : Reference) → IsStyleScan s n
    → written_error style_feeding n (as_it_stands r) ≡ None
    → placed (at_cut languages (AttributeValue q t (ValueOf (OfStyle s)) r)) ≡ Some (at_style t q (feed_bytes style_feeding n (as_it_stands r)))
style-place q t s n r i e =
    style-cut-place q t (with_bytes languages (ValueOf (OfStyle s)) (as_it_stands r)) (feed_bytes style_feeding n (as_it_stands r))
    (style-fed-there s n (as_it_stands r) true (length (as_it_stands r)) i e)

pub style-turned : (z : ReferenceStep) (q : Quoting) (t : Tag) (s : Style Url) (n : StyleScan) (c : Class) (f : Form) (bytes : List ℕ) → IsStyleScan s n
    → (z ≡ Breaks → flushed_error style_feeding n (is_equals_sign c) f bytes ≡ None)
    → value_spot t (quotes_at q) (value_body_before (value_before z (ValueOf (OfStyle s)) c f bytes)) ≡ Some (at_style t q (style_before z n c f bytes))
style-turned Breaks q t s n c f bytes i e =
    let broken = flushed true (is_equals_sign c) f bytes in
    style-place-before q t (with_bytes languages (ValueOf (OfStyle s)) broken) (feed_bytes style_feeding n broken)
    (style-fed-there s n broken (is_written (is_equals_sign c) f bytes) (length bytes + 1) i (e refl))
style-turned (Grows g) q t s n c f bytes i e = style-place-before q t (ValueOf (OfStyle s)) n i
style-turned Closes q t s n c f bytes i e = style-place-before q t (ValueOf (OfStyle s)) n i

not-open : (f : Form) (bytes : List ℕ) → Open f bytes ≡ Closed → ⊥
not-open f bytes e = cc

style-shown : (q : Quoting) (t : Tag) (s : Style Url) (n : StyleScan) (r : Reference) (bs : List ℕ) → IsStyleScan s n
    → IsShown (style_scan (style_value t (quotes_at q)) n r) bs
    → place_before_bytes (AttributeValue q t (ValueOf (OfStyle s)) r) bs ≡ Some (at_style t q (style_scan_before n r bs))
style-shown q t s n Closed bs i h = style-place q t s n Closed i refl
style-shown q t s n (Open f bytes) bs i (inl h) = absurd (not-open f bytes h)
style-shown q t s n (Open f bytes) [] i (inr h) =
    style-place-before q t (with_bytes languages (ValueOf (OfStyle s)) (38 ∷ bytes)) (feed_bytes style_feeding n (38 ∷ bytes))
    (style-fed-there s n (38 ∷ bytes) true (length (38 ∷ bytes)) i (end-here n (38 ∷ bytes) h))
style-shown q t s n (Open f bytes) (b ∷ bs) i (inr h) =
    style-turned (turn (class_of b) f) q t s n (class_of b) f bytes i (λ k. broken-here q t n f bytes (class_of b) b k h)

pub style-ends : (q : Quoting) (t : Tag) (s : Style Url) (n : StyleScan) (r : Reference) → IsStyleScan s n
    → Ends (AttributeValue q t (ValueOf (OfStyle s)) r) (style_scan (style_value t (quotes_at q)) n r)
style-ends q t s n r i =
    let v = style_value t (quotes_at q) in
    let bytes = as_it_stands r in
    record {
      errors = fed-alike styles-alike bytes true (length bytes) (ValueOf (OfStyle s)) n i ∙ sym (style-scan-cut v n r);
      scripts = λ k places. style-scan-script-cut v n r k places;
      facts = style-scan-facts (AttributeValue q t (ValueOf (OfStyle s)) r) v n r;
      lexeme = λ e.
          style-cut-lexeme (with_bytes languages (ValueOf (OfStyle s)) bytes) (feed_bytes style_feeding n bytes)
          (style-fed-there s n bytes true (length bytes) i (sym (style-scan-cut v n r) ∙ e.cut)) ∙ sym (style-scan-lexeme v n r);
      reference = sym (style-scan-reference v n r);
      place = λ e. style-place q t s n r i (sym (style-scan-cut v n r) ∙ e.cut) ∙ ap Some (sym (style-scan-place v n r));
      shown = λ bs h. style-shown q t s n r bs i h ∙ sym (style-scan-shown v n r bs);
    }
