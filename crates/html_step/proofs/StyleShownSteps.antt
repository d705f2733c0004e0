-- What shows that a byte is refused in a value that is a style: at a place, in a lexeme or a reference, and where a reference that the byte breaks
-- has been read; and the end of a text in it.
use Rattle.std.proofs.Common.{◌≡◌, ℕ, Bool, true, false, ◌||◌, List, length, Option, Some, None, option_map, if◌then◌else◌, refl, sym, ap, ◌∙◌, subst}
use Rattle.css_lexer.specs.RefusalCodes.{StyleCutRefusal}
use Rattle.css_step.proofs.StyleGrowth.{styles-grow}
use Rattle.css_step.specs.StyleOrigins.{style_scan_parts}
use Rattle.css_step.specs.StyleScans.{StyleScan, is_style_start, style_scan_place, style_scan_start}
use Rattle.place_core.proofs.Semilattices.{none_some}
use Rattle.place_core.specs.page.Classes.{Class, class_of, is_equals_sign}
use Rattle.place_core.specs.page.Html.{ends_value}
use Rattle.place_core.specs.page.References.{Form, Reference, Closed, Open, ReferenceStep, Breaks, as_it_stands, flushed, plain_bytes, turn, undone_byte}
use Rattle.place_core.specs.page.Tags.{feed_bytes, style_code, DoubleQuoted, SingleQuoted, Unquoted}
use Rattle.place_core.specs.place.Errors.{PathCause, at_hand, body_error, fed_error, first_cause, first_error, flushed_error, language_error, quotes_error, turned_error}
use Rattle.place_core.specs.place.Places.{Has, is_whole, joined_bodies, quotes_have, typed_has}
use Rattle.place_core.specs.declared.body.Body.{Body}
use Rattle.place_core.specs.declared.body.Body.TheVariants as body
use Rattle.place_core.specs.declared.code.Code.{Code}
use Rattle.place_core.specs.declared.code.Code.TheVariants as code
use Rattle.place_core.specs.declared.css.Css.{Css}
use Rattle.place_core.specs.declared.member.Member.{Member}
use Rattle.place_core.specs.declared.place.Place.TheVariants as place
use Rattle.place_core.specs.declared.quotes.Quotes.{Quotes}
use Rattle.place_core.specs.declared.quotes.Quotes.TheVariants as quotes
use Rattle.place_core.specs.declared.value_place.ValuePlace.{ValuePlace}
use Rattle.html_scan.specs.Scans.{Scan, At, InStyle, body_cause, place_cause, quoted_error, scan_cut_error, scan_error, scan_lexeme_error, style_cause, style_feeding, value_cause, with_style}
use Rattle.html_step.specs.Laws.{EvidenceData, apart, one, two}
use Rattle.html_step.specs.Origins.{body_or_quotes, body_parts, end_shows, is_apart, quotes_show, scan_parts, shown_member, style_fed_shown, style_or_quotes, style_value_shows, value_shows}
use Rattle.html_step.proofs.BelowScans.{below-at-value, below-style}
use Rattle.html_step.proofs.Characters.{ReferencePlain, stands-no-colon}
use Rattle.html_step.proofs.FromValues.{value_has}
use Rattle.html_step.proofs.OwnScans.{IsOwn}
use Rattle.html_step.proofs.OwnStyles.{own-unbegun}
use Rattle.html_step.proofs.PlaceParts.{ValueBelow}
use Rattle.html_step.proofs.ReadScans.{read_style}
use Rattle.html_step.proofs.ScanOrder.{HasBegun, ScanHas, ScanValid, StyleValueBelow, begun-open, starts-in-order}
use Rattle.html_step.proofs.ShownBytes.{ApartShown, ShownByte, ShownCut, ShownLexeme}
use Rattle.html_step.proofs.StyleFedShown.{one-fed, none-fed}
use Rattle.html_step.proofs.StyleOrder.{scan-of-start, style-fed-grow}
use Rattle.html_step.proofs.StylePaths.{empty_css, ends-no-equals}
use Rattle.html_step.proofs.StyleQuoted.{StyleShown, on_member, on_met, on_name, on_two, style-quoted}
use Rattle.html_step.proofs.StyleShown.{EmptyUnbegun, StyleApart, StyleError, StyleEvidence, StyleOne, style-apart, style-evidence}
use Rattle.html_step.proofs.StyleValues.{css-set, in-scan, out-scan, style_has}

no : false ≡ true → ⊥
no e = cc

-- The style of a place, and those of the places below it.
one-css : (c d : Css) → body.Css c ≡ body.Css d → c ≡ d
one-css c d e = cc

css-below : (b : Body) (s : Css) → joined_bodies b (body.Css s) ≡ Some (body.Css s)
    → (p : Css) × (b ≡ body.Css p) × (joined_bodies (body.Css p) (body.Css s) ≡ Some (body.Css s))
css-below (body.Css p) s h = (p, refl, h)
css-below b s h = absurd (none_some (body.Css s) h)

record PlaceStyle (u v : ValuePlace) (s : Css) : Type 0 where
  css : Css
  is : u.body ≡ body.Css css
  below : StyleValueBelow u v (style_scan_start css) (style_scan_start s)

place-style : (u v : ValuePlace) (s : Css) → v.body ≡ body.Css s → ValueBelow u v → PlaceStyle u v s
place-style u v s d l =
    let p = css-below u.body s (subst (λ (z : Body). joined_bodies u.body z ≡ Some z) d l.body) in
    record { css = p.0; is = p.1; below = record { tag = l.tag; typed = l.typed; quotes = l.quotes; scan = starts-in-order p.0 s p.2 } }

-- its members, and why a byte is refused
has-in : (u : ValuePlace) (p : Css) (y : Member) → u.body ≡ body.Css p → style_has u.typed u.quotes (style_scan_start p) y ≡ true
    → Has (place.Value u) y
has-in u p y d h =
    subst (λ (z : Body). value_has u.typed u.quotes z y ≡ true) (sym d)
    (subst (λ (z : Bool). (is_whole y || (typed_has u.typed y || (quotes_have u.quotes y || z))) ≡ true) (sym (css-set p y)) h)

has-out : (u : ValuePlace) (p : Css) (y : Member) → u.body ≡ body.Css p → Has (place.Value u) y
    → style_has u.typed u.quotes (style_scan_start p) y ≡ true
has-out u p y d h =
    subst (λ (z : Bool). (is_whole y || (typed_has u.typed y || (quotes_have u.quotes y || z))) ≡ true) (css-set p y)
    (subst (λ (z : Body). value_has u.typed u.quotes z y ≡ true) d h)

place-error : (u : ValuePlace) (p : Css) (c : Class) (b : ℕ) → u.body ≡ body.Css p
    → value_cause u Closed c b ≡ StyleError u (style_scan_start p) Closed c b
place-error u p c b d =
    ap (λ (x : Body). first_cause (body_cause x u.quotes Closed c b) (at_hand (first_error (body_error x) (quotes_error u.tag u.quotes c)))) d

lexeme-error : (u : ValuePlace) (k : StyleScan) (r : Reference) (c : Class) (b : ℕ) → u.body ≡ body.Css empty_css
    → style_cause u k r c b ≡ StyleError u k r c b
lexeme-error u k r c b d =
    ap (λ (x : Body). first_cause (quoted_error style_feeding u.quotes k r c b)
    (at_hand (first_error (body_error x) (quotes_error u.tag u.quotes c)))) d

-- where the value of a path has not begun, the style is empty; in a lexeme it has
own-empty : (u : ValuePlace) (p : Css) → IsOwn (At (place.Value u)) → u.body ≡ body.Css p → EmptyUnbegun u.quotes (style_scan_start p)
own-empty u p i d n = ap style_scan_start (own-unbegun u p i n d)

begun-empty : (q : Quotes) (k : StyleScan) → HasBegun q → EmptyUnbegun q k
begun-empty quotes.Dq k v n = absurd (no (sym n))
begun-empty quotes.Sq k v n = absurd (no (sym n))
begun-empty (quotes.Bare x) k v n = absurd (no (sym n ∙ v.0))

same-start : (u v : ValuePlace) (k : StyleScan) (s z : Css) → v.body ≡ body.Css s → v.body ≡ body.Css z → StyleValueBelow u v k (style_scan_start z)
    → StyleValueBelow u v k (style_scan_start s)
same-start u v k s z d j m = subst (λ (y : Css). StyleValueBelow u v k (style_scan_start y)) (one-css z s (sym j ∙ d)) m

-- At a place: below it are places, and lexemes.
at-one : (v : ValuePlace) (c : Class) (b : ℕ) (e : PathCause) (s : Css) (x : Member) → v.body ≡ body.Css s
    → StyleOne v (style_scan_start s) Closed c b e x → ShownByte (At (place.Value v)) c b e (one x)
at-one v c b e s x d h = (
  has-in v s x d h.0,
  λ g w l o i. below-at-value (λ (g : Scan). ScanValid g → ScanHas g x → IsOwn g → scan_error g c b ≡ Some e) v
      (λ u m w o i. let p = place-style u v s d m in
      place-error u p.css c b p.is ∙ h.1 u (style_scan_start p.css) tt (own-empty u p.css i p.is) p.below (has-out u p.css x p.is o))
      (λ u k z j m w o i. lexeme-error u k Closed c b w.1 ∙ h.1 u k tt (begun-empty u.quotes k w.0) (same-start u v k s z d j m) o) g l w o i,
)

at-apart : (v : ValuePlace) (c : Class) (b : ℕ) (e : PathCause) (s : Css) → v.body ≡ body.Css s → StyleApart v (style_scan_start s) Closed c b e
    → ApartShown (At (place.Value v)) c b e
at-apart v c b e s d h = record {
  there = ap (λ (z : Body). is_apart (body_parts z)) d ∙ h.there;
  code = h.code;
  back = h.back;
  refuses = λ g w l o. below-at-value (λ (g : Scan). ScanValid g → is_apart (scan_parts g) ≡ true → scan_error g c b ≡ Some e) v
      (λ u m w o. let p = place-style u v s d m in
      place-error u p.css c b p.is ∙ h.refuses u (style_scan_start p.css) tt p.below (sym (ap (λ (z : Body). is_apart (body_parts z)) p.is) ∙ o))
      (λ u k z j m w o. lexeme-error u k Closed c b w.1 ∙ h.refuses u k tt (same-start u v k s z d j m) o) g l w o;
}

at-style : (v : ValuePlace) (c : Class) (b : ℕ) (e : PathCause) (s : Css) (y : EvidenceData) → v.body ≡ body.Css s
    → StyleEvidence v (style_scan_start s) (At (place.Value v)) Closed c b e y → ShownByte (At (place.Value v)) c b e y
at-style v c b e s (one x) d h = at-one v c b e s x d h
at-style v c b e s (two x y) d h = h
at-style v c b e s apart d h = at-apart v c b e s d h

-- In a lexeme or a reference.
in-apart : (v : ValuePlace) (n : StyleScan) (r : Reference) (c : Class) (b : ℕ) (e : PathCause) → StyleApart v n r c b e
    → ApartShown (InStyle v n r) c b e
in-apart v n r c b e h = record {
  there = h.there;
  code = h.code;
  back = h.back;
  refuses = λ g w l o. below-style (λ (g : Scan). ScanValid g → is_apart (scan_parts g) ≡ true → scan_error g c b ≡ Some e) v n r
      (λ u k m w o. lexeme-error u k r c b w.1 ∙ h.refuses u k (begun-open r u.quotes w.0) m o) g l w o;
}

in-style : (v : ValuePlace) (n : StyleScan) (r : Reference) (c : Class) (b : ℕ) (e : PathCause) (y : EvidenceData)
    → StyleEvidence v n (InStyle v n r) r c b e y → ShownByte (InStyle v n r) c b e y
in-style v n r c b e (one x) h = (
  h.0,
  λ g w l o i. below-style (λ (g : Scan). ScanValid g → ScanHas g x → scan_error g c b ≡ Some e) v n r
      (λ u k m w o. lexeme-error u k r c b w.1 ∙ h.1 u k (begun-open r u.quotes w.0) (begun-empty u.quotes k w.0) m o) g l w o,
)
in-style v n r c b e (two x y) h = h
in-style v n r c b e apart h = in-apart v n r c b e h

-- what shows it at a place is what does from where a text begins there
css-or-quotes : (o : Option PathCause) (s : Css) (bytes : List ℕ) (later : EvidenceData)
    → body_or_quotes o (body.Css s) bytes later ≡ style_or_quotes o (style_scan_start s) bytes later
css-or-quotes (Some e) s bytes later = refl
css-or-quotes None s bytes later = refl

place-shows : (v : ValuePlace) (c : Class) (b : ℕ) (s : Css) → v.body ≡ body.Css s
    → value_shows v Closed c b ≡ style_value_shows v (style_scan_start s) Closed c b
place-shows v c b s d =
    ap (λ (x : Body). body_or_quotes (body_cause x v.quotes Closed c b) x (undone_byte true Closed c b) (quotes_show (body_error x) v.quotes c)) d
    ∙ css-or-quotes (quoted_error style_feeding v.quotes (style_scan_start s) Closed c b) s (undone_byte true Closed c b)
    (quotes_show None v.quotes c)

not-open : {A : Type 0} (f : Form) (bytes : List ℕ) → Closed ≡ Open f bytes → A
not-open f bytes h = cc

pub place-shown : (v : ValuePlace) (c : Class) (b : ℕ) (e : PathCause) (s : Css) → c ≡ class_of b → v.body ≡ body.Css s
    → place_cause (place.Value v) c b ≡ Some e → ShownByte (At (place.Value v)) c b e (value_shows v Closed c b)
place-shown v c b e s k d h =
    subst (ShownByte (At (place.Value v)) c b e) (sym (place-shows v c b s d))
    (at-style v c b e s (style_value_shows v (style_scan_start s) Closed c b) d
    (style-evidence v (style_scan_start s) (At (place.Value v)) Closed c b e (λ y o. has-in v s y d o) (λ f bytes i. not-open f bytes i) k tt tt
    (sym (place-error v s c b d) ∙ h)))

pub lexeme-shown : (w : ValuePlace) (s : StyleScan) (r : Reference) (c : Class) (b : ℕ) (e : PathCause) → c ≡ class_of b → HasBegun w.quotes
    → w.body ≡ body.Css empty_css → ReferencePlain r → style_cause w s r c b ≡ Some e → ShownByte (InStyle w s r) c b e (style_value_shows w s r c b)
lexeme-shown w s r c b e k g d n h =
    in-style w s r c b e (style_value_shows w s r c b)
    (style-evidence w s (InStyle w s r) r c b e (λ y o. o) (λ f bytes i. ap (InStyle w s) i) k (begun-open r w.quotes g) n
    (sym (lexeme-error w s r c b d) ∙ h))

-- The end of a text: what it refuses of the text of a reference, and of an escape or a percent triple.
pub cut-style : (w : ValuePlace) (s : StyleScan) (r : Reference) (e : PathCause) → ReferencePlain r → scan_cut_error (InStyle w s r) ≡ Some e
    → ShownCut (InStyle w s r) e (end_shows (InStyle w s r))
cut-style w s r e n h =
    let d = one-fed (as_it_stands r) s true (length (as_it_stands r)) e (stands-no-colon r n) h in
    subst (ShownCut (InStyle w s r) e) (sym (ap shown_member d.is))
    (record {
      there = in-scan w.typed w.quotes s d.member d.there;
      refuses = λ g l o. below-style (λ (g : Scan). ScanHas g d.member → scan_cut_error g ≡ Some e) w s r
          (λ u k m o. d.refuses k m.scan (out-scan s k u.typed u.quotes d.member d.there o)) g l o;
    })

pub lexeme-style : (v : ValuePlace) (s : StyleScan) (r : Reference) (e : Code) → scan_cut_error (InStyle v s r) ≡ None
    → scan_lexeme_error (InStyle v s r) ≡ Some e → ShownLexeme (InStyle v s r) e (end_shows (InStyle v s r))
lexeme-style v s r e m h =
    let bytes = as_it_stands r in
    subst (ShownLexeme (InStyle v s r) e) (sym (ap shown_member (none-fed bytes s true (length bytes) m)))
    (record {
      there = refl;
      refuses = λ g l o. below-style (λ (g : Scan). (scan_cut_error g ≡ None) × (scan_lexeme_error g ≡ Some e)) v s r
          (λ u k l. let f = style-fed-grow bytes true (length bytes) k s l.scan m in (
            f.0,
            ap (λ (o : Option StyleCutRefusal). option_map (λ (x : StyleCutRefusal). style_code x.code) o)
                (styles-grow.scans (feed_bytes style_feeding k bytes) (feed_bytes style_feeding s bytes) f.1).cut_error ∙ h,
          )) g l;
    })

-- A `:` behind a reference that it breaks, in which paths meet apart, where this has been read.
language-read : (x : Bool) (n : StyleScan) (f : Form) (bytes : List ℕ) (c : Class) (b : ℕ) → turn c f ≡ Breaks → (x ≡ true → is_equals_sign c ≡ false)
    → flushed_error style_feeding n (is_equals_sign c) f bytes ≡ None
    → language_error style_feeding x (feed_bytes style_feeding n (flushed true (is_equals_sign c) f bytes)) Closed c b
    ≡ language_error style_feeding x n (Open f bytes) c b
language-read true n f bytes c b k e t = sym (sym (ap (λ (y : Bool). flushed_error style_feeding n y f bytes) (e refl)) ∙ t)
language-read false n f bytes c b k e t =
    sym (ap (λ (z : ReferenceStep). turned_error style_feeding n z f bytes c b) k
    ∙ ap (λ (o : Option PathCause). first_cause o
    (fed_error style_feeding (feed_bytes style_feeding n (flushed true (is_equals_sign c) f bytes)) (plain_bytes c b) false 0)) t)

quoted-read : (q : Quotes) (n : StyleScan) (f : Form) (bytes : List ℕ) (c : Class) (b : ℕ) → HasBegun q → turn c f ≡ Breaks
    → flushed_error style_feeding n (is_equals_sign c) f bytes ≡ None
    → quoted_error style_feeding q (feed_bytes style_feeding n (flushed true (is_equals_sign c) f bytes)) Closed c b
    ≡ quoted_error style_feeding q n (Open f bytes) c b
quoted-read quotes.Dq n f bytes c b g k t = language-read (ends_value DoubleQuoted c) n f bytes c b k (ends-no-equals DoubleQuoted c) t
quoted-read quotes.Sq n f bytes c b g k t = language-read (ends_value SingleQuoted c) n f bytes c b k (ends-no-equals SingleQuoted c) t
quoted-read (quotes.Bare x) n f bytes c b g k t = rw g.0 (language-read (ends_value Unquoted c) n f bytes c b k (ends-no-equals Unquoted c) t)

other-code : code.BadHTML ≡ code.AmbigContext → ⊥
other-code e = cc

not-apart : (x : Member) → Some (one x) ≡ Some apart → ⊥
not-apart x e = cc

apart-of : (v : ValuePlace) (n : StyleScan) (c : Class) (b : ℕ) (e : PathCause) → c ≡ class_of b → style_fed_shown (plain_bytes c b) n ≡ Some apart
    → e.code ≡ code.AmbigContext → StyleShown n Closed c b e (λ k. quoted_error style_feeding v.quotes k Closed c b) → StyleApart v n Closed c b e
apart-of v n c b e g shown is (on_name i refuses) = absurd (other-code (sym i ∙ is))
apart-of v n c b e g shown is (on_member x i there nh refuses) = absurd (not-apart x (sym i ∙ shown))
apart-of v n c b e g shown is (on_met i there colon code back refuses) = style-apart v n Closed c b e g there colon code back refuses
apart-of v n c b e g shown is (on_two s f bytes j p turns taken not-yet i behind came code starts opens) = not-open f bytes j

read-at : (x : Bool) (w : ValuePlace) (n : StyleScan) (c : Class) (b : ℕ) (e : PathCause) → is_style_start n ≡ x → c ≡ class_of b
    → style_fed_shown (plain_bytes c b) n ≡ Some apart → e.code ≡ code.AmbigContext
    → StyleShown n Closed c b e (λ k. quoted_error style_feeding w.quotes k Closed c b)
    → ApartShown (if x then At (with_style w n) else InStyle w n Closed) c b e
read-at true w n c b e i g shown is h =
    let v : ValuePlace = record { tag = w.tag; typed = w.typed; quotes = w.quotes; body = body.Css (style_scan_place n) } in
    at-apart v c b e (style_scan_place n) refl
    (subst (λ (z : StyleScan). StyleApart v z Closed c b e) (sym (scan-of-start n i)) (apart-of v n c b e g shown is h))
read-at false w n c b e i g shown is h = in-apart w n Closed c b e (apart-of w n c b e g shown is h)

pub style-read-apart : (w : ValuePlace) (o : StyleScan) (f : Form) (bytes : List ℕ) (b : ℕ) (e : PathCause) → HasBegun w.quotes
    → turn (class_of b) f ≡ Breaks
    → flushed_error style_feeding o (is_equals_sign (class_of b)) f bytes ≡ None
    → style_fed_shown (plain_bytes (class_of b) b) (feed_bytes style_feeding o (flushed true (is_equals_sign (class_of b)) f bytes)) ≡ Some apart
    → is_apart (style_scan_parts (feed_bytes style_feeding o (flushed true (is_equals_sign (class_of b)) f bytes))) ≡ true
    → e.code ≡ code.AmbigContext
    → quoted_error style_feeding w.quotes o (Open f bytes) (class_of b) b ≡ Some e
    → ApartShown (read_style Breaks w o f bytes (class_of b)) (class_of b) b e
style-read-apart w o f bytes b e g turns taken shown came is h =
    let c = class_of b in
    let n = feed_bytes style_feeding o (flushed true (is_equals_sign c) f bytes) in
    read-at (is_style_start n) w n c b e refl refl shown is
    (style-quoted w.quotes Closed n c b e tt tt (quoted-read w.quotes o f bytes c b g turns taken ∙ h))
