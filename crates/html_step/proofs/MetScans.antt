-- Paths of a place that has it of two of its paths that they met apart: within a text, scan state by scan state.
use Rattle.std.proofs.Common.{◌≡◌, ℕ, ◌+◌, true, false, List, [], ◌∷◌, Option, Some, None, Ok, option_map, refl, sym, ap, ◌∙◌, subst, inl, inr}
use Rattle.css_lexer.specs.Escapes.{NoEscape, AfterBackslash, HexDigits, AfterReturn}
use Rattle.css_lexer.specs.Spots.{StyleSpot, UrlSpot, QuotedUrlSpot}
use Rattle.css_lexer.specs.States.{Quote, DoubleQuote, SingleQuote, Fresh, Bare, Quoted, Ended, Out}
use Rattle.css_lexer.specs.States as style
use Rattle.css_step.specs.StyleOrigins.{style_scan_parts}
use Rattle.css_step.specs.StyleScans.{StyleScan, ScanBareUrl, ScanQuotedUrl, is_style_start, style_scan_place}
use Rattle.place_core.specs.page.Classes.{class_of}
use Rattle.place_core.specs.page.Html.{next}
use Rattle.place_core.specs.page.References.{Reference, Closed, Open}
use Rattle.place_core.specs.page.States.{Template, LexState, AttributeValue, InContent, InLanguage, Nothing, PendingLess, LessAtCut, PendingName, PendingBang, PendingBangDash, PendingOpening}
use Rattle.place_core.specs.declared.element.Element.TheVariants as element
use Rattle.place_core.specs.page.Tags.{Tag, ValueOf, Deciding, ValueState, OfKind, OfUrl, OfStyle, languages, Quoting, OfScript}
use Rattle.place_core.specs.place.ApartPlaces.{HasApart, beginning_at}
use Rattle.place_core.specs.place.Errors.{node, TextRead}
use Rattle.place_core.specs.place.Membership.{IsIn}
use Rattle.place_core.specs.place.PathPairs.{ApartBefore, Keeps, PartWithin, state_before, is_in_beginning, unknown_beginning, unknown_part}
use Rattle.place_core.specs.place.Places.{Below, IsValid}
use Rattle.place_core.specs.place.StatePlaces.{placed, quotes_at, value_spot}
use Rattle.place_core.specs.place.StyleParts.{style_place}
use Rattle.place_core.specs.place.UrlParts.{parts_of}
use Rattle.place_core.specs.declared.body.Body.TheVariants as body
use Rattle.place_core.specs.declared.parts.Parts.{Parts}
use Rattle.place_core.specs.declared.place.Place.{Place}
use Rattle.place_core.specs.declared.place.Place.TheVariants as place
use Rattle.place_core.specs.declared.prefix.Prefix.TheVariants as prefix
use Rattle.place_core.specs.declared.quotes.Quotes.{Quotes}
use Rattle.place_core.specs.declared.value_place.ValuePlace.{ValuePlace}
use Rattle.place_core.proofs.ApartPlacesFacts.{above-apart}
use Rattle.place_core.proofs.Semilattices.{none_some, one_value}
use Rattle.html_scan.specs.Scans.{Scan, At, scan_reference, scan_error, scan_next, with_style}
use Rattle.html_step.specs.Origins.{scan_parts}
use Rattle.html_step.specs.Steps.{stepped, scan_read_behind}
use Rattle.html_step.proofs.AcceptedTexts.{ends-apart, met-at, own-after, reads}
use Rattle.html_step.proofs.ApartParts.{differs-of, of-differs, unknown-below}
use Rattle.html_step.proofs.KeptBeginnings.{OpensNone, before-opens, node-unknown, side-begins, stays-there}
use Rattle.html_step.proofs.OneTexts.{agrees-at, at-place}
use Rattle.html_step.proofs.Parentheses.{ReferenceOpensNone, next-opens}
use Rattle.html_step.proofs.PathScans.{scanned, url_value}
use Rattle.html_step.proofs.ScanOrder.{HasBegun, ScanBelow, ScanValid, begun-valid, scan-grows}
use Rattle.html_step.proofs.StyleOrder.{scan-of-start}
use Rattle.html_step.proofs.StylePaths.{style_value}
use Rattle.html_step.proofs.ReadScans.{read-ok, scan_read, takes}
use Rattle.html_step.proofs.ReadStates.{Unknown, at-as, at-style-as, begun-at, element-place-as, open-parts, opens-of, set-valid, unknown, unknown-valid, url-before, with_set}
use Rattle.html_step.proofs.UrlScans.{Holds, above-parts, below-reference, next-holds, raw-opened, raw_place}
use Rattle.html_step.proofs.ValidSteps.{scan-valid}
use Rattle.html_step.proofs.WholeTexts.{step-ok}
use Rattle.url_lexer.specs.Parts.{UrlPart, UrlStart, UrlOpen, UrlOpenhole, UrlPrequery, UrlQuery, UrlBad}
use Rattle.url_lexer.specs.Spots.{where_whole}
use Rattle.url_lexer.specs.Triples.{Triple, NoTriple, AfterPercent, AfterDigit}
use Rattle.url_lexer.specs.TwoPaths.{is_open}
use Rattle.url_step.specs.PartSets.{spells_apart}

no : false ≡ true → ⊥
no e = cc

-- A path at a scan state below this one.
pub record Stand (s : LexState ValueState) (g f : Scan) : Type 0 where
  pub at : scanned s ≡ Some g
  pub valid : ScanValid g
  pub below : ScanBelow g f

pub stand-in : (p : Place) (s : LexState ValueState) (i : IsIn p s) → Stand s (At i.own) (At p)
stand-in p s i = record { at = at-place s i.own i.stands; valid = i.valid; below = i.below }

pub next-stand : (s : LexState ValueState) (g f : Scan) (b : ℕ) → scan_error f (class_of b) b ≡ None → Stand s g f
    → Stand (next languages Template s (class_of b) b) (scan_next g (class_of b) b) (scan_next f (class_of b) b)
next-stand s g f b n h =
    let m = scan-grows g f (class_of b) b refl h.valid h.below n in
    record { at = (agrees-at s g b h.at).steps m.0; valid = scan-valid g (class_of b) b h.valid m.0; below = m.1 }

abbrev pub ScanApart : Scan → Type 0
ScanApart f = HasApart (raw_place f)

pub parts-apart : (f : Scan) (s : Parts) → scan_parts f ≡ Some s → spells_apart s.opened ≡ true → ScanApart f
parts-apart f s h e = raw-opened f s h ∙ differs-of s.opened e

-- a scan state of a URL in which two met apart
url-apart : (g f : Scan) (t : Parts) → ScanBelow g f → scan_parts g ≡ Some t → ScanApart f
    → (s : Parts) × (scan_parts f ≡ Some s) × (spells_apart s.opened ≡ true)
url-apart g f t l e h = (let s = above-parts g f t l e in (s.0, s.1, of-differs s.0.opened (sym (raw-opened f s.0 s.1) ∙ h)))

-- No reference that is open in it has a `(` in it.
abbrev pub ScanOpensNone : Scan → Type 0
ScanOpensNone f = ReferenceOpensNone (scan_reference f)

pub below-opens : (g f : Scan) → ScanBelow g f → ScanOpensNone f → ScanOpensNone g
below-opens g f l n = subst ReferenceOpensNone (sym (below-reference g f l)) n

opens-by : (g : Scan) (b : ℕ) (r : Reference) → Holds g r (class_of b) b → ReferenceOpensNone r → ScanOpensNone g
opens-by g b r (inl h) n = subst ReferenceOpensNone (sym h) tt
opens-by g b r (inr h) n = subst ReferenceOpensNone (sym h) (next-opens r b n)

pub scan-opens : (f : Scan) (b : ℕ) → ScanOpensNone f → ScanOpensNone (scan_next f (class_of b) b)
scan-opens f b n = opens-by (scan_next f (class_of b) b) b (scan_reference f) (next-holds f (class_of b) b) n

-- The path of which it is not known what it has spelled stands there too.
met-unknown : (s : LexState ValueState) (g f : Scan) → is_in_beginning s ≡ true → ScanApart f → Stand s g f → Unknown s f
met-unknown s g f h a i =
    let p = open-parts s g h i.at in
    let x = url-apart g f (parts_of (UrlOpen p.0)) i.below p.1 a in
    unknown s g f x.0 h i.at i.valid x.1 x.2 i.below

-- its place has that two met apart
unknown-opened : (p : UrlPart) → is_open p ≡ true → (parts_of (unknown_part p)).opened ≡ Some prefix.Differs
unknown-opened (UrlOpen p) h = refl
unknown-opened UrlStart h = absurd (no h)
unknown-opened UrlOpenhole h = absurd (no h)
unknown-opened UrlPrequery h = absurd (no h)
unknown-opened UrlQuery h = absurd (no h)
unknown-opened UrlBad h = absurd (no h)

raised-apart : (x : Triple) (p : UrlPart) (t : Tag) (q : Quotes) (a : Place) → is_open p ≡ true
    → value_spot t q (option_map (λ (z : UrlPart). body.Url (parts_of z)) (where_whole x (unknown_part p))) ≡ Some a → HasApart a
raised-apart NoTriple p t q a h e = ap beginning_at (one_value a _ (sym e)) ∙ unknown-opened p h
raised-apart AfterPercent p t q a h e = absurd (none_some a e)
raised-apart AfterDigit p t q a h e = absurd (none_some a e)

bare-apart : (x : Triple) (p : UrlPart) (t : Tag) (q : Quotes) (a : Place) → is_open p ≡ true
    → value_spot t q (option_map (λ z. body.Css (style_place z)) (option_map UrlSpot (where_whole x (unknown_part p)))) ≡ Some a → HasApart a
bare-apart NoTriple p t q a h e = ap beginning_at (one_value a _ (sym e)) ∙ unknown-opened p h
bare-apart AfterPercent p t q a h e = absurd (none_some a e)
bare-apart AfterDigit p t q a h e = absurd (none_some a e)

quoted-apart : (y : Quote) (x : Triple) (p : UrlPart) (t : Tag) (q : Quotes) (a : Place) → is_open p ≡ true
    → value_spot t q (option_map (λ z. body.Css (style_place z)) (option_map (QuotedUrlSpot y) (where_whole x (unknown_part p)))) ≡ Some a
    → HasApart a
quoted-apart DoubleQuote NoTriple p t q a h e = ap beginning_at (one_value a _ (sym e)) ∙ unknown-opened p h
quoted-apart SingleQuote NoTriple p t q a h e = ap beginning_at (one_value a _ (sym e)) ∙ unknown-opened p h
quoted-apart y AfterPercent p t q a h e = absurd (none_some a e)
quoted-apart y AfterDigit p t q a h e = absurd (none_some a e)

-- in the element `style`
abbrev SpotAt : Option (StyleSpot UrlPart) → Place → Type 0
SpotAt o own = option_map place.Style (option_map style_place o) ≡ Some own

element-bare-apart : (x : Triple) (p : UrlPart) (a : Place) → is_open p ≡ true → SpotAt (option_map UrlSpot (where_whole x (unknown_part p))) a → HasApart a
element-bare-apart NoTriple p a h e = ap beginning_at (one_value a _ (sym e)) ∙ unknown-opened p h
element-bare-apart AfterPercent p a h e = absurd (none_some a e)
element-bare-apart AfterDigit p a h e = absurd (none_some a e)

element-quoted-apart : (y : Quote) (x : Triple) (p : UrlPart) (a : Place) → is_open p ≡ true
    → SpotAt (option_map (QuotedUrlSpot y) (where_whole x (unknown_part p))) a → HasApart a
element-quoted-apart DoubleQuote NoTriple p a h e = ap beginning_at (one_value a _ (sym e)) ∙ unknown-opened p h
element-quoted-apart SingleQuote NoTriple p a h e = ap beginning_at (one_value a _ (sym e)) ∙ unknown-opened p h
element-quoted-apart y AfterPercent p a h e = absurd (none_some a e)
element-quoted-apart y AfterDigit p a h e = absurd (none_some a e)

unknown-placed : (s : LexState ValueState) (a : Place) → is_in_beginning s ≡ true → placed (unknown_beginning s) ≡ Some a → HasApart a
unknown-placed (AttributeValue q t (ValueOf (OfUrl u)) Closed) a h e = raised-apart u.triple u.part t (quotes_at q) a h e
unknown-placed (AttributeValue q t (ValueOf (OfUrl u)) (Open f bytes)) a h e = absurd (none_some a e)
unknown-placed (AttributeValue q t (ValueOf (OfKind k)) r) a h e = absurd (no h)
unknown-placed (AttributeValue q t (ValueOf (OfScript k)) r) a h e = absurd (no h)
unknown-placed (AttributeValue q t (ValueOf (OfStyle (style.InUrl Bare u))) Closed) a h e = bare-apart u.triple u.part t (quotes_at q) a h e
unknown-placed (AttributeValue q t (ValueOf (OfStyle (style.InUrl (Quoted y NoEscape) u))) Closed) a h e =
    quoted-apart y u.triple u.part t (quotes_at q) a h e
unknown-placed (AttributeValue q t (ValueOf (OfStyle (style.InUrl (Quoted y AfterBackslash) u))) Closed) a h e = absurd (none_some a e)
unknown-placed (AttributeValue q t (ValueOf (OfStyle (style.InUrl (Quoted y (HexDigits k)) u))) Closed) a h e = absurd (none_some a e)
unknown-placed (AttributeValue q t (ValueOf (OfStyle (style.InUrl (Quoted y AfterReturn) u))) Closed) a h e = absurd (none_some a e)
unknown-placed (AttributeValue q t (ValueOf (OfStyle (style.InUrl Fresh u))) Closed) a h e = absurd (no h)
unknown-placed (AttributeValue q t (ValueOf (OfStyle (style.InUrl Ended u))) Closed) a h e = absurd (no h)
unknown-placed (AttributeValue q t (ValueOf (OfStyle (Out s))) Closed) a h e = absurd (no h)
unknown-placed (AttributeValue q t (ValueOf (OfStyle s)) (Open f bytes)) a h e = absurd (none_some a e)
unknown-placed (AttributeValue q t (Deciding k before) r) a h e = absurd (no h)
unknown-placed (InContent element.Style (InLanguage (OfStyle (style.InUrl Bare u))) Nothing) a h e = element-bare-apart u.triple u.part a h e
unknown-placed (InContent element.Style (InLanguage (OfStyle (style.InUrl (Quoted y NoEscape) u))) Nothing) a h e =
    element-quoted-apart y u.triple u.part a h e
unknown-placed (InContent element.Style (InLanguage (OfStyle (style.InUrl (Quoted y AfterBackslash) u))) Nothing) a h e = absurd (none_some a e)
unknown-placed (InContent element.Style (InLanguage (OfStyle (style.InUrl (Quoted y (HexDigits k)) u))) Nothing) a h e = absurd (none_some a e)
unknown-placed (InContent element.Style (InLanguage (OfStyle (style.InUrl (Quoted y AfterReturn) u))) Nothing) a h e = absurd (none_some a e)
unknown-placed (InContent element.Style (InLanguage (OfStyle (style.InUrl Fresh u))) Nothing) a h e = absurd (no h)
unknown-placed (InContent element.Style (InLanguage (OfStyle (style.InUrl Ended u))) Nothing) a h e = absurd (no h)
unknown-placed (InContent element.Style (InLanguage (OfStyle (Out s))) Nothing) a h e = absurd (no h)
unknown-placed (InContent _ (InLanguage (OfStyle s)) Nothing) a h e = absurd (none_some a e)
unknown-placed (InContent x (InLanguage (OfStyle s)) PendingLess) a h e = absurd (none_some a e)
unknown-placed (InContent x (InLanguage (OfStyle s)) LessAtCut) a h e = absurd (none_some a e)
unknown-placed (InContent x (InLanguage (OfStyle s)) (PendingName letters)) a h e = absurd (none_some a e)
unknown-placed (InContent x (InLanguage (OfStyle s)) PendingBang) a h e = absurd (none_some a e)
unknown-placed (InContent x (InLanguage (OfStyle s)) PendingBangDash) a h e = absurd (none_some a e)
unknown-placed (InContent x (InLanguage (OfStyle s)) (PendingOpening letters)) a h e = absurd (none_some a e)
unknown-placed (InContent x (InLanguage (OfKind k)) y) a h e = absurd (no h)
unknown-placed (InContent x (InLanguage (OfScript k)) y) a h e = absurd (no h)
unknown-placed (InContent x (InLanguage (OfUrl u)) y) a h e = absurd (no h)
unknown-placed _ a h e = absurd (no h)

-- So a path that stays in the beginning keeps it.
pub kept-apart : (bytes : List ℕ) (k : ℕ) (since : TextRead) (s : LexState ValueState) (g f : Scan) (q : Place) → OpensNone s → is_in_beginning s ≡ true
    → ScanApart f → Stand s g f → Keeps bytes s → stepped k since bytes f ≡ Ok q → HasApart q
kept-apart bytes k since s g f q o h a i m e =
    let u = met-unknown s g f h a i in
    let r = own-after bytes k since (unknown_beginning s) u.scan f q u.at u.valid u.below e in
    above-apart r.0 q r.2
    (unknown-placed (node bytes s) r.0 (side-begins (node bytes s) (stays-there bytes s m)) (sym (ap placed (node-unknown bytes s o h m)) ∙ r.1))

-- Two paths that come apart within the text.
end-apart : (k : ℕ) (since : TextRead) (s r : LexState ValueState) (g h f : Scan) (q : Place) → Stand s g f → Stand r h f → ApartBefore [] s r
    → stepped k since [] f ≡ Ok q → HasApart q
end-apart k since s r g h f q i j a e = ends-apart k since f q s r g h i.at j.at i.valid j.valid i.below j.below e a

point-within : (bs : List ℕ) (k : ℕ) (since : TextRead) (s r : LexState ValueState) (g h f : Scan) (q : Place) → ScanValid f → ScanOpensNone f → Stand s g f
    → Stand r h f → ApartBefore bs s r → Keeps bs (state_before s bs) → Keeps bs (state_before r bs) → stepped k since bs f ≡ Ok q → HasApart q
point-within [] k since s r g h f q v n i j a m o e = end-apart k since s r g h f q i j a e
point-within (b ∷ bs) k since s r g h f q v n i j a m o e =
    let t = takes f b v (step-ok k since b bs f q e).0 in
    let x = reads s g f b bs i.at i.valid v t i.below m.0 in
    let y = reads r h f b bs j.at j.valid v t j.below o.0 in
    let d = met-at s r g h f b bs x y i.at j.at i.below j.below (step-ok k since b bs f q e).0 a in
    let opens = before-opens s (b ∷ bs) (opens-of s g (url-before s (b ∷ bs) m.0) i.at i.valid (below-opens g f i.below n)) in
    kept-apart (b ∷ bs) k since (state_before s (b ∷ bs)) (scan_read g (b ∷ bs)) (scan_read f (b ∷ bs)) q opens m.0
    (parts-apart (scan_read f (b ∷ bs)) d.0 d.1 d.2) (record { at = x.at; valid = x.valid; below = x.below }) m (read-ok b bs k since f q v e)

pub within-apart : (bytes : List ℕ) (k : ℕ) (since : TextRead) (s r : LexState ValueState) (g h f : Scan) (q : Place) → ScanValid f → ScanOpensNone f → Stand s g f
    → Stand r h f → PartWithin bytes s r → stepped k since bytes f ≡ Ok q → HasApart q
within-apart [] k since s r g h f q v w i j a e = absurd a
within-apart (b ∷ bs) k since s r g h f q v w i j a e =
    let n = step-ok k since b bs f q e in
    let t = next languages Template s (class_of b) b in
    let u = next languages Template r (class_of b) b in
    let x = next-stand s g f b n.0 i in
    let y = next-stand r h f b n.0 j in
    let after = scan_read_behind k since f (class_of b) b in
    elim a [
      | inl z ↦ point-within bs (k + 1) after t u (scan_next g (class_of b) b) (scan_next h (class_of b) b) (scan_next f (class_of b) b) q
          (scan-valid f (class_of b) b v n.0) (scan-opens f b w) x y z.0 z.1 z.2 n.1
      | inr z ↦ within-apart bs (k + 1) after t u (scan_next g (class_of b) b) (scan_next h (class_of b) b) (scan_next f (class_of b) b) q
          (scan-valid f (class_of b) b v n.0) (scan-opens f b w) x y z n.1
    ]

-- The path of which it is not known what it has spelled is one of the place's.
raised-in : (x : Triple) (p : UrlPart) (t : Tag) (q : Quoting) (own a : Place) → is_open p ≡ true → HasApart a
    → value_spot t (quotes_at q) (option_map (λ (z : UrlPart). body.Url (parts_of z)) (where_whole x p)) ≡ Some own → Below own a
    → (w : Place) × (value_spot t (quotes_at q) (option_map (λ (z : UrlPart). body.Url (parts_of z)) (where_whole x (unknown_part p))) ≡ Some w)
    × IsValid w × Below w a
raised-in NoTriple p t q own a h e i l =
    let v = url_value t (quotes_at q) (parts_of p) in
    let low = subst (λ (z : Place). Below z a) (one_value own (place.Value v) (sym i)) l in
    let x = url-apart (At (place.Value v)) (At a) (parts_of p) low refl e in (
      place.Value (url_value t (quotes_at q) (parts_of (unknown_part p))),
      refl,
      (begun-valid (quotes_at q) (begun-at q), unknown-valid p h),
      at-as t (quotes_at q) (parts_of p) (parts_of (unknown_part p)) x.0 (At a) x.1 (unknown-below p x.0 h x.2) low,
    )
raised-in AfterPercent p t q own a h e i l = absurd (none_some own i)
raised-in AfterDigit p t q own a h e i l = absurd (none_some own i)

-- in a style
style-raised : (v : ValuePlace) (n : StyleScan) (p : UrlPart) (own a : Place) → is_style_start n ≡ true → HasBegun v.quotes
    → style_scan_parts n ≡ Some (parts_of p) → is_open p ≡ true → HasApart a → Some (with_style v n) ≡ Some own → Below own a
    → IsValid (with_style v (with_set n (parts_of (unknown_part p)))) × Below (with_style v (with_set n (parts_of (unknown_part p)))) a
style-raised v n p own a g b i h e k l =
    let d = parts_of (unknown_part p) in
    let low = subst (λ (z : Place). Below z a) (one_value own (with_style v n) (sym k)) l in
    let x = url-apart (At (with_style v n)) (At a) (parts_of p) low (ap style_scan_parts (scan-of-start n g) ∙ i) e in (
      (begun-valid v.quotes b, set-valid n (parts_of p) d i (unknown-valid p h)),
      at-style-as v n (parts_of p) d x.0 (At a) g i x.1 (unknown-below p x.0 h x.2) low,
    )

abbrev BareAt : Triple → UrlPart → Tag → Quoting → Place → Type 0
BareAt x p t q own = value_spot t (quotes_at q) (option_map (λ z. body.Css (style_place z)) (option_map UrlSpot (where_whole x p))) ≡ Some own

bare-in : (x : Triple) (p : UrlPart) (t : Tag) (q : Quoting) (own a : Place) → is_open p ≡ true → HasApart a → BareAt x p t q own → Below own a
    → (w : Place) × BareAt x (unknown_part p) t q w × IsValid w × Below w a
bare-in NoTriple p t q own a h e i l =
    let r = style-raised (style_value t (quotes_at q)) (ScanBareUrl (parts_of p) NoTriple) p own a refl (begun-at q) refl h e i l in
    (with_style (style_value t (quotes_at q)) (ScanBareUrl (parts_of (unknown_part p)) NoTriple), refl, r.0, r.1)
bare-in AfterPercent p t q own a h e i l = absurd (none_some own i)
bare-in AfterDigit p t q own a h e i l = absurd (none_some own i)

abbrev QuotedAt : Quote → Triple → UrlPart → Tag → Quoting → Place → Type 0
QuotedAt y x p t q own =
    value_spot t (quotes_at q) (option_map (λ z. body.Css (style_place z)) (option_map (QuotedUrlSpot y) (where_whole x p))) ≡ Some own

quoted-in : (y : Quote) (x : Triple) (p : UrlPart) (t : Tag) (q : Quoting) (own a : Place) → is_open p ≡ true → HasApart a → QuotedAt y x p t q own
    → Below own a → (w : Place) × QuotedAt y x (unknown_part p) t q w × IsValid w × Below w a
quoted-in y NoTriple p t q own a h e i l =
    let r = style-raised (style_value t (quotes_at q)) (ScanQuotedUrl y NoEscape (parts_of p) NoTriple) p own a refl (begun-at q) refl h e i l in
    (with_style (style_value t (quotes_at q)) (ScanQuotedUrl y NoEscape (parts_of (unknown_part p)) NoTriple), refl, r.0, r.1)
quoted-in y AfterPercent p t q own a h e i l = absurd (none_some own i)
quoted-in y AfterDigit p t q own a h e i l = absurd (none_some own i)

-- in the element `style`
element-raised : (n : StyleScan) (p : UrlPart) (own a : Place) → is_style_start n ≡ true → style_scan_parts n ≡ Some (parts_of p) → is_open p ≡ true
    → HasApart a → Some (place.Style (style_scan_place n)) ≡ Some own → Below own a
    → IsValid (place.Style (style_scan_place (with_set n (parts_of (unknown_part p)))))
    × Below (place.Style (style_scan_place (with_set n (parts_of (unknown_part p))))) a
element-raised n p own a g i h e k l =
    let d = parts_of (unknown_part p) in
    let low = subst (λ (z : Place). Below z a) (one_value own (place.Style (style_scan_place n)) (sym k)) l in
    let x = url-apart (At (place.Style (style_scan_place n))) (At a) (parts_of p) low (ap style_scan_parts (scan-of-start n g) ∙ i) e in (
      set-valid n (parts_of p) d i (unknown-valid p h),
      element-place-as n (parts_of p) d x.0 (At a) g i x.1 (unknown-below p x.0 h x.2) low,
    )

element-bare-in : (x : Triple) (p : UrlPart) (own a : Place) → is_open p ≡ true → HasApart a → SpotAt (option_map UrlSpot (where_whole x p)) own → Below own a
    → (w : Place) × SpotAt (option_map UrlSpot (where_whole x (unknown_part p))) w × IsValid w × Below w a
element-bare-in NoTriple p own a h e i l =
    let r = element-raised (ScanBareUrl (parts_of p) NoTriple) p own a refl refl h e i l in
    (place.Style (style_scan_place (ScanBareUrl (parts_of (unknown_part p)) NoTriple)), refl, r.0, r.1)
element-bare-in AfterPercent p own a h e i l = absurd (none_some own i)
element-bare-in AfterDigit p own a h e i l = absurd (none_some own i)

element-quoted-in : (y : Quote) (x : Triple) (p : UrlPart) (own a : Place) → is_open p ≡ true → HasApart a
    → SpotAt (option_map (QuotedUrlSpot y) (where_whole x p)) own → Below own a
    → (w : Place) × SpotAt (option_map (QuotedUrlSpot y) (where_whole x (unknown_part p))) w × IsValid w × Below w a
element-quoted-in y NoTriple p own a h e i l =
    let r = element-raised (ScanQuotedUrl y NoEscape (parts_of p) NoTriple) p own a refl refl h e i l in
    (place.Style (style_scan_place (ScanQuotedUrl y NoEscape (parts_of (unknown_part p)) NoTriple)), refl, r.0, r.1)
element-quoted-in y AfterPercent p own a h e i l = absurd (none_some own i)
element-quoted-in y AfterDigit p own a h e i l = absurd (none_some own i)

pub unknown-in : (a : Place) (s : LexState ValueState) → is_in_beginning s ≡ true → HasApart a → IsIn a s → IsIn a (unknown_beginning s)
unknown-in a (AttributeValue q t (ValueOf (OfUrl u)) Closed) h e i =
    let r = raised-in u.triple u.part t q i.own a h e i.stands i.below in
    record { own = r.0; stands = r.1; valid = r.2; below = r.3 }
unknown-in a (AttributeValue q t (ValueOf (OfUrl u)) (Open f bytes)) h e i = absurd (none_some i.own i.stands)
unknown-in a (AttributeValue q t (ValueOf (OfKind k)) r) h e i = absurd (no h)
unknown-in a (AttributeValue q t (ValueOf (OfScript k)) r) h e i = absurd (no h)
unknown-in a (AttributeValue q t (ValueOf (OfStyle (style.InUrl Bare u))) Closed) h e i =
    let r = bare-in u.triple u.part t q i.own a h e i.stands i.below in
    record { own = r.0; stands = r.1; valid = r.2; below = r.3 }
unknown-in a (AttributeValue q t (ValueOf (OfStyle (style.InUrl (Quoted y NoEscape) u))) Closed) h e i =
    let r = quoted-in y u.triple u.part t q i.own a h e i.stands i.below in
    record { own = r.0; stands = r.1; valid = r.2; below = r.3 }
unknown-in a (AttributeValue q t (ValueOf (OfStyle (style.InUrl (Quoted y AfterBackslash) u))) Closed) h e i = absurd (none_some i.own i.stands)
unknown-in a (AttributeValue q t (ValueOf (OfStyle (style.InUrl (Quoted y (HexDigits k)) u))) Closed) h e i = absurd (none_some i.own i.stands)
unknown-in a (AttributeValue q t (ValueOf (OfStyle (style.InUrl (Quoted y AfterReturn) u))) Closed) h e i = absurd (none_some i.own i.stands)
unknown-in a (AttributeValue q t (ValueOf (OfStyle (style.InUrl Fresh u))) Closed) h e i = absurd (no h)
unknown-in a (AttributeValue q t (ValueOf (OfStyle (style.InUrl Ended u))) Closed) h e i = absurd (no h)
unknown-in a (AttributeValue q t (ValueOf (OfStyle (Out s))) Closed) h e i = absurd (no h)
unknown-in a (AttributeValue q t (ValueOf (OfStyle s)) (Open f bytes)) h e i = absurd (none_some i.own i.stands)
unknown-in a (AttributeValue q t (Deciding k before) r) h e i = absurd (no h)
unknown-in a (InContent element.Style (InLanguage (OfStyle (style.InUrl Bare u))) Nothing) h e i =
    let r = element-bare-in u.triple u.part i.own a h e i.stands i.below in
    record { own = r.0; stands = r.1; valid = r.2; below = r.3 }
unknown-in a (InContent element.Style (InLanguage (OfStyle (style.InUrl (Quoted y NoEscape) u))) Nothing) h e i =
    let r = element-quoted-in y u.triple u.part i.own a h e i.stands i.below in
    record { own = r.0; stands = r.1; valid = r.2; below = r.3 }
unknown-in a (InContent element.Style (InLanguage (OfStyle (style.InUrl (Quoted y AfterBackslash) u))) Nothing) h e i = absurd (none_some i.own i.stands)
unknown-in a (InContent element.Style (InLanguage (OfStyle (style.InUrl (Quoted y (HexDigits k)) u))) Nothing) h e i = absurd (none_some i.own i.stands)
unknown-in a (InContent element.Style (InLanguage (OfStyle (style.InUrl (Quoted y AfterReturn) u))) Nothing) h e i = absurd (none_some i.own i.stands)
unknown-in a (InContent element.Style (InLanguage (OfStyle (style.InUrl Fresh u))) Nothing) h e i = absurd (no h)
unknown-in a (InContent element.Style (InLanguage (OfStyle (style.InUrl Ended u))) Nothing) h e i = absurd (no h)
unknown-in a (InContent element.Style (InLanguage (OfStyle (Out s))) Nothing) h e i = absurd (no h)
unknown-in a (InContent _ (InLanguage (OfStyle s)) Nothing) h e i = absurd (none_some i.own i.stands)
unknown-in a (InContent x (InLanguage (OfStyle s)) PendingLess) h e i = absurd (none_some i.own i.stands)
unknown-in a (InContent x (InLanguage (OfStyle s)) LessAtCut) h e i = absurd (none_some i.own i.stands)
unknown-in a (InContent x (InLanguage (OfStyle s)) (PendingName letters)) h e i = absurd (none_some i.own i.stands)
unknown-in a (InContent x (InLanguage (OfStyle s)) PendingBang) h e i = absurd (none_some i.own i.stands)
unknown-in a (InContent x (InLanguage (OfStyle s)) PendingBangDash) h e i = absurd (none_some i.own i.stands)
unknown-in a (InContent x (InLanguage (OfStyle s)) (PendingOpening letters)) h e i = absurd (none_some i.own i.stands)
unknown-in a (InContent x (InLanguage (OfKind k)) y) h e i = absurd (no h)
unknown-in a (InContent x (InLanguage (OfScript k)) y) h e i = absurd (no h)
unknown-in a (InContent x (InLanguage (OfUrl u)) y) h e i = absurd (no h)
unknown-in a _ h e i = absurd (no h)
