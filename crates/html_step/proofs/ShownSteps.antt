-- What refuses a byte: one member, on whatever path bears it, or two.
use Rattle.std.proofs.Common.{◌≡◌, ◌≤◌, ℕ, Bool, true, false, ◌||◌, ◌&&◌, List, length, Option, Some, None, if◌then◌else◌, refl, sym, ap, ◌∙◌, subst, arith}
use Rattle.place_core.specs.page.Classes.{Class, White, QuotationMark, Apostrophe, Solidus, LessThan, EqualsSign, GreaterThan, GraveAccent, class_of, is_equals_sign}
use Rattle.place_core.specs.page.References.{Form, Reference, Closed, Open, Breaks, as_it_stands, flushed, turn, undone_byte}
use Rattle.place_core.specs.page.Tags.{feed_bytes}
use Rattle.place_core.specs.place.Errors.{PathCause, at_hand, bare_error, body_error, comment_error, equals_error, first_cause, first_error, quotes_error, tag_error, value_error, block_error, pending_error, split_error}
use Rattle.place_core.specs.place.LanguagePlaces.{css_has, parts_have, js_has}
use Rattle.place_core.specs.place.Places.{Has, IsValid, IsValidQuotes, IsValidTag, body_has, joined_bodies, joined_quotes, quotes_have, IsValidBody}
use Rattle.place_core.specs.declared.bare.Bare.{Bare}
use Rattle.place_core.specs.declared.body.Body.{Body}
use Rattle.place_core.specs.declared.body.Body.TheVariants as body
use Rattle.place_core.specs.declared.code.Code.{Code}
use Rattle.place_core.specs.declared.code.Code.TheVariants as code
use Rattle.place_core.specs.declared.css.Css.{Css}
use Rattle.place_core.specs.declared.css.Css.TheVariants as css
use Rattle.place_core.specs.declared.member.Member.{Member}
use Rattle.place_core.specs.declared.member.Member.TheVariants as member
use Rattle.place_core.specs.declared.parts.Parts.{Parts}
use Rattle.place_core.specs.declared.place.Place.{Place}
use Rattle.place_core.specs.declared.place.Place.TheVariants as place
use Rattle.place_core.specs.declared.quotes.Quotes.{Quotes}
use Rattle.place_core.specs.declared.quotes.Quotes.TheVariants as quotes
use Rattle.place_core.specs.declared.tag_of.TagOf.{TagOf}
use Rattle.place_core.specs.declared.tag_of.TagOf.TheVariants as tag
use Rattle.place_core.proofs.Joins.{places_same}
use Rattle.place_core.specs.declared.tag_place.TagPlace.{TagPlace}
use Rattle.place_core.specs.declared.value_place.ValuePlace.{ValuePlace}
use Rattle.place_core.proofs.Semilattices.{none_some, one_value, no_map}
use Rattle.html_scan.specs.Scans.{Scan, At, AfterLess, AfterLessSolidus, InDeclaration, InTagName, InAttributeName, InUrl, InStyle, InStyleElement, InCommentEnd, InContentEnd, open_cut_error, body_cause, parts_feeding, place_cause, quoted_error, scan_cut_error, scan_error, scan_lexeme_error, value_cause, BeforeType, InType, parts_with, triple_behind, url_scan, InScript, script_cause, script_feeding, style_feeding, style_less_cause, written_error, InScriptElement, script_scan_step}
use Rattle.js_step.specs.ScriptScans.{ScriptScan, script_scan_cut_error, script_scan_start}
use Rattle.place_core.specs.page.Contents.{pending_bytes}
use Rattle.html_step.proofs.FedAlike.{first-caused}
use Rattle.html_step.proofs.StyleFedShown.{none-fed}
use Rattle.html_step.proofs.ScriptPaths.{empty_js}
use Rattle.html_step.proofs.ScriptFrom.{IsScriptMember, js-is}
use Rattle.html_step.proofs.ScriptValues as scripts
use Rattle.html_step.proofs.ScriptTold.{below-same}
use Rattle.html_step.proofs.ScriptAlike.{takes-value, told-none}
use Rattle.html_step.proofs.ScriptQuiet.{begun-quiet, script-errors, taken-error}
use Rattle.html_step.specs.Laws.{EvidenceData, apart, one, two}
use Rattle.html_step.specs.Origins.{bare_shows, body_or_quotes, body_parts, body_refusal_shows, byte_shows, colon_shows, end_shows, is_apart, name_origin, place_shows, quotes_show, scan_parts, tag_shows, url_shows, value_shows, begun_script_shows, name_or_quotes, script_back, script_end_shown, script_shown, script_shows, script_step_shows, script_told_shown, script_value_shows, shown_member}
use Rattle.html_step.proofs.BelowScans.{IsRigid, below-at-comment, below-at-tag, below-at-unstyled, below-attribute, below-url, tag-name-rigid, whole-in, below-at-block, before-type-rigid, content-end-rigid, type-rigid, below-at-value, below-script}
use Rattle.html_step.proofs.ApartParts.{IsAmbiguous, apart-inside, bytes-stay, hole-before, hole-bytes, no-colon-fed, or-not}
use Rattle.html_step.proofs.Characters.{ReferencePlain, stands-no-colon}
use Rattle.html_step.proofs.ElementShown.{element-cut, element-lexeme, element-place-shown, element-shown}
use Rattle.html_step.proofs.FromParts.{or-behind, or-either, or-first}
use Rattle.html_step.proofs.FromSteps.{no, or-false, untyped-rigid}
use Rattle.html_step.proofs.FromValues.{in-body, out-part, value_has}
use Rattle.html_step.proofs.ScanOrder.{HasBegun, BegunWhereOpen, ScanHas, ScanValid, Unstyled, bare-parts, begun-open, begun-valid, cause-accepts, parts-below, parts-of-below, within-unstyled, UrlWithin}
use Rattle.html_step.proofs.ShownBytes.{ApartShown, ShownByte, ShownCut, ShownLexeme, TwoShown, by_colon, by_white}
use Rattle.html_step.proofs.StyleShownSteps.{cut-style, lexeme-shown, lexeme-style, place-shown}
use Rattle.html_step.proofs.ReadScans.{Behind, Broken, quoted-read, read_turn, read_value}
use Rattle.html_step.proofs.UrlScans.{ScanPlain, reference_length}
use Rattle.html_step.proofs.ShownUrls.{UrlShown, on_behind, on_each, on_first, quoted-shown, same-quoted}
use Rattle.html_step.proofs.PlaceParts.{Under, TagBelow, ValueBelow, below-value, under-none}
use Rattle.url_lexer.specs.Triples.{Triple, NoTriple, AfterPercent, AfterDigit}
use Rattle.url_step.specs.PartSets.{PartsBelow, spells_apart}
use Rattle.html_step.proofs.ScriptElementQuiet.{step-quiet, element-cut-quiet}
use Rattle.place_core.specs.page.States.{Nothing}

url-valid : (b : Body) → UrlWithin b → IsValidBody b
url-valid (body.Url s) w = w
url-valid _ w = absurd w

one-cause : (x y : PathCause) → Some x ≡ Some y → x ≡ y
one-cause x y e = one_value x y e

evidence-rigid : (f : Scan) (c : Class) (b : ℕ) (e : PathCause) → IsRigid f → scan_error f c b ≡ Some e → ShownByte f c b e (one member.Whole)
evidence-rigid f c b e r h = (whole-in f member.Whole refl, λ g v l o i. ap (λ (x : Scan). scan_error x c b) (r g l) ∙ h)

-- in a tag
evidence-tag : (t : TagPlace) (c : Class) (byte : ℕ) (e : PathCause) (x : Member) → ScanHas (At (place.Tag t)) x
    → ((u : TagPlace) → IsValidTag u → TagBelow u t → ScanHas (At (place.Tag u)) x → at_hand (tag_error u c) ≡ Some e)
    → ShownByte (At (place.Tag t)) c byte e (one x)
evidence-tag t c byte e x h f =
    (h, λ g v l o i. below-at-tag (λ (g : Scan). ScanValid g → ScanHas g x → scan_error g c byte ≡ Some e) t (λ u l v o. f u v l o) g l v o)

evidence-equals : (t : TagPlace) (byte : ℕ) (e : PathCause) (n b : Bool) → IsValidTag t → t.spots.name ≡ n → t.spots.before ≡ b
    → at_hand (tag_error t EqualsSign) ≡ Some e
    → ShownByte (At (place.Tag t)) EqualsSign byte e (one (if n then member.NameSpot else (if b then member.BeforeSpot else member.Whole)))
evidence-equals t byte e true b v n m h = evidence-tag t EqualsSign byte e member.NameSpot n
    (λ u w l o. rw o (subst (λ (x : Bool). at_hand (equals_error x t.spots.before) ≡ Some e) n h))
evidence-equals t byte e false true v n m h =
    evidence-tag t EqualsSign byte e member.BeforeSpot m
    (λ u w l o. rw (under-none u.spots.name t.spots.name l.name n, o)
    (subst (λ (x : Bool). at_hand (equals_error false x) ≡ Some e) m
    (subst (λ (x : Bool). at_hand (equals_error x t.spots.before) ≡ Some e) n h)))
evidence-equals t byte e false false v n m h =
    absurd (none_some e (subst (λ (x : Bool). at_hand (equals_error false x) ≡ Some e) m
    (subst (λ (x : Bool). at_hand (equals_error x t.spots.before) ≡ Some e) n h)))

abbrev quote_error : Bool → Option PathCause
quote_error name = at_hand (Some (if name then code.SplitToken else code.BadHTML))

evidence-quote : (t : TagPlace) (c : Class) (byte : ℕ) (e : PathCause) (n : Bool) → ((u : TagPlace) → at_hand (tag_error u c) ≡ quote_error u.spots.name)
    → t.spots.name ≡ n → at_hand (tag_error t c) ≡ Some e → ShownByte (At (place.Tag t)) c byte e (one (if n then member.NameSpot else member.Whole))
evidence-quote t c byte e true q n h = evidence-tag t c byte e member.NameSpot n (λ u v l o. q u ∙ ap quote_error (o ∙ sym n) ∙ sym (q t) ∙ h)
evidence-quote t c byte e false q n h = evidence-tag t c byte e member.Whole refl
    (λ u v l o. q u ∙ ap quote_error (under-none u.spots.name t.spots.name l.name n ∙ sym n) ∙ sym (q t) ∙ h)

abbrev goes_on_error : Bool → Option PathCause
goes_on_error b = at_hand (if b then Some code.SplitToken else None)

evidence-goes : (t : TagPlace) (c : Class) (byte : ℕ) (e : PathCause) (n i : Bool)
    → ((u : TagPlace) → at_hand (tag_error u c) ≡ goes_on_error (u.spots.name || u.spots.inside)) → t.spots.name ≡ n → t.spots.inside ≡ i
    → at_hand (tag_error t c) ≡ Some e → ShownByte (At (place.Tag t)) c byte e (one (if n then member.NameSpot else member.InsideSpot))
evidence-goes t c byte e true i q n j h = evidence-tag t c byte e member.NameSpot n
    (λ u v l o. q u ∙ ap (λ (x : Bool). goes_on_error (x || u.spots.inside)) o ∙ sym (ap (λ (x : Bool). goes_on_error (x || t.spots.inside)) n) ∙ sym (q t) ∙ h)
evidence-goes t c byte e false true q n j h =
    evidence-tag t c byte e member.InsideSpot j
    (λ u v l o. q u ∙ ap (λ (x : Bool). goes_on_error (x || u.spots.inside)) (under-none u.spots.name t.spots.name l.name n) ∙ ap goes_on_error o
    ∙ sym (ap (λ (x : Bool). goes_on_error (x || t.spots.inside)) n ∙ ap goes_on_error j) ∙ sym (q t) ∙ h)
evidence-goes t c byte e false false q n j h = absurd
    (none_some e (sym (ap (λ (x : Bool). goes_on_error (x || t.spots.inside)) n ∙ ap goes_on_error j) ∙ sym (q t) ∙ h))

evidence-tag-byte : (t : TagPlace) (c : Class) (byte : ℕ) (e : PathCause) → IsValidTag t → at_hand (tag_error t c) ≡ Some e
    → ShownByte (At (place.Tag t)) c byte e (one (tag_shows c t.spots))
evidence-tag-byte t White byte e v h = absurd (none_some e h)
evidence-tag-byte t Solidus byte e v h = absurd (none_some e h)
evidence-tag-byte t GreaterThan byte e v h = absurd (none_some e h)
evidence-tag-byte t EqualsSign byte e v h = evidence-equals t byte e t.spots.name t.spots.before v refl refl h
evidence-tag-byte t QuotationMark byte e v h = evidence-quote t QuotationMark byte e t.spots.name (λ u. refl) refl h
evidence-tag-byte t Apostrophe byte e v h = evidence-quote t Apostrophe byte e t.spots.name (λ u. refl) refl h
evidence-tag-byte t LessThan byte e v h = evidence-quote t LessThan byte e t.spots.name (λ u. refl) refl h
evidence-tag-byte t _ byte e v h = evidence-goes t _ byte e t.spots.name t.spots.inside (λ u. refl) refl refl h

-- In a value, at a place and in a URL in a triple or a reference.
abbrev pub ValueOne : ValuePlace → Reference → Class → ℕ → PathCause → Member → Type 0
ValueOne v r c b e x = Has (place.Value v) x
    × ((u : ValuePlace) → IsValidQuotes u.quotes → IsValidBody u.body → BegunWhereOpen r u.quotes → ValueBelow u v → Has (place.Value u) x → value_cause u r c b ≡ Some e)

pub record ValueApart (v : ValuePlace) (r : Reference) (c : Class) (b : ℕ) (e : PathCause) : Type 0 where
  pub there : is_apart (body_parts v.body) ≡ true
  pub code : e.code ≡ code.AmbigContext
  pub back : e.back ≤ reference_length r
  pub refuses : (u : ValuePlace) → IsValidQuotes u.quotes → BegunWhereOpen r u.quotes → ValueBelow u v → is_apart (body_parts u.body) ≡ true
      → value_cause u r c b ≡ Some e

abbrev pub ValueShown : ValuePlace → Scan → Reference → Class → ℕ → PathCause → EvidenceData → Type 0
ValueShown v f r c b e (one x) = ValueOne v r c b e x
ValueShown v f r c b e (two x y) = TwoShown f c b e x y
ValueShown v f r c b e apart = ValueApart v r c b e

same-body-error : (b c : Body) → joined_bodies b c ≡ Some c → body_error b ≡ body_error c
same-body-error body.Plain body.Plain h = refl
same-body-error body.NoHole body.NoHole h = refl
same-body-error (body.Url p) (body.Url q) h = refl
same-body-error (body.Js p) (body.Js q) h = refl
same-body-error (body.Css p) (body.Css q) h = refl
same-body-error body.Plain c h = absurd (none_some c h)
same-body-error body.NoHole c h = absurd (none_some c h)
same-body-error (body.Url p) c h = absurd (none_some c h)
same-body-error (body.Js p) c h = absurd (none_some c h)
same-body-error (body.Css p) c h = absurd (none_some c h)

-- where a URL refuses nothing, what refuses stands in the quotes
one-by : (v : ValuePlace) (r : Reference) (c : Class) (b : ℕ) (e : PathCause) (x : Member)
    → body_cause v.body v.quotes r c b ≡ None → Has (place.Value v) x
    → ((u : ValuePlace) → ValueBelow u v → Has (place.Value u) x → at_hand (value_error u c) ≡ Some e) → ValueOne v r c b e x
one-by v r c b e x m h f = (
  h,
  λ u w z i l o. ap (λ (p : Option PathCause). first_cause p (at_hand (value_error u c)))
      (cause-accepts u.body v.body u.quotes v.quotes r c b z l.body l.quotes i m) ∙ f u l o,
)

-- in a value that is built a member of its quotes is one of them
pub quotes-only : (b : Body) (q : Quotes) (m : Member) → body_error b ≡ None → ((s : Parts) → parts_have s m ≡ true → ⊥) → ((p : Css) → css_has p m ≡ true → ⊥)
    → (IsScriptMember m → ⊥) → (quotes_have q m || body_has b m) ≡ true → quotes_have q m ≡ true
quotes-only body.Plain q m n f g j h = or-false (quotes_have q m) h
quotes-only body.NoHole q m n f g j h = or-false (quotes_have q m) h
quotes-only (body.Url p) q m n f g j h = or-either (quotes_have q m ≡ true) (quotes_have q m) (parts_have p m) h (λ k. k) (λ k. absurd (f p k))
quotes-only (body.Js p) q m n f g j h = or-either (quotes_have q m ≡ true) (quotes_have q m) (js_has p m) h (λ k. k) (λ k. absurd (j (js-is p m k)))
quotes-only (body.Css p) q m n f g j h = or-either (quotes_have q m ≡ true) (quotes_have q m) (css_has p m) h (λ k. k) (λ k. absurd (g p k))

css-unquoted : (p : Css) → css_has p member.UnquotedValue ≡ true → ⊥
css-unquoted (css.Code x) h = no h
css-unquoted (css.Url s) h = no h
css-unquoted (css.UrlDq s) h = no h
css-unquoted (css.UrlSq s) h = no h
css-unquoted (css.Comment x) h = no h
css-unquoted _ h = no h

-- a value without quotes: what is below it has none
bare-below : (P : Quotes → Type 0) (r : Bare) → ((s : Bare) → Under s.uq r.uq → Under s.unbegun r.unbegun → P (quotes.Bare s)) → (q : Quotes)
    → joined_quotes q (quotes.Bare r) ≡ Some (quotes.Bare r) → P q
bare-below P r f (quotes.Bare s) h = let p = bare-parts s r h in f s p.0 p.1
bare-below P r f quotes.Dq h = absurd (none_some (quotes.Bare r) h)
bare-below P r f quotes.Sq h = absurd (none_some (quotes.Bare r) h)

same-if-built : (u : ValuePlace) (o : Option PathCause) (c : Class) → body_error u.body ≡ None → at_hand (quotes_error u.tag u.quotes c) ≡ o
    → at_hand (value_error u c) ≡ o
same-if-built u o c n h = ap (λ (x : Option Code). at_hand (first_error x (quotes_error u.tag u.quotes c))) n ∙ h

-- whatever stands there
evidence-bare : (t : ValuePlace) (p : Bare) (r : Reference) (c : Class) (b : ℕ) (e : PathCause) → body_cause t.body t.quotes r c b ≡ None
    → t.quotes ≡ quotes.Bare p
    → body_error t.body ≡ None → at_hand (bare_error t.tag p c) ≡ Some e → ((s : Bare) → bare_error t.tag s c ≡ bare_error t.tag p c)
    → ValueOne t r c b e member.Whole
evidence-bare t p r c b e m q n h same =
    one-by t r c b e member.Whole m refl
    (λ u l o. same-if-built u (Some e) c (same-body-error u.body t.body l.body ∙ n)
    (ap (λ (x : TagOf). at_hand (quotes_error x u.quotes c)) l.tag
    ∙ bare-below (λ (z : Quotes). at_hand (quotes_error t.tag z c) ≡ Some e) p (λ s a d. ap at_hand (same s) ∙ h) u.quotes
    (subst (λ (z : Quotes). joined_quotes u.quotes z ≡ Some z) q l.quotes)))

or-end : (x y : Bool) → x ≡ true → (x || y) ≡ true
or-end x y h = rw h refl

-- a quotation mark where a value may have begun
evidence-uq : (t : ValuePlace) (p : Bare) (r : Reference) (c : Class) (b : ℕ) (e : PathCause) → body_cause t.body t.quotes r c b ≡ None
    → t.quotes ≡ quotes.Bare p
    → body_error t.body ≡ None → p.uq ≡ true → at_hand (bare_error t.tag p c) ≡ Some e
    → ((x : TagOf) (s : Bare) → bare_error x s c ≡ (if s.uq then Some code.BadHTML else None)) → ValueOne t r c b e member.UnquotedValue
evidence-uq t p r c b e m q n uq h same =
    one-by t r c b e member.UnquotedValue m
    (or-end (quotes_have t.quotes member.UnquotedValue) (body_has t.body member.UnquotedValue)
    (ap (λ (z : Quotes). quotes_have z member.UnquotedValue) q ∙ uq))
    (λ u l o. let built : body_error u.body ≡ None = same-body-error u.body t.body l.body ∙ n in
    same-if-built u (Some e) c built
    (bare-below (λ (z : Quotes). quotes_have z member.UnquotedValue ≡ true → at_hand (quotes_error u.tag z c) ≡ Some e) p
    (λ s a d there. ap at_hand (same u.tag s ∙ ap (λ (x : Bool). if x then Some code.BadHTML else None) (there ∙ sym uq) ∙ sym (same t.tag p)) ∙ h)
    u.quotes (subst (λ (z : Quotes). joined_quotes u.quotes z ≡ Some z) q l.quotes) (quotes-only u.body u.quotes member.UnquotedValue built (λ a k. no k) css-unquoted (λ i. i) o)))

if-some : (b : Bool) (e : Code) (x : PathCause) → at_hand (if b then Some e else None) ≡ Some x → b ≡ true
if-some true e x h = refl
if-some false e x h = absurd (none_some x h)

if-is : (b : Bool) (e : Code) (x : PathCause) → at_hand (if b then Some e else None) ≡ Some x → x ≡ record { code = e; back = 0; shown = 0 }
if-is true e x h = one-cause x (record { code = e; back = 0; shown = 0 }) (sym h)
if-is false e x h = absurd (none_some x h)

both-true : (x y : Bool) → (x && y) ≡ true → (x ≡ true) × (y ≡ true)
both-true true true h = (refl, refl)
both-true true false h = absurd (no h)
both-true false y h = absurd (no h)

evidence-bare-byte : (t : ValuePlace) (f : Scan) (p : Bare) (r : Reference) (c : Class) (b : ℕ) (e : PathCause)
    → ((y : Member) → Has (place.Value t) y → ScanHas f y)
    → body_cause t.body t.quotes r c b ≡ None → t.quotes ≡ quotes.Bare p → body_error t.body ≡ None → at_hand (bare_error t.tag p c) ≡ Some e
    → ValueShown t f r c b e (bare_shows c)
evidence-bare-byte t f p r White b e into m q n h =
    let d = both-true p.uq p.unbegun (if-some (p.uq && p.unbegun) code.AmbigContext e h) in
    by_white refl refl refl
    (into member.UnquotedValue
    (or-end (quotes_have t.quotes member.UnquotedValue) (body_has t.body member.UnquotedValue)
    (ap (λ (z : Quotes). quotes_have z member.UnquotedValue) q ∙ d.0)))
    (into member.UnbegunValue
    (or-end (quotes_have t.quotes member.UnbegunValue) (body_has t.body member.UnbegunValue)
    (ap (λ (z : Quotes). quotes_have z member.UnbegunValue) q ∙ d.1)))
    (if-is (p.uq && p.unbegun) code.AmbigContext e h)
evidence-bare-byte t f p r QuotationMark b e into m q n h = evidence-uq t p r QuotationMark b e m q n (if-some p.uq code.BadHTML e h) h (λ x s. refl)
evidence-bare-byte t f p r Apostrophe b e into m q n h = evidence-uq t p r Apostrophe b e m q n (if-some p.uq code.BadHTML e h) h (λ x s. refl)
evidence-bare-byte t f p r LessThan b e into m q n h = evidence-bare t p r LessThan b e m q n h (λ s. refl)
evidence-bare-byte t f p r EqualsSign b e into m q n h = evidence-bare t p r EqualsSign b e m q n h (λ s. refl)
evidence-bare-byte t f p r GraveAccent b e into m q n h = evidence-bare t p r GraveAccent b e m q n h (λ s. refl)
evidence-bare-byte t f p r GreaterThan b e into m q n h = evidence-bare t p r GreaterThan b e m q n h (λ s. refl)
evidence-bare-byte t f p r _ b e into m q n h = absurd (none_some e h)

evidence-quoted : (t : ValuePlace) (f : Scan) (q : Quotes) (r : Reference) (c : Class) (b : ℕ) (e : PathCause)
    → ((y : Member) → Has (place.Value t) y → ScanHas f y)
    → body_cause t.body t.quotes r c b ≡ None → t.quotes ≡ q → body_error t.body ≡ None → at_hand (quotes_error t.tag q c) ≡ Some e
    → ValueShown t f r c b e (quotes_show None q c)
evidence-quoted t f (quotes.Bare p) r c b e into m q n h = evidence-bare-byte t f p r c b e into m q n h
evidence-quoted t f quotes.Dq r c b e into m q n h = absurd (none_some e h)
evidence-quoted t f quotes.Sq r c b e into m q n h = absurd (none_some e h)

evidence-in-quotes : (t : ValuePlace) (f : Scan) (r : Reference) (c : Class) (b : ℕ) (e : PathCause) (o : Option Code)
    → ((y : Member) → Has (place.Value t) y → ScanHas f y)
    → body_cause t.body t.quotes r c b ≡ None → body_error t.body ≡ o → at_hand (value_error t c) ≡ Some e
    → ValueShown t f r c b e (quotes_show o t.quotes c)
evidence-in-quotes t f r c b e None into m n h =
    evidence-quoted t f t.quotes r c b e into m refl n (sym (same-if-built t (at_hand (quotes_error t.tag t.quotes c)) c n refl) ∙ h)
evidence-in-quotes t f r c b e (Some x) into m n h =
    one-by t r c b e member.Whole m refl
    (λ u l o. ap (λ (y : Option Code). at_hand (first_error y (quotes_error u.tag u.quotes c))) (same-body-error u.body t.body l.body ∙ n)
    ∙ sym (ap (λ (y : Option Code). at_hand (first_error y (quotes_error t.tag t.quotes c))) n) ∙ h)

-- What a URL refuses: the same is refused of each value below, whose parts are refused so.
url-cause : (u v : ValuePlace) (t : Parts) (r : Reference) (c : Class) (b : ℕ) (e : PathCause) → c ≡ class_of b → u.body ≡ body.Url t
    → BegunWhereOpen r u.quotes
    → joined_quotes u.quotes v.quotes ≡ Some v.quotes → quoted_error parts_feeding v.quotes t r c b ≡ Some e
    → value_cause u r c b ≡ Some e
url-cause u v t r c b e k d i j h =
    ap (λ (x : Body). first_cause (body_cause x u.quotes r c b) (at_hand (value_error u c))) d
    ∙ ap (λ (o : Option PathCause). first_cause o (at_hand (value_error u c))) (same-quoted u.quotes v.quotes r t c b k j i ∙ h)

-- a value below is refused where its parts are
each-below : (P : Parts → Type 0) (v : ValuePlace) (s : Parts) (r : Reference) (c : Class) (b : ℕ) (e : PathCause) → c ≡ class_of b → v.body ≡ body.Url s
    → ((t : Parts) → PartsBelow t s → P t → quoted_error parts_feeding v.quotes t r c b ≡ Some e)
    → (u : ValuePlace) → BegunWhereOpen r u.quotes → ValueBelow u v → ((t : Parts) → u.body ≡ body.Url t → P t) → value_cause u r c b ≡ Some e
each-below P v s r c b e k d refuses u a l f =
    let p = parts-of-below u.body s (subst (λ (z : Body). joined_bodies u.body z ≡ Some z) d l.body) in
    url-cause u v p.0 r c b e k p.1 a l.quotes (refuses p.0 p.2 (f p.0 p.1))

hole-there : (v : ValuePlace) (s : Parts) → v.body ≡ body.Url s → s.openhole ≡ true → Has (place.Value v) member.PartOpenhole
hole-there v s d h =
    subst (λ (z : Body). value_has v.typed v.quotes z member.PartOpenhole ≡ true) (sym d) (in-body v.typed v.quotes (body.Url s) member.PartOpenhole h)

hole-in : (s t : Parts) (u : ValuePlace) → s.openhole ≡ true → Has (place.Value u) member.PartOpenhole → u.body ≡ body.Url t → t.openhole ≡ true
hole-in s t u h o d =
    out-part s t u.typed u.quotes member.PartOpenhole h (subst (λ (z : Body). value_has u.typed u.quotes z member.PartOpenhole ≡ true) d o)

-- a `:` behind a hole
one-hole : (v : ValuePlace) (s : Parts) (r : Reference) (c : Class) (b : ℕ) (e : PathCause) → c ≡ class_of b → v.body ≡ body.Url s → s.openhole ≡ true
    → ((t : Parts) → PartsBelow t s → t.openhole ≡ true → quoted_error parts_feeding v.quotes t r c b ≡ Some e) → ValueOne v r c b e member.PartOpenhole
one-hole v s r c b e k d h refuses = (
  hole-there v s d h,
  λ u q w a l o. each-below (λ (t : Parts). t.openhole ≡ true) v s r c b e k d refuses u a l (λ t m. hole-in s t u h o m),
)

behind-hole : (xs : List ℕ) (s t : Parts) → IsAmbiguous (feed_bytes parts_feeding s xs) → t.openhole ≡ true → IsAmbiguous (feed_bytes parts_feeding t xs)
behind-hole xs s t i k =
    let z = feed_bytes parts_feeding s xs in
    let w = feed_bytes parts_feeding t xs in
    or-first w.openhole (spells_apart w.opened)
    (or-either (w.openhole ≡ true) z.openhole (spells_apart z.opened) i (λ h. hole-bytes xs s t h k) (λ h. (bytes-stay xs s t (apart-inside z h)).hole k))

-- one where paths have spelled different things
behind-apart : (xs : List ℕ) (s t : Parts) → s.openhole ≡ false → IsAmbiguous (feed_bytes parts_feeding s xs) → spells_apart t.opened ≡ true
    → IsAmbiguous (feed_bytes parts_feeding t xs)
behind-apart xs s t n i k =
    let z = feed_bytes parts_feeding s xs in
    let w = feed_bytes parts_feeding t xs in
    or-behind w.openhole (spells_apart w.opened)
    (or-either (spells_apart w.opened ≡ true) z.openhole (spells_apart z.opened) i (λ h. absurd (no (sym n ∙ hole-before xs s h)))
    (λ h. (bytes-stay xs s t (apart-inside z h)).met k))

value-apart : (v : ValuePlace) (s : Parts) (r : Reference) (c : Class) (b : ℕ) (e : PathCause) → c ≡ class_of b → v.body ≡ body.Url s
    → spells_apart s.opened ≡ true → e.code ≡ code.AmbigContext → e.back ≤ reference_length r
    → ((t : Parts) → PartsBelow t s → spells_apart t.opened ≡ true → quoted_error parts_feeding v.quotes t r c b ≡ Some e) → ValueApart v r c b e
value-apart v s r c b e k d h i l refuses = record {
  there = ap (λ (z : Body). is_apart (body_parts z)) d ∙ h;
  code = i;
  back = l;
  refuses = λ u q a m o.
      each-below (λ (t : Parts). spells_apart t.opened ≡ true) v s r c b e k d refuses u a m (λ t n. sym (ap (λ (z : Body). is_apart (body_parts z)) n) ∙ o);
}

abbrev code_is_html : Code → Bool
code_is_html code.BadHTML = true
code_is_html e = false

shows-code : (s : Parts) (e : Code) → (if code_is_html e then one member.Whole else colon_shows s) ≡ url_shows s e
shows-code s code.BadHTML = refl
shows-code s _ = refl

not-open : {A : Type 0} (k : Form) (bytes : List ℕ) → Closed ≡ Open k bytes → A
not-open k bytes h = cc

-- where it is neither, they come apart in the reference that the byte breaks
neither-behind : (xs : List ℕ) (s : Parts) → s.openhole ≡ false → IsAmbiguous (feed_bytes parts_feeding s xs)
    → (spells_apart (feed_bytes parts_feeding s xs).opened ≡ true) × ((feed_bytes parts_feeding s xs).openhole ≡ false)
neither-behind xs s n i =
    let z = feed_bytes parts_feeding s xs in
    let none = or-not z.openhole (λ h. no (sym n ∙ hole-before xs s h)) in
    (or-either (spells_apart z.opened ≡ true) z.openhole (spells_apart z.opened) i (λ h. absurd (no (sym none ∙ h))) (λ h. h), none)

neither-here : (x y : Bool) → x ≡ false → y ≡ false → (x || y) ≡ true → ⊥
neither-here false y i j h = no (sym j ∙ h)
neither-here true y i j h = no (sym i)

other-code : code.BadHTML ≡ code.AmbigContext → ⊥
other-code e = cc

abbrev only-url : Parts → ValuePlace
only-url s = record { tag = tag.End; typed = false; quotes = quotes.Dq; body = body.Url s }

parts-same : (s : Parts) → PartsBelow s s
parts-same s = parts-below s s ((below-value (only-url s) (only-url s) (places_same (place.Value (only-url s)))).body)

colon-by : (v : ValuePlace) (f : Scan) (s : Parts) (r : Reference) (c : Class) (b : ℕ) (e : PathCause) (x y : Bool) → s.openhole ≡ x → spells_apart s.opened ≡ y
    → ((k : Form) (bytes : List ℕ) → r ≡ Open k bytes → (t : Triple) × (f ≡ InUrl v t (Open k bytes))) → c ≡ class_of b → v.body ≡ body.Url s
    → UrlShown s r c e (λ t. quoted_error parts_feeding v.quotes t r c b)
    → ValueShown v f r c b e (if code_is_html e.code then one member.Whole else
    (if x then one member.PartOpenhole else (if y then apart else two member.PartStart member.PartOpen)))
colon-by v f s r c b e x y hx hy into k d (on_each i refuses) =
    subst (λ (z : Bool). ValueShown v f r c b e (if z then one member.Whole else
    (if x then one member.PartOpenhole else (if y then apart else two member.PartStart member.PartOpen)))) (sym (ap code_is_html i))
    (refl, λ u q w a l o. each-below (λ (t : Parts). Unit {0}) v s r c b e k d (λ t m n. refuses t) u a l (λ t m. tt))
colon-by v f s r c b e true y hx hy into k d (on_first back i l there refuses) =
    subst (λ (z : Bool). ValueShown v f r c b e (if z then one member.Whole else one member.PartOpenhole)) (sym (ap (λ (z : PathCause). code_is_html z.code) i))
    (one-hole v s r c b e k d hx (λ t m n. refuses t (or-first t.openhole (spells_apart t.opened) n)))
colon-by v f s r c b e true y hx hy into k d (on_behind w bytes j q i n there refuses) =
    subst (λ (z : Bool). ValueShown v f r c b e (if z then one member.Whole else one member.PartOpenhole)) (sym (ap (λ (z : PathCause). code_is_html z.code) i))
    (one-hole v s r c b e k d hx (λ t m o. refuses t m (behind-hole (flushed true (is_equals_sign c) w bytes) s t there o)))
colon-by v f s r c b e false true hx hy into k d (on_first back i l there refuses) =
    subst (λ (z : Bool). ValueShown v f r c b e (if z then one member.Whole else apart)) (sym (ap (λ (z : PathCause). code_is_html z.code) i))
    (value-apart v s r c b e k d hy (ap (λ (z : PathCause). z.code) i) (subst (λ (z : ℕ). z ≤ reference_length r) (sym (ap (λ (z : PathCause). z.back) i)) l)
    (λ t m n. refuses t (or-behind t.openhole (spells_apart t.opened) n)))
colon-by v f s r c b e false true hx hy into k d (on_behind w bytes j q i n there refuses) =
    subst (λ (z : Bool). ValueShown v f r c b e (if z then one member.Whole else apart)) (sym (ap (λ (z : PathCause). code_is_html z.code) i))
    (value-apart v s r c b e k d hy (ap (λ (z : PathCause). z.code) i)
    (subst (λ (z : ℕ). z ≤ reference_length r) (sym (ap (λ (z : PathCause). z.back) i)) (omega arith))
    (λ t m o. refuses t m (behind-apart (flushed true (is_equals_sign c) w bytes) s t hx there o)))
colon-by v f s r c b e false false hx hy into k d (on_first back i l there refuses) = absurd (neither-here s.openhole (spells_apart s.opened) hx hy there)
colon-by v f s r c b e false false hx hy into k d (on_behind w bytes j q i n there refuses) =
    let at = into w bytes j in
    let m = neither-behind (flushed true (is_equals_sign c) w bytes) s hx there in
    subst (λ (z : Bool). ValueShown v f r c b e (if z then one member.Whole else two member.PartStart member.PartOpen))
    (sym (ap (λ (z : PathCause). code_is_html z.code) i))
    (by_colon v at.0 w bytes s at.1 d q n hy m.0 m.1
    (sym (ap (λ (z : Reference). quoted_error parts_feeding v.quotes s z c b) j) ∙ refuses s (parts-same s) there) refl refl i)

evidence-url : (v : ValuePlace) (f : Scan) (x : Body) (r : Reference) (c : Class) (b : ℕ) (e : PathCause)
    → ((k : Form) (bytes : List ℕ) → r ≡ Open k bytes → (t : Triple) × (f ≡ InUrl v t (Open k bytes)))
    → c ≡ class_of b → BegunWhereOpen r v.quotes → ReferencePlain r → Unstyled x → v.body ≡ x → body_cause x v.quotes r c b ≡ Some e
    → ValueShown v f r c b e (body_refusal_shows x (undone_byte true r c b) e.code)
evidence-url v f (body.Url s) r c b e into g a n z d h =
    subst (ValueShown v f r c b e) (shows-code s e.code)
    (colon-by v f s r c b e s.openhole (spells_apart s.opened) refl refl into g d (quoted-shown v.quotes r s c b e a n h))
evidence-url v f (body.Css s) r c b e into g a n z d h = absurd z
evidence-url v f (body.Js s) r c b e into g a n z d h = absurd z
evidence-url v f _ r c b e into g a n z d h = absurd (none_some e h)

by-cause : (v : ValuePlace) (f : Scan) (r : Reference) (c : Class) (b : ℕ) (e : PathCause) (o : Option PathCause)
    → ((y : Member) → Has (place.Value v) y → ScanHas f y)
    → ((k : Form) (bytes : List ℕ) → r ≡ Open k bytes → (t : Triple) × (f ≡ InUrl v t (Open k bytes)))
    → c ≡ class_of b → BegunWhereOpen r v.quotes → ReferencePlain r → Unstyled v.body → body_cause v.body v.quotes r c b ≡ o
    → first_cause o (at_hand (value_error v c)) ≡ Some e → ValueShown v f r c b e (body_or_quotes o v.body (undone_byte true r c b) (quotes_show (body_error v.body) v.quotes c))
by-cause v f r c b e None has into g a n z m h = evidence-in-quotes v f r c b e (body_error v.body) has m refl h
by-cause v f r c b e (Some x) has into g a n z m h =
    subst (λ (z : PathCause). ValueShown v f r c b e (body_refusal_shows v.body (undone_byte true r c b) z.code)) (sym (one_value x e h)) (evidence-url v f v.body r c b e into g a n z refl (m ∙ h))

evidence-value-byte : (v : ValuePlace) (f : Scan) (r : Reference) (c : Class) (b : ℕ) (e : PathCause) → ((y : Member) → Has (place.Value v) y → ScanHas f y)
    → ((k : Form) (bytes : List ℕ) → r ≡ Open k bytes → (t : Triple) × (f ≡ InUrl v t (Open k bytes)))
    → c ≡ class_of b → BegunWhereOpen r v.quotes → ReferencePlain r → Unstyled v.body → value_cause v r c b ≡ Some e
    → ValueShown v f r c b e (value_shows v r c b)
evidence-value-byte v f r c b e has into g a n z h = by-cause v f r c b e (body_cause v.body v.quotes r c b) has into g a n z refl h

-- at a place, and in a triple or a reference
at-value : (v : ValuePlace) (c : Class) (b : ℕ) (e : PathCause) (y : EvidenceData) → Unstyled v.body → ValueShown v (At (place.Value v)) Closed c b e y
    → ShownByte (At (place.Value v)) c b e y
at-value v c b e (one x) z h =
    (h.0, λ g w l o i. below-at-unstyled (λ (g : Scan). ScanValid g → ScanHas g x → scan_error g c b ≡ Some e) v z (λ u l w o. h.1 u w.0 w.1 tt l o) g l w o)
at-value v c b e (two x y) z h = h
at-value v c b e apart z h = record {
  there = h.there;
  code = h.code;
  back = h.back;
  refuses = λ g w l o.
      below-at-unstyled (λ (g : Scan). ScanValid g → is_apart (scan_parts g) ≡ true → scan_error g c b ≡ Some e) v z (λ u l w o. h.refuses u w.0 tt l o) g l w o;
}

in-url : (v : ValuePlace) (t : Triple) (r : Reference) (c : Class) (b : ℕ) (e : PathCause) (y : EvidenceData) → ValueShown v (InUrl v t r) r c b e y
    → ShownByte (InUrl v t r) c b e y
in-url v t r c b e (one x) h = (
  h.0,
  λ g w l o i. below-url (λ (g : Scan). ScanValid g → ScanHas g x → scan_error g c b ≡ Some e) v t r
      (λ u l w o. h.1 u (begun-valid u.quotes w.0) (url-valid u.body w.1) (begun-open r u.quotes w.0) l o) g l w o,
)
in-url v t r c b e (two x y) h = h
in-url v t r c b e apart h = record {
  there = h.there;
  code = h.code;
  back = h.back;
  refuses = λ g w l o.
      below-url (λ (g : Scan). ScanValid g → is_apart (scan_parts g) ≡ true → scan_error g c b ≡ Some e) v t r
      (λ u l w o. h.refuses u (begun-valid u.quotes w.0) (begun-open r u.quotes w.0) l o) g l w o;
}

-- in a comment
evidence-comment : (dash : Bool) (c : Class) (byte : ℕ) (e : PathCause) → at_hand (comment_error dash c) ≡ Some e
    → ShownByte (At (place.Comment dash)) c byte e (one member.CommentDash)
evidence-comment true c byte e h = (
  refl,
  λ g v l o i. below-at-comment (λ (g : Scan). ScanHas g member.CommentDash → scan_error g c byte ≡ Some e) true
      (λ x u o. subst (λ (z : Bool). at_hand (comment_error z c) ≡ Some e) (sym o) h) g l o,
)
evidence-comment false c byte e h = absurd (none_some e h)

-- in a data block, after a `<`
evidence-block : (less : Bool) (c : Class) (byte : ℕ) (e : PathCause) → at_hand (block_error less c) ≡ Some e
    → ShownByte (At (place.Block less)) c byte e (one member.BlockLt)
evidence-block true c byte e h = (
  refl,
  λ g v l o i. below-at-block (λ (g : Scan). ScanHas g member.BlockLt → scan_error g c byte ≡ Some e) true
      (λ x u o. subst (λ (z : Bool). at_hand (block_error z c) ≡ Some e) (sym o) h) g l o,
)
evidence-block false c byte e h = absurd (none_some e h)

-- In a value that is a script, where the script refuses nothing.
js-not-style : (j : _) (s : Css) → body.Js j ≡ body.Css s → ⊥
js-not-style j s e = cc

at-js : (v : ValuePlace) (c : Class) (b : ℕ) (e : PathCause) (y : EvidenceData) (j : _) → v.body ≡ body.Js j → ValueShown v (At (place.Value v)) Closed c b e y
    → ShownByte (At (place.Value v)) c b e y
at-js v c b e (one x) j d h = (
  h.0,
  λ g w l o i. below-at-value (λ (g : Scan). ScanValid g → ScanHas g x → scan_error g c b ≡ Some e) v (λ u l w o. h.1 u w.0 w.1 tt l o)
      (λ u n s i l. absurd (js-not-style j s (sym d ∙ i))) g l w o,
)
at-js v c b e (two x y) j d h = h
at-js v c b e apart j d h = absurd (no (ap (λ (z : Body). is_apart (body_parts z)) (sym d) ∙ h.there))

js-value : (v : ValuePlace) (c : Class) (b : ℕ) (e : PathCause) (j : _) → v.body ≡ body.Js j → begun_script_shows v.body v.quotes c b ≡ None
    → value_cause v Closed c b ≡ Some e → ShownByte (At (place.Value v)) c b e (value_shows v Closed c b)
js-value v c b e j d q h =
    let m = begun-quiet v.body v.quotes c b j d q in
    let n : body_error v.body ≡ None = ap body_error d in
    let shows : value_shows v Closed c b ≡ quotes_show None v.quotes c =
    ap (λ (o : Option PathCause). body_or_quotes o v.body (undone_byte true Closed c b) (quotes_show (body_error v.body) v.quotes c)) m
    ∙ ap (λ (o : Option Code). quotes_show o v.quotes c) n in
    subst (ShownByte (At (place.Value v)) c b e) (sym shows)
    (at-js v c b e (quotes_show None v.quotes c) j d
    (evidence-in-quotes v (At (place.Value v)) Closed c b e None (λ y o. o) m n
    (sym (ap (λ (o : Option PathCause). first_cause o (at_hand (value_error v c))) m) ∙ h)))

-- within it
script-quotes-by : (v : ValuePlace) (n : ScriptScan) (r : Reference) (c : Class) (b : ℕ) (e : PathCause) (q : Quotes) → v.quotes ≡ q → HasBegun q
    → ((y : Member) → ScanHas (InScript v n r) y → ShownByte (InScript v n r) c b e (one y)) → at_hand (quotes_error v.tag q c) ≡ Some e
    → ShownByte (InScript v n r) c b e (quotes_show None q c)
script-quotes-by v n r c b e quotes.Dq d g f h = f member.Whole refl
script-quotes-by v n r c b e quotes.Sq d g f h = f member.Whole refl
script-quotes-by v n r White b e (quotes.Bare p) d g f h =
    absurd (no (sym g.1 ∙ (both-true p.uq p.unbegun (if-some (p.uq && p.unbegun) code.AmbigContext e h)).1))
script-quotes-by v n r QuotationMark b e (quotes.Bare p) d g f h =
    f member.UnquotedValue (scripts.in-quotes v.typed v.quotes n member.UnquotedValue (ap (λ (z : Quotes). quotes_have z member.UnquotedValue) d ∙ g.0))
script-quotes-by v n r Apostrophe b e (quotes.Bare p) d g f h =
    f member.UnquotedValue (scripts.in-quotes v.typed v.quotes n member.UnquotedValue (ap (λ (z : Quotes). quotes_have z member.UnquotedValue) d ∙ g.0))
script-quotes-by v n r c b e (quotes.Bare p) d g f h = f member.Whole refl

script-byte-by : (v : ValuePlace) (n : ScriptScan) (r : Reference) (c : Class) (b : ℕ) (e : PathCause) (o : Option PathCause) → HasBegun v.quotes
    → v.body ≡ body.Js empty_js → ((y : Member) → ScanHas (InScript v n r) y → ShownByte (InScript v n r) c b e (one y))
    → first_cause o (at_hand (value_error v c)) ≡ Some e
    → ShownByte (InScript v n r) c b e (name_or_quotes o (quotes_show None v.quotes c))
script-byte-by v n r c b e (Some x) g d f h = f member.Whole refl
script-byte-by v n r c b e None g d f h =
    script-quotes-by v n r c b e v.quotes refl g f
    (sym (ap (λ (z : Body). at_hand (first_error (body_error z) (quotes_error v.tag v.quotes c))) d) ∙ h)

script-byte : (v : ValuePlace) (n : ScriptScan) (r : Reference) (c : Class) (b : ℕ) (e : PathCause) → ScanValid (InScript v n r)
    → script_step_shows v.quotes n r c b ≡ None → script_cause v n r c b ≡ Some e → ShownByte (InScript v n r) c b e (script_value_shows v n r c b)
script-byte v n r c b e w q h =
    script-byte-by v n r c b e (quoted_error script_feeding v.quotes n r c b) w.0 w.1
    (λ y o. (
      o,
      λ g z l p i. below-script (λ (g : Scan). ScanValid g → scan_error g c b ≡ Some e) v n r
          (λ u m j k. script-errors u v m n r c b (below-same u v m n r k w j) j.scan q ∙ h) g l z,
    )) h

-- In a value.
evidence-value : (v : ValuePlace) (c : Class) (b : ℕ) (e : PathCause) (x : Body) → c ≡ class_of b → v.body ≡ x
    → begun_script_shows v.body v.quotes c b ≡ None → place_cause (place.Value v) c b ≡ Some e → ShownByte (At (place.Value v)) c b e (value_shows v Closed c b)
evidence-value v c b e (body.Css s) k d q h = place-shown v c b e s k d h
evidence-value v c b e (body.Js j) k d q h = js-value v c b e j d q h
evidence-value v c b e x k d q h =
    at-value v c b e (value_shows v Closed c b) (subst Unstyled (sym d) tt)
    (evidence-value-byte v (At (place.Value v)) Closed c b e (λ y o. o) (λ z bytes h. not-open z bytes h) k tt tt (subst Unstyled (sym d) tt) h)

evidence-place : (p : Place) (c : Class) (b : ℕ) (e : PathCause) → c ≡ class_of b → IsValid p → script_shown (At p) c b ≡ None → place_cause p c b ≡ Some e
    → ShownByte (At p) c b e (place_shows p c b)
evidence-place place.Text c b e k v q h = absurd (none_some e h)
evidence-place place.Doctype c b e k v q h = absurd (none_some e h)
evidence-place (place.Comment dash) c b e k v q h = evidence-comment dash c b e h
evidence-place (place.Rcdata x) c b e k v q h = absurd (none_some e h)
evidence-place (place.Tag t) c b e k v q h = evidence-tag-byte t c b e v h
evidence-place (place.Value x) c b e k v q h = evidence-value x c b e x.body k refl q h
evidence-place (place.Script j) c b e k v q h =
    absurd (none_some e (sym (step-quiet (script_scan_step (script_scan_start j) Nothing c b) (script_scan_start j) q) ∙ h))
evidence-place (place.Style j) c b e k v q h = element-place-shown j c b e h
evidence-place (place.Block less) c b e k v q h = evidence-block less c b e h

evidence-attribute : (t : TagOf) (typed : Bool) (name : List ℕ) (c : Class) (b : ℕ) (e : PathCause)
    → scan_error (InAttributeName t typed name) c b ≡ Some e → ShownByte (InAttributeName t typed name) c b e (one (name_origin typed))
evidence-attribute t false name c b e h = evidence-rigid (InAttributeName t false name) c b e (untyped-rigid t name) h
evidence-attribute t true name c b e h = (
  refl,
  λ g v l o i. below-attribute (λ (g : Scan). ScanHas g member.Typed → scan_error g c b ≡ Some e) t true name
      (λ x u o. subst (λ (z : Bool). scan_error (InAttributeName t z name) c b ≡ Some e) (sym o) h) g l o,
)

pub evidence-byte : (f : Scan) (c : Class) (b : ℕ) (e : PathCause) → c ≡ class_of b → ScanValid f → ScanPlain f → script_shown f c b ≡ None → scan_error f c b ≡ Some e
    → ShownByte f c b e (byte_shows f c b)
evidence-byte (At p) c b e k v n q h = evidence-place p c b e k v q h
evidence-byte AfterLess c b e k v n q h = absurd (none_some e h)
evidence-byte AfterLessSolidus c b e k v n q h = absurd (none_some e h)
evidence-byte (InDeclaration pending) c b e k v n q h = absurd (none_some e h)
evidence-byte (InTagName end name) c b e k v n q h = evidence-rigid (InTagName end name) c b e (tag-name-rigid end name) h
evidence-byte (InAttributeName t typed name) c b e k v n q h = evidence-attribute t typed name c b e h
evidence-byte (InUrl w t r) c b e k v n q h =
    in-url w t r c b e (value_shows w r c b)
    (evidence-value-byte w (InUrl w t r) r c b e (λ y o. o) (λ z bytes i. (t, ap (InUrl w t) i)) k (begun-open r w.quotes v.0) n (within-unstyled w.body v.1) h)
evidence-byte (InStyle w s r) c b e k v n q h = lexeme-shown w s r c b e k v.0 v.1 n h
evidence-byte (InScript w s r) c b e k v n q h = script-byte w s r c b e v q h
evidence-byte (InScriptElement m x) c b e k v n q h = absurd (none_some e (sym (step-quiet (script_scan_step m x c b) m q) ∙ h))
evidence-byte (InStyleElement s x) c b e k v n q h = element-shown s x c b e v.1 h
evidence-byte (InCommentEnd s) c b e k v n q h = absurd (none_some e h)
evidence-byte (InContentEnd x y) c b e k v n q h = evidence-rigid (InContentEnd x y) c b e (content-end-rigid x y) h
evidence-byte (BeforeType t) c b e k v n q h = evidence-rigid (BeforeType t) c b e (before-type-rigid t) h
evidence-byte (InType t z w r) c b e k v n q h = evidence-rigid (InType t z w r) c b e (type-rigid t z w r) h

-- a `:` behind a reference that it breaks, in which they come apart, where this has been read
read-apart : (v : ValuePlace) (s : Parts) (c : Class) (b : ℕ) (e : PathCause) → c ≡ class_of b → v.body ≡ body.Url s → spells_apart s.opened ≡ true
    → e.code ≡ code.AmbigContext → UrlShown s Closed c e (λ t. quoted_error parts_feeding v.quotes t Closed c b) → ValueApart v Closed c b e
read-apart v s c b e k d h i (on_each j refuses) = absurd (other-code (sym j ∙ i))
read-apart v s c b e k d h i (on_first back j l there refuses) =
    value-apart v s Closed c b e k d h i (subst (λ (z : ℕ). z ≤ 0) (sym (ap (λ (z : PathCause). z.back) j)) l)
    (λ t m n. refuses t (or-behind t.openhole (spells_apart t.opened) n))
read-apart v s c b e k d h i (on_behind w bytes j q n m there refuses) = not-open w bytes j

url-apart : (v : ValuePlace) (t : Triple) (c : Class) (b : ℕ) (e : PathCause) → Unstyled v.body → ValueApart v Closed c b e → ApartShown (url_scan v t Closed) c b e
url-apart v NoTriple c b e z h = at-value v c b e apart z h
url-apart v AfterPercent c b e z h = in-url v AfterPercent Closed c b e apart h
url-apart v AfterDigit c b e z h = in-url v AfterDigit Closed c b e apart h

pub evidence-read : (v : ValuePlace) (t : Triple) (f : Form) (bytes : List ℕ) (s : Parts) (b : ℕ) (e : PathCause) → v.body ≡ body.Url s → HasBegun v.quotes
    → turn (class_of b) f ≡ Breaks → Broken s f bytes (class_of b) ≡ None → spells_apart (Behind s f bytes (class_of b)).opened ≡ true
    → e.code ≡ code.AmbigContext → quoted_error parts_feeding v.quotes s (Open f bytes) (class_of b) b ≡ Some e
    → ApartShown (read_turn Breaks v t f bytes (class_of b)) (class_of b) b e
evidence-read v t f bytes s b e d g k n a i h =
    let c = class_of b in
    let xs = flushed true (is_equals_sign c) f bytes in
    let w = read_value v xs in
    url-apart w (triple_behind t xs) c b e (subst (λ (x : Body). Unstyled (parts_with x xs)) (sym d) tt)
    (read-apart w (Behind s f bytes c) c b e refl (ap (λ (x : Body). parts_with x xs) d) a i
    (quoted-shown v.quotes Closed (Behind s f bytes c) c b e tt tt (quoted-read v.quotes s f bytes c b g k n ∙ h)))

-- The end of a text.

cut-attribute : (t : TagOf) (typed : Bool) (name : List ℕ) (e : PathCause) → scan_cut_error (InAttributeName t typed name) ≡ Some e
    → ShownCut (InAttributeName t typed name) e (name_origin typed)
cut-attribute t false name e h = record { there = refl; refuses = λ g l o. ap scan_cut_error (untyped-rigid t name g l) ∙ h }
cut-attribute t true name e h = record {
  there = refl;
  refuses = λ g l o. below-attribute
      (λ (g : Scan). ScanHas g member.Typed → scan_cut_error g ≡ Some e) t true name
      (λ x u o. subst (λ (z : Bool). scan_cut_error (InAttributeName t z name) ≡ Some e) (sym o) h) g l o;
}

cut-rigid : (f : Scan) (e : PathCause) → IsRigid f → scan_cut_error f ≡ Some e → ShownCut f e member.Whole
cut-rigid f e r h = record { there = whole-in f member.Whole refl; refuses = λ g l o. ap scan_cut_error (r g l) ∙ h }

-- in a URL no `:` is part of the reference with which it ends
cut-url : (b : Body) (r : Reference) → ReferencePlain r → open_cut_error b (as_it_stands r) ≡ None
cut-url (body.Url s) r n = no-colon-fed (as_it_stands r) s true (length (as_it_stands r)) (stands-no-colon r n)
cut-url _ r n = refl

-- a script that shows nothing refuses nothing at the end
pub cut-quiet : (s : ScriptScan) (r : Reference) → script_shows false script_scan_cut_error (as_it_stands r) s ≡ None → written_error script_feeding s (as_it_stands r) ≡ None
cut-quiet s r q =
    let d = told-none false (as_it_stands r) script_scan_cut_error s (no_map (script_back s) (script_told_shown false script_scan_cut_error (as_it_stands r) s) q) in
    taken-error (as_it_stands r) true (length (as_it_stands r)) s (takes-value (as_it_stands r) s d.0)

pub evidence-cut : (f : Scan) (e : PathCause) → ScanValid f → ScanPlain f → script_end_shown f ≡ None → scan_cut_error f ≡ Some e → ShownCut f e (end_shows f)
evidence-cut (InAttributeName t typed name) e v n q h = cut-attribute t typed name e h
evidence-cut (InUrl w t r) e v n q h = absurd (none_some e (sym (cut-url w.body r n) ∙ h))
evidence-cut (At p) e v n q h = absurd (none_some e h)
evidence-cut AfterLess e v n q h = absurd (none_some e h)
evidence-cut AfterLessSolidus e v n q h = absurd (none_some e h)
evidence-cut (InDeclaration pending) e v n q h = absurd (none_some e h)
evidence-cut (InTagName end name) e v n q h = absurd (none_some e h)
evidence-cut (InCommentEnd s) e v n q h = absurd (none_some e h)
evidence-cut (InContentEnd x y) e v n q h = cut-rigid (InContentEnd x y) e (content-end-rigid x y) h
evidence-cut (BeforeType t) e v n q h = cut-rigid (BeforeType t) e (before-type-rigid t) h
evidence-cut (InStyle w s r) e v n q h = cut-style w s r e n h
evidence-cut (InScriptElement m x) e v n q h = absurd (none_some e (sym (element-cut-quiet x m q) ∙ h))
evidence-cut (InStyleElement s x) e v n q h = element-cut s x e v.1 h
evidence-cut (InScript v s r) e w n q h = absurd (none_some e (sym (cut-quiet s r q) ∙ h))
evidence-cut (InType t z w r) e v n q h = cut-rigid (InType t z w r) e (type-rigid t z w r) h

-- where neither refuses it, the member is there too
pub end-there : (f : Scan) → scan_cut_error f ≡ None → ScanHas f (end_shows f)
end-there (InAttributeName t true name) n = refl
end-there (InAttributeName t false name) n = refl
end-there (InStyle v s r) n =
    subst (ScanHas (InStyle v s r)) (sym (ap shown_member (none-fed (as_it_stands r) s true (length (as_it_stands r)) n))) refl
end-there (InStyleElement s h) n =
    (let p = first-caused (pending_error style_feeding s (pending_bytes h)) (split_error style_less_cause s h) n in
    subst (ScanHas (InStyleElement s h)) (sym (ap shown_member (none-fed (pending_bytes h) s true (length (pending_bytes h)) p.0))) refl)
end-there (At p) n = whole-in (At p) member.Whole refl
end-there (InUrl v t r) n = refl
end-there _ n = refl

pub evidence-lexeme : (f : Scan) (e : Code) → ScanPlain f → scan_cut_error f ≡ None → scan_lexeme_error f ≡ Some e → ShownLexeme f e (end_shows f)
evidence-lexeme (InUrl v t r) e n m h = record {
  there = refl;
  refuses = λ g l o. below-url (λ (g : Scan). (scan_cut_error g ≡ None) × (scan_lexeme_error g ≡ Some e)) v t r (λ u l. (cut-url u.body r n, h)) g l;
}
evidence-lexeme (InStyle v s r) e n m h = lexeme-style v s r e m h
evidence-lexeme (InStyleElement s x) e n m h = element-lexeme s x e m h
evidence-lexeme (InAttributeName t typed name) e n m h = absurd (none_some e h)
evidence-lexeme (InScript v s r) e n m h = absurd (none_some e h)
evidence-lexeme (InScriptElement s x) e n m h = absurd (none_some e h)
evidence-lexeme (At p) e n m h = absurd (none_some e h)
evidence-lexeme AfterLess e n m h = absurd (none_some e h)
evidence-lexeme AfterLessSolidus e n m h = absurd (none_some e h)
evidence-lexeme (InDeclaration pending) e n m h = absurd (none_some e h)
evidence-lexeme (InTagName end name) e n m h = absurd (none_some e h)
evidence-lexeme (InCommentEnd s) e n m h = absurd (none_some e h)
evidence-lexeme (InContentEnd x y) e n m h = absurd (none_some e h)
evidence-lexeme (BeforeType t) e n m h = absurd (none_some e h)
evidence-lexeme (InType t q w r) e n m h = absurd (none_some e h)
