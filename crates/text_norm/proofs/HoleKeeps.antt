-- The bytes of a hole lead the page's reading where the hole leads the path.
use Rattle.std.proofs.Common.{◌≡◌, ℕ, Bool, true, false, List, [], ◌∷◌, Option, Some, None, option_map, if◌then◌else◌, Ok, Err, inl, refl, sym, ap, ◌∙◌, subst}
use Rattle.std.proofs.lemmas.Bool.{and_parts}
use Rattle.js_lexer.specs.Spots.{Spot, script_spot}
use Rattle.js_lexer.specs.States.{At, ScriptState, Trail}
use Rattle.js_lexer.specs.BackLaws.{in_code}
use Rattle.js_step.specs.ScriptSanitizers.{script_sanitizer}
use Rattle.page_datum.specs.Data.{Data}
use Rattle.page_datum.specs.Printed.{printed}
use Rattle.place_core.specs.page.Events.{LexEvent, Mark, AttributeBegins}
use Rattle.place_core.specs.page.Html.{read}
use Rattle.place_core.specs.page.Paths.{at_hole, mark_in}
use Rattle.std.specs.Str.{str_to_ascii_lowercase}
use Rattle.place_core.specs.page.Plain.{IsPlain, IsPlainName}
use Rattle.html_scan.proofs.Lowered.{kind_lowered}
use Rattle.place_core.specs.page.References.{Closed, Open}
use Rattle.place_core.specs.page.Shape.{HolePart, PageReads, state_past_hole, marked}
use Rattle.place_core.specs.place.ScriptParts.{is_trail_of_cut, may_begin_text_at, script_may_begin_text, script_place}
use Rattle.place_core.specs.place.StatePlaces.{content_spot, only_after, only_inside, placed, quotes_at, tag_spot, value_spot}
use Rattle.place_core.specs.place.StyleParts.{style_css, style_place, style_tails}
use Rattle.place_core.specs.place.UrlParts.{parts_of}
use Rattle.css_lexer.specs.PartSpots.{may_begin_text, part_spot}
use Rattle.css_lexer.specs.RefusalCodes.{RefusalCode}
use Rattle.css_lexer.specs.Spots.{StyleSpot}
use Rattle.css_lexer.specs.States.{Style, style_start}
use Rattle.css_step.specs.StyleChains.{style_hole_with_chain}
use Rattle.css_step.specs.StyleScans.{style_at_hole, style_hole_error}
use Rattle.css_step.specs.StyleScanViews.{style_or_refusal}
use Rattle.place_core.specs.page.States.{Started, StartedDash, Inside, Dash, DashDash, Bang, Broken, Page, LexState, Text, TagOpen, EndTagOpen, DeclarationOpen, InComment, BogusComment, InDoctype, TagName, WholeTagName, BeforeAttributeName, AttributeName, WholeAttributeName, AfterAttributeName, BeforeAttributeValue, AttributeValue, AfterAttributeValue, SelfClosingStartTag, Characters, Bytes, InLanguage, Pending, Nothing, PendingLess, LessAtCut, PendingName, PendingBang, PendingBangDash, InContent, Config, config, PendingOpening}
use Rattle.place_core.specs.page.Tags.{Tag, ValueOf, Deciding, ValueState, OfKind, OfUrl, OfStyle, languages, emitted_hole, value_settled, is_second_type, Quoting, DoubleQuoted, SingleQuoted, Unquoted, element_on, without_value, OfScript}
use Rattle.place_core.specs.declared.body.Body.TheVariants as body
use Rattle.place_core.specs.declared.chain.Chain.{Chain}
use Rattle.place_core.specs.declared.css.Css.{Css}
use Rattle.place_core.specs.declared.css.Css.TheVariants as css
use Rattle.place_core.specs.declared.element.Element.{Element}
use Rattle.place_core.specs.declared.element.Element.TheVariants as element
use Rattle.place_core.specs.declared.kind.Kind.TheVariants as kind
use Rattle.place_core.specs.declared.place.Place.{Place}
use Rattle.place_core.specs.declared.place.Place.TheVariants as place
use Rattle.place_core.specs.declared.quotes.Quotes.{Quotes}
use Rattle.place_core.specs.declared.value_place.ValuePlace.{ValuePlace}
use Rattle.place_core.specs.declared.san.San.TheVariants as san
use Rattle.url_lexer.specs.Parts.{UrlPart, UrlStart, UrlOpen, UrlOpenhole, UrlPrequery, UrlQuery, UrlBad}
use Rattle.url_lexer.specs.Refusals.{refuses_hole_in}
use Rattle.url_lexer.specs.Spots.{where_whole}
use Rattle.url_lexer.specs.States.{Url, url_start}
use Rattle.url_lexer.specs.Triples.{Triple, NoTriple, AfterPercent, AfterDigit}
use Rattle.url_lexer.proofs.Language.{language-laws}
use Rattle.san_html.specs.ReadBack.{IsBackInQuoted, IsBackInUnquoted, IsBackInTag, BeginsName, in_block, in_value, reads_quoted}
use Rattle.html_step.specs.Holes.{Holed, after_hole, both_of, css_chain, css_holed, element_holed, last_of, only, url_chain}
use Rattle.html_step.proofs.HoleOrder.{covers-hole}
use Rattle.text_norm.specs.HoleLaws.{ArePlain, ArePlainUnless, IsBackBy, KeepsHole, hole_parts, leaves_out, parts_unless}
use Rattle.text_norm.specs.Standing.{StandsAtStyle, TextStands, WholeAttribute, in_element}
use Rattle.text_norm.proofs.Emits.{same-state}
use Rattle.text_norm.proofs.HarmlessNames.{harmless-kind}
use Rattle.text_norm.proofs.LanguagesKeep.{languages-keep}
use Rattle.text_norm.proofs.ScriptElementPromises.{IsScriptHoleUnless, script-element-hole, script_element_chain}
use Rattle.text_norm.proofs.ScriptElementStands.{script-comment-kept, script-element-kept}
use Rattle.text_norm.proofs.ScriptHoles.{no-spot, IsScriptHole, begun, begun-alike, script-begun-plain, script-hole, script-plain}
use Rattle.text_norm.proofs.StyleElementHoles.{comment-hole-stands, element-hole}
use Rattle.text_norm.proofs.StyleElementPromises.{ElementHolesAt, IsHoleUnless, element-holes, element_chain}
use Rattle.text_norm.proofs.StyleHoles.{HolesAt, IsStyleHole, are-pages, css_of, style-begun-plain, style-holes, style-plain}
use Rattle.text_norm.proofs.StyleValuesKeep.{style-laws}
use Rattle.text_norm.proofs.UrlHoles.{url-begun, url-has-part, url-hole, url-plain}
use Rattle.text_norm.proofs.ValuesKeep.{hole-alike}

-- What a hole in a state has to show: its bytes are plain, and lead to where the page stands for the state after it.
abbrev Kept : Chain → LexState ValueState → List ℕ → List LexEvent → Config ValueState → Type 0
Kept x s bytes t d = ArePlain x bytes d × ((e : Config ValueState) × PageReads (hole_parts x bytes) d e × TextStands languages (at_hole languages s) (mark_in languages s t) e)

-- one that has a part
kept : (s : LexState ValueState) (bytes : List ℕ) (t : List LexEvent) (d : Config ValueState) → IsPlain bytes d → TextStands languages (at_hole languages s) (mark_in languages s t) (marked bytes d)
    → IsPlain bytes d × ((e : Config ValueState) × PageReads (HolePart bytes ∷ []) d e × TextStands languages (at_hole languages s) (mark_in languages s t) e)
kept s bytes t d p h = (p, (marked bytes d, inl (p, refl), h))

-- which chain a hole has
abbrev chain_in : Holed → Chain
chain_in (Ok h) = h.1
chain_in (Err e) = only san.Drop

abbrev HoleOf : Option Place → Chain → Type 0
HoleOf None x = ⊥
HoleOf (Some a) x = (b : Place) × (after_hole a ≡ Ok (b, x))

its : (a : Place) (x : Chain) → HoleOf (Some a) x → chain_in (after_hole a) ≡ x
its a x h = ap chain_in h.1

abbrev hole_chain : Option Place → Chain
hole_chain None = only san.Drop
hole_chain (Some a) = chain_in (after_hole a)

its-of : (o : Option Place) (x : Chain) → HoleOf o x → hole_chain o ≡ x
its-of None x h = absurd h
its-of (Some a) x h = its a x h

-- after a name, unless it is a second `type`
its-name : (second : Bool) (a : Place) (x : Chain) → HoleOf (if second then None else Some a) x → chain_in (after_hole a) ≡ x
its-name true a x h = absurd h
its-name false a x h = its a x h

not-name : (second : Bool) (a : Place) (x : Chain) → (HoleOf (Some a) x → ⊥) → HoleOf (if second then None else Some a) x → ⊥
not-name true a x n h = h
not-name false a x n h = n h

true-false : true ≡ false → ⊥
true-false e = cc

refused : {E A : Type 0} (e : E) (y : A) → Err e ≡ Ok y → ⊥
refused e y h = cc

-- where the page is behind a hole, by where its bytes lead
abbrev behind : LexState ValueState → List LexEvent → LexState ValueState → Config ValueState
behind s t z = config (state_past_hole languages s z) t

-- a hole that is a name
named : (s : LexState ValueState) (tag : Tag) (bytes : List ℕ) (t : List LexEvent) (d : Config ValueState) → IsPlainName tag bytes (config d.at d.emitted) → WholeAttribute ValueState tag kind.Plain t (behind s t d.at)
named s tag bytes t d p = record {
  name = str_to_ascii_lowercase bytes;
  named = sym (kind_lowered (element_on tag.tag) bytes) ∙ harmless-kind (element_on tag.tag) bytes p.harmless;
  at = ap (behind s t) p.within;
}

name-keeps : (s : LexState ValueState) (tag : Tag) (x : Chain) (datum : Data) (bytes : List ℕ) (t : List LexEvent) (d : Config ValueState) → only san.AttrName ≡ x → BeginsName s tag
    → (IsPlain bytes (config s t) → TextStands languages (at_hole languages s) (mark_in languages s t) (marked bytes (config s t))) → d ≡ config s t → IsBackBy x datum bytes → Kept x s bytes t d
name-keeps s tag x datum bytes t d e begins leads h = subst (λ (z : Chain). IsBackBy z datum bytes → Kept z s bytes t d) e
    (λ (k : IsBackInTag (printed datum) bytes). subst (λ (z : Config ValueState). Kept (only san.AttrName) s bytes t z) (sym h) (kept s bytes t (config s t) (k.plain s tag t begins) (leads (k.plain s tag t begins))))

content-keeps : (e : Element) (x : Chain) (datum : Data) (bytes : List ℕ) (t : List LexEvent) (d : Config ValueState) → only san.Html ≡ x → IsBackBy x datum bytes → d ≡ config (InContent e (Characters Closed) Nothing) t
    → Kept x (InContent e (Characters Closed) Nothing) bytes t d
content-keeps e x datum bytes t d h k l =
    subst (λ (z : Chain). IsBackBy z datum bytes → Kept z (InContent e (Characters Closed) Nothing) bytes t d) h
    (λ k. subst (λ (z : Config ValueState). Kept (only san.Html) (InContent e (Characters Closed) Nothing) bytes t z) (sym l)
    (kept (InContent e (Characters Closed) Nothing) bytes t (config (InContent e (Characters Closed) Nothing) t) (k.1.plain e t) (ap (behind (InContent e (Characters Closed) Nothing) (Mark ∷ t)) ((k.1.plain e t).1).0))) k

block-keeps : (x : Chain) (datum : Data) (bytes : List ℕ) (t : List LexEvent) (d : Config ValueState) → only san.Html ≡ x → IsBackBy x datum bytes → d ≡ config in_block t → Kept x in_block bytes t d
block-keeps x datum bytes t d h k l =
    subst (λ (z : Chain). IsBackBy z datum bytes → Kept z in_block bytes t d) h
    (λ k. subst (λ (z : Config ValueState). Kept (only san.Html) in_block bytes t z) (sym l)
    (kept in_block bytes t (config in_block t) (k.2.plain t) (ap (behind in_block (Mark ∷ t)) ((k.2.plain t).1).0))) k

-- Bytes that are plain in a value lead the page to where it stands for the path behind the hole, whatever its language knows of them.
value-leads : (q : Quoting) (tag : Tag) (v w : ValueState) (bytes : List ℕ) (t : List LexEvent) → languages.AreAlike v w
    → IsPlain bytes (config (in_value q tag (ValueOf w)) t)
    → (let s = in_value q tag (ValueOf v) in
    TextStands languages (at_hole languages s) (mark_in languages s t) (marked bytes (config (in_value q tag (ValueOf w)) t)))
value-leads q tag v w bytes t a p =
    subst (TextStands languages (at_hole languages (in_value q tag (ValueOf v))) (emitted_hole languages (ValueOf v) t))
    (sym (ap (behind (in_value q tag (ValueOf (value_settled w))) (emitted_hole languages (ValueOf w) t)) p.1.within))
    (hole-alike languages-keep q tag v w p.1.after p.1.value t a p.1.leads)

-- likewise where an unquoted value is to begin
abbrev unbegun : Tag → LexState ValueState
unbegun tag = BeforeAttributeValue tag kind.Plain

unbegun-leads : (tag : Tag) (bytes : List ℕ) (t : List LexEvent) → IsPlain bytes (config (unbegun tag) t)
    → TextStands languages (at_hole languages (unbegun tag)) (mark_in languages (unbegun tag) t) (marked bytes (config (unbegun tag) t))
unbegun-leads tag bytes t p =
    subst (TextStands languages (at_hole languages (unbegun tag)) (Mark ∷ t)) (sym (ap (behind (unbegun tag) (Mark ∷ t)) p.1.1.within))
    (hole-alike languages-keep Unquoted tag (OfKind kind.Plain) (OfKind kind.Plain) p.1.1.after p.1.1.value t refl p.1.1.leads)

abbrev in_plain : Quoting → Tag → LexState ValueState
in_plain q tag = in_value q tag (ValueOf (OfKind kind.Plain))

plain-leads : (q : Quoting) (tag : Tag) (bytes : List ℕ) (t : List LexEvent) → IsPlain bytes (config (in_plain q tag) t)
    → TextStands languages (at_hole languages (in_plain q tag)) (mark_in languages (in_plain q tag) t) (marked bytes (config (in_plain q tag) t))
plain-leads q tag bytes t p = value-leads q tag (OfKind kind.Plain) (OfKind kind.Plain) bytes t refl p

unbegun-keeps : (tag : Tag) (x : Chain) (datum : Data) (bytes : List ℕ) (t : List LexEvent) (d : Config ValueState) → only san.AttrNospace ≡ x
    → IsBackBy x datum bytes → d ≡ config (unbegun tag) t → Kept x (unbegun tag) bytes t d
unbegun-keeps tag x datum bytes t d e k l =
    subst (λ (z : Chain). IsBackBy z datum bytes → Kept z (unbegun tag) bytes t d) e
    (λ (k : IsBackInUnquoted (printed datum) bytes). subst (Kept (only san.AttrNospace) (unbegun tag) bytes t) (sym l)
    (kept (unbegun tag) bytes t (config (unbegun tag) t) (k.plain_unbegun tag t) (unbegun-leads tag bytes t (k.plain_unbegun tag t)))) k

unquoted-keeps : (tag : Tag) (x : Chain) (datum : Data) (bytes : List ℕ) (t : List LexEvent) (d : Config ValueState) → only san.AttrNospace ≡ x
    → IsBackBy x datum bytes → d ≡ config (in_plain Unquoted tag) t → Kept x (in_plain Unquoted tag) bytes t d
unquoted-keeps tag x datum bytes t d e k l =
    let s = in_plain Unquoted tag in
    subst (λ (z : Chain). IsBackBy z datum bytes → Kept z s bytes t d) e
    (λ (k : IsBackInUnquoted (printed datum) bytes). subst (Kept (only san.AttrNospace) s bytes t) (sym l)
    (kept s bytes t (config s t) (k.plain tag t) (plain-leads Unquoted tag bytes t (k.plain tag t)))) k

quoted-keeps : (q : Quoting) (tag : Tag) (x : Chain) (datum : Data) (bytes : List ℕ) (t : List LexEvent) (d : Config ValueState) → reads_quoted q ≡ true
    → only san.Attr ≡ x → IsBackBy x datum bytes → d ≡ config (in_plain q tag) t → Kept x (in_plain q tag) bytes t d
quoted-keeps q tag x datum bytes t d n e k l =
    let s = in_plain q tag in
    subst (λ (z : Chain). IsBackBy z datum bytes → Kept z s bytes t d) e
    (λ (k : IsBackInQuoted (printed datum) bytes). subst (Kept (only san.Attr) s bytes t) (sym l)
    (kept s bytes t (config s t) (k.plain q tag t n) (plain-leads q tag bytes t (k.plain q tag t n)))) k

-- In a URL: which part it is, and the chain of that part.
record IsUrlAccepted (t : Triple) (p : UrlPart) (q : Quotes) (x : Chain) : Type 0 where
  whole : t ≡ NoTriple
  holes : refuses_hole_in p ≡ None
  chain : url_chain (parts_of p) (last_of q) ≡ x

url-accepted : (t : Triple) (p : UrlPart) (q : Quotes) (tag : Tag) (x : Chain) → HoleOf (value_spot tag q (option_map (λ p. body.Url (parts_of p)) (where_whole t p))) x → IsUrlAccepted t p q x
url-accepted NoTriple UrlStart q tag x h = record { whole = refl; holes = refl; chain = ap chain_in h.1 }
url-accepted NoTriple (UrlOpen p) q tag x h = record { whole = refl; holes = refl; chain = ap chain_in h.1 }
url-accepted NoTriple UrlOpenhole q tag x h = record { whole = refl; holes = refl; chain = ap chain_in h.1 }
url-accepted NoTriple UrlPrequery q tag x h = record { whole = refl; holes = refl; chain = ap chain_in h.1 }
url-accepted NoTriple UrlQuery q tag x h = record { whole = refl; holes = refl; chain = ap chain_in h.1 }
url-accepted NoTriple UrlBad q tag x h = absurd (refused _ _ h.1)
url-accepted AfterPercent p q tag x h = absurd h
url-accepted AfterDigit p q tag x h = absurd h

-- a chain that does not leave the value out
kept-by : (left_out : Bool) (s : LexState ValueState) (bytes : List ℕ) (t : List LexEvent) (d : Config ValueState) → left_out ≡ false → IsPlain bytes d
    → TextStands languages (at_hole languages s) (mark_in languages s t) (marked bytes d)
    → ArePlainUnless left_out bytes d × ((e : Config ValueState) × PageReads (parts_unless left_out bytes) d e × TextStands languages (at_hole languages s) (mark_in languages s t) e)
kept-by true s bytes t d e p h = absurd (true-false e)
kept-by false s bytes t d e p h = kept s bytes t d p h

abbrev in_url : Quoting → Tag → Url → LexState ValueState
in_url q tag u = in_value q tag (ValueOf (OfUrl u))

url-keeps-there : (q : Quoting) (tag : Tag) (u : Url) (v : ValueState) (datum : Data) (bytes : List ℕ) (t : List LexEvent) (d : Config ValueState) → u.triple ≡ NoTriple
    → refuses_hole_in u.part ≡ None → (k : IsBackBy (url_chain (parts_of u.part) (last_of (quotes_at q))) datum bytes) → languages.AreAlike (OfUrl u) v → d ≡ config (in_value q tag (ValueOf v)) t
    → Kept (url_chain (parts_of u.part) (last_of (quotes_at q))) (in_url q tag u) bytes t d
url-keeps-there q tag u (OfKind k) datum bytes t d e n b a l = absurd a
url-keeps-there q tag u (OfStyle s) datum bytes t d e n b a l = absurd a
url-keeps-there q tag u (OfScript s) datum bytes t d e n b a l = absurd a
url-keeps-there q tag u (OfUrl w) datum bytes t d e n b a l =
    let x = url_chain (parts_of u.part) (last_of (quotes_at q)) in
    let s = in_url q tag u in
    let h = url-hole q u datum bytes e n b in
    let m = config (in_url q tag w) t in
    let plain : IsPlain bytes m = (λ some. refl, url-plain q tag u w (printed datum) bytes h (read Page bytes (config (in_url q tag w) [])) a (h.reads tag w [])) in
    subst (Kept x s bytes t) (sym l)
    (kept-by (leaves_out x) s bytes t m (url-has-part u.part (last_of (quotes_at q))) plain (value-leads q tag (OfUrl u) (OfUrl w) bytes t a plain))

url-keeps : (q : Quoting) (tag : Tag) (u : Url) (x : Chain) (datum : Data) (bytes : List ℕ) (t : List LexEvent) (d : Config ValueState)
    → IsUrlAccepted u.triple u.part (quotes_at q) x → IsBackBy x datum bytes → TextStands languages (in_url q tag u) t d → Kept x (in_url q tag u) bytes t d
url-keeps q tag u x datum bytes t d h k l =
    subst (λ (z : Chain). IsBackBy z datum bytes → Kept z (in_url q tag u) bytes t d) h.chain
    (λ b. url-keeps-there q tag u l.there datum bytes t d h.whole h.holes b l.alike l.stands) k

-- likewise where one without quotes is to begin
abbrev url_unbegun : Tag → LexState ValueState
url_unbegun tag = BeforeAttributeValue tag kind.Url

url-begun-plain : (tag : Tag) (datum : Data) (bytes : List ℕ) (t : List LexEvent) → IsBackBy (url_chain (parts_of UrlStart) san.AttrNospace) datum bytes → IsPlain bytes (config (url_unbegun tag) t)
url-begun-plain tag datum bytes t k =
    let b = url-begun tag datum bytes k in
    (λ some. refl, (b.at_once, url-plain Unquoted tag url_start url_start (printed datum) bytes b.hole (read Page bytes (config (url_unbegun tag) [])) language-laws.begins (b.reads_unbegun tag [])))

url-begun-leads : (tag : Tag) (bytes : List ℕ) (t : List LexEvent) → IsPlain bytes (config (url_unbegun tag) t)
    → TextStands languages (at_hole languages (url_unbegun tag)) (mark_in languages (url_unbegun tag) t) (marked bytes (config (url_unbegun tag) t))
url-begun-leads tag bytes t p =
    subst (TextStands languages (at_hole languages (url_unbegun tag)) (Mark ∷ t)) (sym (ap (behind (url_unbegun tag) (Mark ∷ t)) p.1.1.within))
    (hole-alike languages-keep Unquoted tag (OfUrl url_start) (OfUrl url_start) p.1.1.after p.1.1.value t language-laws.begins p.1.1.leads)

url-begun-keeps : (tag : Tag) (x : Chain) (datum : Data) (bytes : List ℕ) (t : List LexEvent) (d : Config ValueState) → url_chain (parts_of UrlStart) san.AttrNospace ≡ x
    → IsBackBy x datum bytes → d ≡ config (url_unbegun tag) t → Kept x (url_unbegun tag) bytes t d
url-begun-keeps tag x datum bytes t d e k l =
    subst (λ (z : Chain). IsBackBy z datum bytes → Kept z (url_unbegun tag) bytes t d) e
    (λ b. subst (Kept (url_chain (parts_of UrlStart) san.AttrNospace) (url_unbegun tag) bytes t) (sym l)
    (kept (url_unbegun tag) bytes t (config (url_unbegun tag) t) (url-begun-plain tag datum bytes t b) (url-begun-leads tag bytes t (url-begun-plain tag datum bytes t b)))) k

-- In a style: what its place accepts, and the chain of that place.
abbrev IsStyleAccepted : Option Css → Quotes → Chain → Type 0
IsStyleAccepted None q x = ⊥
IsStyleAccepted (Some c) q x = (style_hole_error c ≡ None) × (css_chain c (last_of q) ≡ x)

css-accepted : (o : Option RefusalCode) (c : Css) (v : ValuePlace) (b : Place) (x : Chain) → style_hole_error c ≡ o
    → css_holed v c (style_or_refusal o (style_at_hole c)) ≡ Ok (b, x) → IsStyleAccepted (Some c) v.quotes x
css-accepted None c v b x e h = (e, ap chain_in h)
css-accepted (Some r) c v b x e h = absurd (refused _ _ h)

in_style_place : Tag → Quotes → Css → ValuePlace
in_style_place tag q c = record { tag = tag.tag; typed = tag.typed; quotes = q; body = body.Css c }

style-accepted : (begins : Bool) (o : Option (StyleSpot UrlPart)) (q : Quotes) (tag : Tag) (x : Chain)
    → HoleOf (value_spot tag q (if begins then option_map (λ p. body.Css (style_place p)) o else None)) x
    → IsStyleAccepted (if begins then option_map style_place o else None) q x
unfolding in_style_place
style-accepted true (Some p) q tag x h =
    let c = style_place p in
    css-accepted (style_hole_error c) c (in_style_place tag q c) h.0 x refl h.1
style-accepted true None q tag x h = h
style-accepted false o q tag x h = h

abbrev in_style : Quoting → Tag → Style Url → LexState ValueState
in_style q tag s = in_value q tag (ValueOf (OfStyle s))

style-keeps-there : (q : Quoting) (tag : Tag) (s : Style Url) (v : ValueState) (x : Chain) (bytes : List ℕ) (t : List LexEvent) (d : Config ValueState)
    → leaves_out x ≡ false
    → IsStyleHole q s bytes → languages.AreAlike (OfStyle s) v → d ≡ config (in_value q tag (ValueOf v)) t → Kept x (in_style q tag s) bytes t d
style-keeps-there q tag s (OfKind k) x bytes t d e h a l = absurd a
style-keeps-there q tag s (OfUrl u) x bytes t d e h a l = absurd a
style-keeps-there q tag s (OfScript r) x bytes t d e h a l = absurd a
style-keeps-there q tag s (OfStyle w) x bytes t d e h a l =
    let z = in_style q tag s in
    let m = config (in_style q tag w) t in
    let plain : IsPlain bytes m = style-plain q tag s w bytes t h a (are-pages s w a) in
    subst (Kept x z bytes t) (sym l) (kept-by (leaves_out x) z bytes t m e plain (value-leads q tag (OfStyle s) (OfStyle w) bytes t a plain))

style-keeps : (o : Option Css) (q : Quoting) (tag : Tag) (s : Style Url) (x : Chain) (datum : Data) (bytes : List ℕ)
    (t : List LexEvent) (d : Config ValueState)
    → IsStyleAccepted o (quotes_at q) x → HolesAt s q o datum bytes → IsBackBy x datum bytes → TextStands languages (in_style q tag s) t d
    → Kept x (in_style q tag s) bytes t d
style-keeps None q tag s x datum bytes t d h f k l = absurd h
style-keeps (Some c) q tag s x datum bytes t d h f k l =
    let own = f h.0 (subst (λ (z : Chain). IsBackBy z datum bytes) (sym h.1) k) in
    style-keeps-there q tag s l.there x bytes t d (subst (λ (z : Chain). leaves_out z ≡ false) h.1 own.0) own.1 l.alike l.stands

-- likewise where one without quotes is to begin
abbrev style_unbegun : Tag → LexState ValueState
style_unbegun tag = BeforeAttributeValue tag kind.Style

abbrev style_begun_chain : Chain
style_begun_chain = css_chain (css.Code (style_tails false false false)) san.AttrNospace

style-begun-leads : (tag : Tag) (bytes : List ℕ) (t : List LexEvent) → IsPlain bytes (config (style_unbegun tag) t)
    → TextStands languages (at_hole languages (style_unbegun tag)) (mark_in languages (style_unbegun tag) t) (marked bytes (config (style_unbegun tag) t))
style-begun-leads tag bytes t p =
    subst (TextStands languages (at_hole languages (style_unbegun tag)) (Mark ∷ t)) (sym (ap (behind (style_unbegun tag) (Mark ∷ t)) p.1.1.within))
    (hole-alike languages-keep Unquoted tag (OfStyle style_start) (OfStyle style_start) p.1.1.after p.1.1.value t style-laws.begins p.1.1.leads)

style-begun-keeps : (tag : Tag) (x : Chain) (datum : Data) (bytes : List ℕ) (t : List LexEvent) (d : Config ValueState) → style_begun_chain ≡ x
    → IsBackBy x datum bytes → d ≡ config (style_unbegun tag) t → Kept x (style_unbegun tag) bytes t d
style-begun-keeps tag x datum bytes t d e k l =
    subst (λ (z : Chain). IsBackBy z datum bytes → Kept z (style_unbegun tag) bytes t d) e
    (λ b.
    let plain = style-begun-plain tag datum bytes t b style-laws.begins in
    subst (Kept style_begun_chain (style_unbegun tag) bytes t) (sym l)
    (kept (style_unbegun tag) bytes t (config (style_unbegun tag) t) plain (style-begun-leads tag bytes t plain))) k

-- In the element of a style: what its place accepts, and its chain. A value that is left out has no part, and the page stays where it is.
abbrev IsElementAccepted : Option Css → Chain → Type 0
IsElementAccepted None x = ⊥
IsElementAccepted (Some c) x = (style_hole_error c ≡ None) × (element_chain c ≡ x)

place-accepted : (o : Option RefusalCode) (c : Css) (b : Place) (x : Chain) → style_hole_error c ≡ o
    → element_holed (style_hole_with_chain c (style_or_refusal o (style_at_hole c))) ≡ Ok (b, x) → IsElementAccepted (Some c) x
place-accepted None c b x e h = (e, ap chain_in h)
place-accepted (Some r) c b x e h = absurd (refused _ _ h)

element-accepted : (o : Option Css) (x : Chain) → HoleOf (option_map place.Style o) x → IsElementAccepted o x
element-accepted None x h = h
element-accepted (Some c) x h = place-accepted (style_hole_error c) c h.0 x refl h.1

element-kept : (left_out : Bool) (e : Element) (s : Style Url) (bytes : List ℕ) (t : List LexEvent) (d : Config ValueState) → IsHoleUnless left_out s bytes
    → StandsAtStyle languages e s Nothing t d
    → (let z = in_element e (OfStyle s) Nothing in
    ArePlainUnless left_out bytes d × ((to : Config ValueState) × PageReads (parts_unless left_out bytes) d to × TextStands languages (at_hole languages z) (mark_in languages z t) to))
element-kept true e s bytes t d h l = (h.1, (d, refl, comment-hole-stands e s t d h.0 l))
element-kept false e s bytes t d h l =
    let own = element-hole e s bytes t d h.0 h.1 l in
    kept (in_element e (OfStyle s) Nothing) bytes t d own.0 own.1

element-keeps : (o : Option Css) (e : Element) (s : Style Url) (x : Chain) (datum : Data) (bytes : List ℕ) (t : List LexEvent) (d : Config ValueState)
    → IsElementAccepted o x → ElementHolesAt s o datum bytes → IsBackBy x datum bytes → StandsAtStyle languages e s Nothing t d
    → Kept x (in_element e (OfStyle s) Nothing) bytes t d
element-keeps None e s x datum bytes t d h f k l = absurd h
element-keeps (Some c) e s x datum bytes t d h f k l =
    subst (λ (z : Chain). IsBackBy z datum bytes → Kept z (in_element e (OfStyle s) Nothing) bytes t d) h.1
    (λ k. element-kept (leaves_out (element_chain c)) e s bytes t d (f h.0 k) l) k

-- In the element of a script each place takes a value: which it is, and its chain.
record IsScriptElementAccepted (begins : Bool) (o : Option Spot) (x : Chain) : Type 0 where
  begun : begins ≡ true
  spot : Spot
  there : o ≡ Some spot
  chain : script_element_chain spot ≡ x

script-element-accepted : (begins : Bool) (o : Option Spot) (x : Chain)
    → HoleOf (option_map place.Script (if begins then option_map script_place o else None)) x
    → IsScriptElementAccepted begins o x
script-element-accepted true (Some p) x h = record { begun = refl; spot = p; there = refl; chain = ap chain_in h.1 }
script-element-accepted true None x h = absurd h
script-element-accepted false o x h = absurd h

script-element-kept-by : (left_out : Bool) (a : At) (trail : Trail) (bytes : List ℕ) (t : List LexEvent) (d : Config ValueState) → trail.fresh ≡ true
    → may_begin_text_at a trail.markup ≡ true → IsScriptHoleUnless left_out (in_code a trail) bytes
    → (let z = in_element element.Script (OfScript (in_code a trail)) Nothing in
    TextStands languages z t d
    → ArePlainUnless left_out bytes d × ((to : Config ValueState) × PageReads (parts_unless left_out bytes) d to × TextStands languages (at_hole languages z) (mark_in languages z t) to))
script-element-kept-by true a trail bytes t d f b h l = (h.1, (d, refl, script-comment-kept element.Script a trail t d h.0 l))
script-element-kept-by false a trail bytes t d f b h l =
    let own = script-element-kept element.Script a trail bytes t d f b h.0 h.1 l in
    kept (in_element element.Script (OfScript (in_code a trail)) Nothing) bytes t d own.0 own.1

abbrev script_at_with : List ℕ → List ℕ → At → Trail → ScriptState
script_at_with fs held a t = record { literals = fs; at = a; held = held; trail = t }

-- the state is in no template literal, and holds nothing back
script-element-by : (fs held : List ℕ) (a : At) (trail : Trail) (p : Spot) (x : Chain) (datum : Data) (bytes : List ℕ) (t : List LexEvent) (d : Config ValueState)
    → script_may_begin_text (script_at_with fs held a trail) ≡ true → script_spot (script_at_with fs held a trail) ≡ Some p → script_element_chain p ≡ x
    → IsBackBy x datum bytes → (let z = in_element element.Script (OfScript (script_at_with fs held a trail)) Nothing in TextStands languages z t d → Kept x z bytes t d)
script-element-by [] [] a trail p x datum bytes t d b e c k l =
    let both = and_parts (is_trail_of_cut trail) (may_begin_text_at a trail.markup) b in
    let fresh = (and_parts trail.fresh _ both.0).0 in
    subst (λ (z : Chain). IsBackBy z datum bytes → Kept z (in_element element.Script (OfScript (in_code a trail)) Nothing) bytes t d) c
    (λ k. script-element-kept-by (leaves_out (script_element_chain p)) a trail bytes t d fresh both.1 (script-element-hole (in_code a trail) p b e datum bytes k) l) k
script-element-by [] (h ∷ held) a trail p x datum bytes t d b e c k l = absurd (no-spot p e)
script-element-by (n ∷ fs) held a trail p x datum bytes t d b e c k l = absurd (no-spot p e)

script-element-keeps : (s : ScriptState) (x : Chain) (datum : Data) (bytes : List ℕ) (t : List LexEvent) (d : Config ValueState)
    → IsScriptElementAccepted (script_may_begin_text s) (script_spot s) x → IsBackBy x datum bytes
    → (let z = in_element element.Script (OfScript s) Nothing in TextStands languages z t d → Kept x z bytes t d)
script-element-keeps s x datum bytes t d h k l = script-element-by s.literals s.held s.at s.trail h.spot x datum bytes t d h.begun h.there h.chain k l

in-language-keeps : (pending : Pending) (v : ValueState) (e : Element) (x : Chain) (datum : Data) (bytes : List ℕ) (t : List LexEvent) (d : Config ValueState)
    → HoleOf (content_spot pending (InLanguage v) e) x → IsBackBy x datum bytes → TextStands languages (in_element e v pending) t d
    → Kept x (in_element e v pending) bytes t d
in-language-keeps Nothing (OfStyle s) element.Style x datum bytes t d h k l =
    element-keeps (style_css s) element.Style s x datum bytes t d (element-accepted (style_css s) x h) (element-holes s datum bytes) k l.1
in-language-keeps Nothing (OfStyle s) _ x datum bytes t d h k l = absurd h
in-language-keeps Nothing (OfKind j) element.Style x datum bytes t d h k l = absurd h
in-language-keeps Nothing (OfKind j) _ x datum bytes t d h k l = absurd h
in-language-keeps Nothing (OfUrl u) element.Style x datum bytes t d h k l = absurd h
in-language-keeps Nothing (OfUrl u) _ x datum bytes t d h k l = absurd h
in-language-keeps Nothing (OfScript s) element.Script x datum bytes t d h k l =
    script-element-keeps s x datum bytes t d (script-element-accepted (script_may_begin_text s) (script_spot s) x h) k l
in-language-keeps Nothing (OfScript s) _ x datum bytes t d h k l = absurd h
in-language-keeps PendingLess v e x datum bytes t d h k l = absurd h
in-language-keeps (PendingName letters) v e x datum bytes t d h k l = absurd h
in-language-keeps LessAtCut v e x datum bytes t d h k l = absurd h
in-language-keeps PendingBang v e x datum bytes t d h k l = absurd h
in-language-keeps PendingBangDash v e x datum bytes t d h k l = absurd h
in-language-keeps (PendingOpening letters) v e x datum bytes t d h k l = absurd h

-- In a script each place takes a value: which it is, and its chain.
record IsScriptAccepted (begins : Bool) (o : Option Spot) (q : Quotes) (x : Chain) : Type 0 where
  begun : begins ≡ true
  spot : Spot
  there : o ≡ Some spot
  chain : both_of (script_sanitizer (script_place spot)) (last_of q) ≡ x

script-accepted : (begins : Bool) (o : Option Spot) (q : Quotes) (tag : Tag) (x : Chain)
    → HoleOf (value_spot tag q (option_map body.Js (if begins then option_map script_place o else None))) x → IsScriptAccepted begins o q x
script-accepted true (Some p) q tag x h = record { begun = refl; spot = p; there = refl; chain = ap chain_in h.1 }
script-accepted true None q tag x h = absurd h
script-accepted false o q tag x h = absurd h

abbrev in_script : Quoting → Tag → ScriptState → LexState ValueState
in_script q tag s = in_value q tag (ValueOf (OfScript s))

script-keeps-there : (q : Quoting) (tag : Tag) (s : ScriptState) (v : ValueState) (x : Chain) (bytes : List ℕ) (t : List LexEvent)
    (d : Config ValueState) → leaves_out x ≡ false
    → IsScriptHole q s bytes → languages.AreAlike (OfScript s) v → d ≡ config (in_value q tag (ValueOf v)) t → Kept x (in_script q tag s) bytes t d
script-keeps-there q tag s (OfKind k) x bytes t d e h a l = absurd a
script-keeps-there q tag s (OfUrl u) x bytes t d e h a l = absurd a
script-keeps-there q tag s (OfStyle r) x bytes t d e h a l = absurd a
script-keeps-there q tag s (OfScript w) x bytes t d e h a l =
    let z = in_script q tag s in
    let m = config (in_script q tag w) t in
    let plain : IsPlain bytes m = script-plain q tag s w bytes t h a in
    subst (Kept x z bytes t) (sym l) (kept-by (leaves_out x) z bytes t m e plain (value-leads q tag (OfScript s) (OfScript w) bytes t a plain))

script-keeps : (q : Quoting) (tag : Tag) (s : ScriptState) (x : Chain) (datum : Data) (bytes : List ℕ) (t : List LexEvent) (d : Config ValueState)
    → IsScriptAccepted (script_may_begin_text s) (script_spot s) (quotes_at q) x → IsBackBy x datum bytes
    → TextStands languages (in_script q tag s) t d
    → Kept x (in_script q tag s) bytes t d
script-keeps q tag s x datum bytes t d h k l =
    let own = script-hole s h.spot h.begun h.there q datum bytes (subst (λ (z : Chain). IsBackBy z datum bytes) (sym h.chain) k) in
    script-keeps-there q tag s l.there x bytes t d (subst (λ (z : Chain). leaves_out z ≡ false) h.chain own.0) own.1 l.alike l.stands

-- likewise where one without quotes is to begin
abbrev script_unbegun : Tag → LexState ValueState
script_unbegun tag = BeforeAttributeValue tag kind.Script

abbrev script_begun_chain : Chain
script_begun_chain = both_of san.JsValue san.AttrNospace

script-begun-leads : (tag : Tag) (bytes : List ℕ) (t : List LexEvent) → IsPlain bytes (config (script_unbegun tag) t)
    → TextStands languages (at_hole languages (script_unbegun tag)) (mark_in languages (script_unbegun tag) t) (marked bytes (config (script_unbegun tag) t))
script-begun-leads tag bytes t p =
    subst (TextStands languages (at_hole languages (script_unbegun tag)) (Mark ∷ t)) (sym (ap (behind (script_unbegun tag) (Mark ∷ t)) p.1.1.within))
    (hole-alike languages-keep Unquoted tag (OfScript begun) (OfScript begun) p.1.1.after p.1.1.value t begun-alike p.1.1.leads)

script-begun-keeps : (tag : Tag) (x : Chain) (datum : Data) (bytes : List ℕ) (t : List LexEvent) (d : Config ValueState) → script_begun_chain ≡ x
    → IsBackBy x datum bytes → d ≡ config (script_unbegun tag) t → Kept x (script_unbegun tag) bytes t d
script-begun-keeps tag x datum bytes t d e k l =
    subst (λ (z : Chain). IsBackBy z datum bytes → Kept z (script_unbegun tag) bytes t d) e
    (λ b.
    let plain = script-begun-plain tag datum bytes t b in
    subst (Kept script_begun_chain (script_unbegun tag) bytes t) (sym l)
    (kept (script_unbegun tag) bytes t (config (script_unbegun tag) t) plain (script-begun-leads tag bytes t plain))) k

hole-keeps : (s : LexState ValueState) (x : Chain) (datum : Data) (bytes : List ℕ) (t : List LexEvent) (d : Config ValueState)
    → HoleOf (placed s) x → IsBackBy x datum bytes → TextStands languages s t d → Kept x s bytes t d
hole-keeps (Text Closed) x datum bytes t d h k l =
    subst (λ (z : Chain). IsBackBy z datum bytes → Kept z (Text Closed) bytes t d) (its place.Text x h)
    (λ k. subst (λ (z : Config ValueState). Kept (only san.Html) (Text Closed) bytes t z) (sym l)
    (kept (Text Closed) bytes t (config (Text Closed) t) (k.0.plain t) (ap (behind (Text Closed) (Mark ∷ t)) ((k.0.plain t).1).0))) k
hole-keeps (Text (Open f b)) x datum bytes t d h k l = absurd h
hole-keeps (TagOpen r) x datum bytes t d h k l = absurd h
hole-keeps (EndTagOpen r) x datum bytes t d h k l = absurd h
hole-keeps (DeclarationOpen r pending) x datum bytes t d h k l = absurd h
hole-keeps (InComment Inside) x datum bytes t d h k l = subst (λ (z : Chain). IsBackBy z datum bytes → Kept z (InComment Inside) bytes t d) (its (place.Comment false) x h) (λ k. (k, (d, refl, l))) k
hole-keeps (InComment Broken) x datum bytes t d h k l = subst (λ (z : Chain). IsBackBy z datum bytes → Kept z (InComment Broken) bytes t d) (its (place.Comment true) x h) (λ k. (k, (d, refl, l))) k
hole-keeps (InComment Started) x datum bytes t d h k l = absurd h
hole-keeps (InComment StartedDash) x datum bytes t d h k l = absurd h
hole-keeps (InComment Dash) x datum bytes t d h k l = absurd h
hole-keeps (InComment DashDash) x datum bytes t d h k l = absurd h
hole-keeps (InComment Bang) x datum bytes t d h k l = absurd h
hole-keeps BogusComment x datum bytes t d h k l = absurd h
hole-keeps InDoctype x datum bytes t d h k l = absurd (refused _ _ h.1)
hole-keeps (TagName ends name) x datum bytes t d h k l = absurd h
hole-keeps (WholeTagName tag) x datum bytes t d h k l = absurd (refused _ _ h.1)
hole-keeps (BeforeAttributeName tag) x datum bytes t d h k l =
    name-keeps (BeforeAttributeName tag) tag x datum bytes t d (its-of (placed (BeforeAttributeName tag)) x h) refl (λ p. named (BeforeAttributeName tag) tag bytes (Mark ∷ AttributeBegins ∷ t) (read Page bytes (config (BeforeAttributeName tag) [])) p.1) l k
hole-keeps (AttributeName tag name) x datum bytes t d h k l = absurd h
hole-keeps (WholeAttributeName tag j) x datum bytes t d h k l =
    absurd (not-name (is_second_type tag.typed j) (place.Tag (tag_spot tag only_inside (Some j))) x (λ g. refused _ _ g.1) h)
hole-keeps (AfterAttributeName tag j) x datum bytes t d h k l =
    name-keeps (AfterAttributeName tag j) (without_value tag j) x datum bytes t d (its-name (is_second_type tag.typed j) (place.Tag (tag_spot tag only_after (Some j))) x h) refl (λ p. named (AfterAttributeName tag j) (without_value tag j) bytes (Mark ∷ AttributeBegins ∷ t) (read Page bytes (config (AfterAttributeName tag j) [])) p.1) l k
hole-keeps (AfterAttributeValue tag) x datum bytes t d h k l =
    name-keeps (AfterAttributeValue tag) tag x datum bytes t d (its-of (placed (AfterAttributeValue tag)) x h) refl (λ p. named (AfterAttributeValue tag) tag bytes (Mark ∷ AttributeBegins ∷ t) (read Page bytes (config (AfterAttributeValue tag) [])) p.1) l k
hole-keeps (SelfClosingStartTag tag) x datum bytes t d h k l =
    name-keeps (SelfClosingStartTag tag) tag x datum bytes t d (its-of (placed (SelfClosingStartTag tag)) x h) refl (λ p. named (SelfClosingStartTag tag) tag bytes (Mark ∷ AttributeBegins ∷ t) (read Page bytes (config (SelfClosingStartTag tag) [])) p.1) l k
hole-keeps (BeforeAttributeValue tag kind.Plain) x datum bytes t d h k l = unbegun-keeps tag x datum bytes t d (its-of (placed (BeforeAttributeValue tag kind.Plain)) x h) k l
hole-keeps (BeforeAttributeValue tag kind.NoHole) x datum bytes t d h k l = absurd (refused _ _ h.1)
hole-keeps (BeforeAttributeValue tag kind.Url) x datum bytes t d h k l = url-begun-keeps tag x datum bytes t d (its-of (placed (url_unbegun tag)) x h) k l
hole-keeps (BeforeAttributeValue tag kind.Script) x datum bytes t d h k l =
    script-begun-keeps tag x datum bytes t d (its-of (placed (script_unbegun tag)) x h) k l
hole-keeps (BeforeAttributeValue tag kind.Style) x datum bytes t d h k l = style-begun-keeps tag x datum bytes t d (its-of (placed (style_unbegun tag)) x h) k l
hole-keeps (BeforeAttributeValue tag kind.ScriptType) x datum bytes t d h k l = absurd h
hole-keeps (AttributeValue DoubleQuoted tag (ValueOf (OfKind kind.Plain)) Closed) x datum bytes t d h k l =
    quoted-keeps DoubleQuoted tag x datum bytes t d refl (its-of (placed (in_plain DoubleQuoted tag)) x h) k (same-state (in_plain DoubleQuoted tag) t d refl l)
hole-keeps (AttributeValue SingleQuoted tag (ValueOf (OfKind kind.Plain)) Closed) x datum bytes t d h k l =
    quoted-keeps SingleQuoted tag x datum bytes t d refl (its-of (placed (in_plain SingleQuoted tag)) x h) k (same-state (in_plain SingleQuoted tag) t d refl l)
hole-keeps (AttributeValue Unquoted tag (ValueOf (OfKind kind.Plain)) Closed) x datum bytes t d h k l =
    unquoted-keeps tag x datum bytes t d (its-of (placed (in_plain Unquoted tag)) x h) k (same-state (in_plain Unquoted tag) t d refl l)
hole-keeps (AttributeValue q tag (ValueOf (OfKind kind.NoHole)) Closed) x datum bytes t d h k l = absurd (refused _ _ h.1)
hole-keeps (AttributeValue q tag (ValueOf (OfKind kind.Url)) Closed) x datum bytes t d h k l = absurd h
hole-keeps (AttributeValue q tag (ValueOf (OfKind kind.Script)) Closed) x datum bytes t d h k l = absurd h
hole-keeps (AttributeValue q tag (ValueOf (OfKind kind.Style)) Closed) x datum bytes t d h k l = absurd h
hole-keeps (AttributeValue q tag (ValueOf (OfKind kind.ScriptType)) Closed) x datum bytes t d h k l = absurd h
hole-keeps (AttributeValue q tag (ValueOf (OfUrl u)) Closed) x datum bytes t d h k l = url-keeps q tag u x datum bytes t d (url-accepted u.triple u.part (quotes_at q) tag x h) k l
hole-keeps (AttributeValue q tag (ValueOf (OfStyle s)) Closed) x datum bytes t d h k l =
    style-keeps (css_of s) q tag s x datum bytes t d (style-accepted (may_begin_text s) (part_spot s) (quotes_at q) tag x h) (style-holes s q datum bytes) k l
hole-keeps (AttributeValue q tag (ValueOf (OfScript s)) Closed) x datum bytes t d h k l =
    script-keeps q tag s x datum bytes t d (script-accepted (script_may_begin_text s) (script_spot s) (quotes_at q) tag x h) k l
hole-keeps (AttributeValue q tag (Deciding j before) Closed) x datum bytes t d h k l = absurd h
hole-keeps (AttributeValue q tag v (Open f b)) x datum bytes t d h k l = absurd h
hole-keeps (InContent element.Title (Characters Closed) Nothing) x datum bytes t d h k l = content-keeps element.Title x datum bytes t d (its (place.Rcdata element.Title) x h) k l
hole-keeps (InContent element.Textarea (Characters Closed) Nothing) x datum bytes t d h k l = content-keeps element.Textarea x datum bytes t d (its (place.Rcdata element.Textarea) x h) k l
hole-keeps (InContent element.Other (Characters Closed) Nothing) x datum bytes t d h k l = absurd h
hole-keeps (InContent element.Style (Characters Closed) Nothing) x datum bytes t d h k l = absurd h
hole-keeps (InContent element.Script (Characters Closed) Nothing) x datum bytes t d h k l = absurd h
hole-keeps (InContent element.DataBlock (Characters Closed) Nothing) x datum bytes t d h k l = absurd h
hole-keeps (InContent e (Characters (Open f b)) Nothing) x datum bytes t d h k l = absurd h
hole-keeps (InContent e (Characters r) PendingLess) x datum bytes t d h k l = absurd h
hole-keeps (InContent e (Characters r) (PendingName letters)) x datum bytes t d h k l = absurd h
hole-keeps (InContent e (Characters r) LessAtCut) x datum bytes t d h k l = absurd h
hole-keeps (InContent e (Characters r) PendingBang) x datum bytes t d h k l = absurd h
hole-keeps (InContent e (Characters r) PendingBangDash) x datum bytes t d h k l = absurd h
hole-keeps (InContent e (Characters r) (PendingOpening letters)) x datum bytes t d h k l = absurd h
hole-keeps (InContent element.DataBlock Bytes Nothing) x datum bytes t d h k l = block-keeps x datum bytes t d (its (place.Block false) x h) k l
hole-keeps (InContent element.Other Bytes Nothing) x datum bytes t d h k l = absurd h
hole-keeps (InContent element.Title Bytes Nothing) x datum bytes t d h k l = absurd h
hole-keeps (InContent element.Textarea Bytes Nothing) x datum bytes t d h k l = absurd h
hole-keeps (InContent element.Style Bytes Nothing) x datum bytes t d h k l = absurd h
hole-keeps (InContent element.Script Bytes Nothing) x datum bytes t d h k l = absurd h
hole-keeps (InContent element.DataBlock Bytes LessAtCut) x datum bytes t d h k l = absurd (refused _ _ h.1)
hole-keeps (InContent element.Other Bytes LessAtCut) x datum bytes t d h k l = absurd h
hole-keeps (InContent element.Title Bytes LessAtCut) x datum bytes t d h k l = absurd h
hole-keeps (InContent element.Textarea Bytes LessAtCut) x datum bytes t d h k l = absurd h
hole-keeps (InContent element.Style Bytes LessAtCut) x datum bytes t d h k l = absurd h
hole-keeps (InContent element.Script Bytes LessAtCut) x datum bytes t d h k l = absurd h
hole-keeps (InContent e Bytes PendingLess) x datum bytes t d h k l = absurd h
hole-keeps (InContent e Bytes (PendingName letters)) x datum bytes t d h k l = absurd h
hole-keeps (InContent e Bytes PendingBang) x datum bytes t d h k l = absurd h
hole-keeps (InContent e Bytes PendingBangDash) x datum bytes t d h k l = absurd h
hole-keeps (InContent e Bytes (PendingOpening letters)) x datum bytes t d h k l = absurd h
hole-keeps (InContent e (InLanguage v) pending) x datum bytes t d h k l = in-language-keeps pending v e x datum bytes t d h k l

pub keeps-hole : KeepsHole
keeps-hole p q x datum bytes s t d v i e k l =
    let c = covers-hole p q x s v i e in
    let h = hole-keeps s x datum bytes t d (subst (λ (o : Option Place). HoleOf o x) (sym i.stands) (c.1 i.own i.stands)) k l in
    (c.0, h.0, h.1)
