-- Where a template may name an escaper, over the order of places.
use Rattle.std.proofs.Common.{◌≡◌, Bool, true, false, ◌||◌, ◌&&◌, not, Option, Some, None, refl, sym, ap, ◌∙◌, subst}
use Rattle.std.specs.Option.{is_some, is_none}
use Rattle.place_core.specs.place.Places.{Below, Has, IsValid, IsValidBody, joined_bodies, joined_quotes, quotes_have, body_has, typed_has, is_whole}
use Rattle.place_core.specs.place.LanguagePlaces.{IsValidCss, both_parts, both_prefixes, joined_css, parts_have, css_has, some_part}
use Rattle.place_core.specs.declared.body.Body.{Body}
use Rattle.place_core.specs.declared.body.Body.TheVariants as body
use Rattle.place_core.specs.declared.css.Css.{Css}
use Rattle.place_core.specs.declared.css.Css.TheVariants as css
use Rattle.place_core.specs.declared.member.Member.{Member}
use Rattle.place_core.specs.declared.member.Member.TheVariants as member
use Rattle.place_core.specs.declared.parts.Parts.{Parts}
use Rattle.place_core.specs.declared.place.Place.{Place}
use Rattle.place_core.specs.declared.place.Place.TheVariants as place
use Rattle.place_core.specs.declared.prefix.Prefix.{Prefix}
use Rattle.place_core.specs.declared.quotes.Quotes.{Quotes}
use Rattle.place_core.specs.declared.quotes.Quotes.TheVariants as quotes
use Rattle.place_core.specs.declared.value_place.ValuePlace.{ValuePlace}
use Rattle.place_core.proofs.Joins.{places_Style}
use Rattle.place_core.proofs.JoinMembers.{or_true}
use Rattle.place_core.proofs.Semilattices.{none_some, one_value, row_value}
use Rattle.html_scan.specs.Scans.{Scan, scan_place}
use Rattle.html_step.specs.HoleLaws.{GrowsEscape, IsEscapeEvidence, EscapeEvidence}
use Rattle.html_step.specs.HoleOrigins.{body_shows, css_shows, escape_shows, parts_show, query_shows}
use Rattle.html_step.specs.Holes.{as_text, may_escape, body_query, css_query, in_query, is_only_query, is_quoted, plain_text}
use Rattle.html_step.specs.declared.escaper.Escaper.{Escaper}
use Rattle.html_step.specs.declared.escaper.Escaper.TheVariants as escaper
use Rattle.html_step.proofs.BelowScans.{value-place}
use Rattle.html_step.proofs.FromSteps.{no}
use Rattle.html_step.proofs.PlaceParts.{Under, ValueBelow, below-value, under-false}

-- As text: what is below a place is as it is.
same-quoted : (q r : Quotes) → joined_quotes q r ≡ Some r → is_quoted q ≡ is_quoted r
same-quoted quotes.Dq quotes.Dq h = refl
same-quoted quotes.Sq quotes.Sq h = refl
same-quoted (quotes.Bare s) (quotes.Bare r) h = refl
same-quoted quotes.Dq r h = absurd (none_some r h)
same-quoted quotes.Sq r h = absurd (none_some r h)
same-quoted (quotes.Bare s) r h = absurd (none_some r h)

same-plain : (b c : Body) (q r : Quotes) → joined_bodies b c ≡ Some c → joined_quotes q r ≡ Some r → plain_text b q ≡ plain_text c r
same-plain body.Plain body.Plain q r h j = same-quoted q r j
same-plain body.NoHole body.NoHole q r h j = refl
same-plain (body.Url p) (body.Url s) q r h j = refl
same-plain (body.Js p) (body.Js s) q r h j = refl
same-plain (body.Css p) (body.Css s) q r h j = refl
same-plain body.Plain c q r h j = absurd (none_some c h)
same-plain body.NoHole c q r h j = absurd (none_some c h)
same-plain (body.Url p) c q r h j = absurd (none_some c h)
same-plain (body.Js p) c q r h j = absurd (none_some c h)
same-plain (body.Css p) c q r h j = absurd (none_some c h)

value-text : (x y : ValuePlace) → ValueBelow x y → plain_text x.body x.quotes ≡ plain_text y.body y.quotes
value-text x y h = same-plain x.body y.body x.quotes y.quotes h.body h.quotes

same-text : (p r : Place) → Below p r → as_text p ≡ as_text r
same-text place.Text place.Text h = refl
same-text place.Doctype place.Doctype h = refl
same-text (place.Comment x) (place.Comment y) h = refl
same-text (place.Rcdata x) (place.Rcdata y) h = refl
same-text (place.Tag x) (place.Tag y) h = refl
same-text (place.Value x) (place.Value y) h = value-text x y (below-value x y h)
same-text (place.Script x) (place.Script y) h = refl
same-text (place.Style x) (place.Style y) h = refl
same-text (place.Block x) (place.Block y) h = refl
same-text place.Text r h = absurd (none_some r h)
same-text place.Doctype r h = absurd (none_some r h)
same-text (place.Comment x) r h = absurd (none_some r h)
same-text (place.Rcdata x) r h = absurd (none_some r h)
same-text (place.Tag x) r h = absurd (none_some r h)
same-text (place.Value x) r h = absurd (none_some r h)
same-text (place.Script x) r h = absurd (none_some r h)
same-text (place.Style x) r h = absurd (none_some r h)
same-text (place.Block x) r h = absurd (none_some r h)

-- In the query of a URL alone.
below-false : (x y : Bool) → Under x y → y ≡ false → x ≡ false
below-false x y h e = under-false x (subst (Under x) e h)

prefix-none : (o p : Option Prefix) → both_prefixes o p ≡ p → is_none p ≡ true → o ≡ None
prefix-none None p h e = refl
prefix-none (Some x) None h e = absurd (none_some x (sym h))
prefix-none (Some x) (Some y) h e = absurd (no e)

-- the six of a place below, and of the place
only-query : (s : Bool) (o : Option Prefix) (h p q b : Bool) → (q && (not s && (is_none o && (not h && (not p && not b))))) ≡ true → (s ≡ false) × (is_none o ≡ true) × (h ≡ false) × (p ≡ false) × (q ≡ true) × (b ≡ false)
only-query s o h p false b e = absurd (no e)
only-query true o h p true b e = absurd (no e)
only-query false (Some x) h p true b e = absurd (no e)
only-query false None true p true b e = absurd (no e)
only-query false None false true true b e = absurd (no e)
only-query false None false false true true e = absurd (no e)
only-query false None false false true false e = (refl, refl, refl, refl, refl, refl)

query-only : (s : Bool) (o : Option Prefix) (h p q b : Bool) → s ≡ false → o ≡ None → h ≡ false → p ≡ false → b ≡ false → (s || (is_some o || (h || (p || (q || b))))) ≡ true → (q && (not s && (is_none o && (not h && (not p && not b))))) ≡ true
query-only s o h p true b e f g i j k = rw (e, f, g, i, j) refl
query-only s o h p false b e f g i j k = absurd (no (sym (rw (e, f, g, i, j) refl) ∙ k))

query-grows : (p r : Parts) → some_part p ≡ true → both_parts p r ≡ r → is_only_query r ≡ true → is_only_query p ≡ true
query-grows p r v h e =
    let x = only-query r.start r.opened r.openhole r.prequery r.query r.bad e in
    query-only p.start p.opened p.openhole p.prequery p.query p.bad
    (below-false p.start r.start (ap (λ (z : Parts). z.start) h) x.0)
    (prefix-none p.opened r.opened (ap (λ (z : Parts). z.opened) h) x.1)
    (below-false p.openhole r.openhole (ap (λ (z : Parts). z.openhole) h) x.2)
    (below-false p.prequery r.prequery (ap (λ (z : Parts). z.prequery) h) x.3)
    (below-false p.bad r.bad (ap (λ (z : Parts). z.bad) h) x.5)
    v

url-one : (p q : Parts) → body.Url p ≡ body.Url q → p ≡ q
url-one p q e = cc

css-body-one : (p q : Css) → body.Css p ≡ body.Css q → p ≡ q
css-body-one p q e = cc

pub css-url-one : (p q : Parts) → css.Url p ≡ css.Url q → p ≡ q
css-url-one p q e = cc

pub css-dq-one : (p q : Parts) → css.UrlDq p ≡ css.UrlDq q → p ≡ q
css-dq-one p q e = cc

pub css-sq-one : (p q : Parts) → css.UrlSq p ≡ css.UrlSq q → p ≡ q
css-sq-one p q e = cc

css-grows : (c d : Css) → IsValidCss c → joined_css c d ≡ Some d → css_query d ≡ true → css_query c ≡ true
css-grows (css.Url p) (css.Url r) v h e = query-grows p r v.0 (css-url-one (both_parts p r) r (one_value (css.Url (both_parts p r)) (css.Url r) h)) e
css-grows (css.UrlDq p) (css.UrlDq r) v h e = query-grows p r v.0 (css-dq-one (both_parts p r) r (one_value (css.UrlDq (both_parts p r)) (css.UrlDq r) h)) e
css-grows (css.UrlSq p) (css.UrlSq r) v h e = query-grows p r v.0 (css-sq-one (both_parts p r) r (one_value (css.UrlSq (both_parts p r)) (css.UrlSq r) h)) e
css-grows c (css.Code x) v h e = absurd (no e)
css-grows c css.Dq v h e = absurd (no e)
css-grows c css.Sq v h e = absurd (no e)
css-grows c css.UrlFresh v h e = absurd (no e)
css-grows c css.UrlEnd v h e = absurd (no e)
css-grows c (css.Comment x) v h e = absurd (no e)
css-grows (css.Code x) d v h e = absurd (none_some d h)
css-grows css.Dq d v h e = absurd (none_some d h)
css-grows css.Sq d v h e = absurd (none_some d h)
css-grows css.UrlFresh d v h e = absurd (none_some d h)
css-grows css.UrlEnd d v h e = absurd (none_some d h)
css-grows (css.Comment x) d v h e = absurd (none_some d h)
css-grows (css.Url p) d v h e = absurd (none_some d h)
css-grows (css.UrlDq p) d v h e = absurd (none_some d h)
css-grows (css.UrlSq p) d v h e = absurd (none_some d h)

body-grows : (b c : Body) → IsValidBody b → joined_bodies b c ≡ Some c → body_query c ≡ true → body_query b ≡ true
body-grows (body.Url p) (body.Url r) v h e = query-grows p r v.0 (url-one (both_parts p r) r (one_value (body.Url (both_parts p r)) (body.Url r) h)) e
body-grows (body.Css p) (body.Css r) v h e = css-grows p r v (row_value body.Css css-body-one (joined_css p r) r h) e
body-grows b body.Plain v h e = absurd (no e)
body-grows b body.NoHole v h e = absurd (no e)
body-grows b (body.Js p) v h e = absurd (no e)
body-grows body.Plain c v h e = absurd (none_some c h)
body-grows body.NoHole c v h e = absurd (none_some c h)
body-grows (body.Js p) c v h e = absurd (none_some c h)
body-grows (body.Url p) c v h e = absurd (none_some c h)
body-grows (body.Css p) c v h e = absurd (none_some c h)

in-query-grows : (p r : Place) → IsValid p → Below p r → in_query r ≡ true → in_query p ≡ true
in-query-grows (place.Value x) (place.Value y) v h e = body-grows x.body y.body v.1 (below-value x y h).body e
in-query-grows (place.Style c) (place.Style d) v h e = css-grows c d v (row_value place.Style places_Style (joined_css c d) d h) e
in-query-grows p place.Text v h e = absurd (no e)
in-query-grows p place.Doctype v h e = absurd (no e)
in-query-grows p (place.Comment x) v h e = absurd (no e)
in-query-grows p (place.Rcdata x) v h e = absurd (no e)
in-query-grows p (place.Tag x) v h e = absurd (no e)
in-query-grows p (place.Script x) v h e = absurd (no e)
in-query-grows p (place.Block x) v h e = absurd (no e)
in-query-grows place.Text r v h e = absurd (none_some r h)
in-query-grows place.Doctype r v h e = absurd (none_some r h)
in-query-grows (place.Comment x) r v h e = absurd (none_some r h)
in-query-grows (place.Rcdata x) r v h e = absurd (none_some r h)
in-query-grows (place.Tag x) r v h e = absurd (none_some r h)
in-query-grows (place.Script x) r v h e = absurd (none_some r h)
in-query-grows (place.Block x) r v h e = absurd (none_some r h)
in-query-grows (place.Value x) r v h e = absurd (none_some r h)
in-query-grows (place.Style x) r v h e = absurd (none_some r h)

pub grows-escape : GrowsEscape
grows-escape escaper.Html p r v h e = same-text p r h ∙ e
grows-escape escaper.Urlquery p r v h e = in-query-grows p r v h e

abbrev is_part : Member → Bool
is_part member.PartStart = true
is_part member.PartOpen = true
is_part member.PartOpenhole = true
is_part member.PartPrequery = true
is_part member.PartBad = true
is_part _ = false

abbrev is_url : Css → Bool
is_url (css.Url p) = true
is_url (css.UrlDq p) = true
is_url (css.UrlSq p) = true
is_url _ = false

abbrev is_query_body : Body → Bool
is_query_body (body.Url p) = true
is_query_body (body.Css c) = true
is_query_body _ = false

no-quotes : (q : Quotes) (b : Body) (m : Member) → is_part m ≡ true → (quotes_have q m || body_has b m) ≡ true → body_has b m ≡ true
no-quotes (quotes.Bare s) b member.PartStart e h = h
no-quotes (quotes.Bare s) b member.PartOpen e h = h
no-quotes (quotes.Bare s) b member.PartOpenhole e h = h
no-quotes (quotes.Bare s) b member.PartPrequery e h = h
no-quotes (quotes.Bare s) b member.PartBad e h = h
no-quotes (quotes.Bare s) b _ e h = absurd (no e)
no-quotes quotes.Dq b m e h = h
no-quotes quotes.Sq b m e h = h

-- Where a place is not in the query alone, some member of it is elsewhere.
record Elsewhere (p : Parts) : Type 0 where
  bears : Member
  is : parts_show p ≡ bears
  there : parts_have p bears ≡ true
  part : is_part bears ≡ true
  leads : (s : Parts) → parts_have s bears ≡ true → is_only_query s ≡ false

and-false : (x : Bool) → (x && false) ≡ false
and-false true = refl
and-false false = refl

none-of-some : (o : Option Prefix) → is_some o ≡ true → is_none o ≡ false
none-of-some (Some x) h = refl
none-of-some None h = cc

not-query : (s : Bool) (o : Option Prefix) (h p q b : Bool) → is_none o ≡ false → (q && (not s && (is_none o && (not h && (not p && not b))))) ≡ false
not-query s o h p q b e = rw (e, and-false (not s)) (and-false q)

elsewhere : (p : Parts) (s : Bool) (o : Option Prefix) (h r b q : Bool) → p.start ≡ s → p.opened ≡ o → p.openhole ≡ h → p.prequery ≡ r → p.bad ≡ b → p.query ≡ q → some_part p ≡ true → is_only_query p ≡ false → Elsewhere p
elsewhere p true o h r b q d e f g i j v n = record { bears = member.PartStart; is = rw d refl; there = d; part = refl; leads = λ s k. rw k (and-false s.query) }
elsewhere p false (Some x) h r b q d e f g i j v n = record { bears = member.PartOpen; is = rw (d, e) refl; there = ap is_some e; part = refl; leads = λ s k. not-query s.start s.opened s.openhole s.prequery s.query s.bad (none-of-some s.opened k) }
elsewhere p false None true r b q d e f g i j v n = record { bears = member.PartOpenhole; is = rw (d, e, f) refl; there = f; part = refl; leads = λ s k. rw (k, and-false (is_none s.opened), and-false (not s.start)) (and-false s.query) }
elsewhere p false None false true b q d e f g i j v n = record { bears = member.PartPrequery; is = rw (d, e, f, g) refl; there = g; part = refl; leads = λ s k. rw (k, and-false (not s.openhole), and-false (is_none s.opened), and-false (not s.start)) (and-false s.query) }
elsewhere p false None false false true q d e f g i j v n = record { bears = member.PartBad; is = rw (d, e, f, g, i) refl; there = i; part = refl; leads = λ s k. rw (k, and-false (not s.prequery), and-false (not s.openhole), and-false (is_none s.opened), and-false (not s.start)) (and-false s.query) }
elsewhere p false None false false false true d e f g i j v n = absurd (no (sym n ∙ rw (d, e, f, g, i, j) refl))
elsewhere p false None false false false false d e f g i j v n = absurd (no (sym (rw (d, e, f, g, i, j) refl) ∙ v))

parts-elsewhere : (p : Parts) → some_part p ≡ true → is_only_query p ≡ false → Elsewhere p
parts-elsewhere p v n = elsewhere p p.start p.opened p.openhole p.prequery p.bad p.query refl refl refl refl refl refl v n

record ShownQuery (p : Place) : Type 0 where
  bears : Member
  is : query_shows p ≡ bears
  there : Has p bears
  leads : (a : Place) → Below a p → Has a bears → in_query a ≡ false

-- a place of a row in which no place is in a query
abbrev is_row : Place → Bool
is_row (place.Value v) = false
is_row (place.Style c) = false
is_row _ = true

row-query : (a p : Place) → Below a p → is_row p ≡ true → in_query a ≡ false
row-query place.Text p h e = refl
row-query place.Doctype p h e = refl
row-query (place.Comment x) p h e = refl
row-query (place.Rcdata x) p h e = refl
row-query (place.Tag x) p h e = refl
row-query (place.Script x) p h e = refl
row-query (place.Block x) p h e = refl
row-query (place.Value x) (place.Value y) h e = absurd (no e)
row-query (place.Value x) p h e = absurd (none_some p h)
row-query (place.Style x) (place.Style y) h e = absurd (no e)
row-query (place.Style x) p h e = absurd (none_some p h)

-- a part is no member of the other sets
part-of-value : (x : Bool) (q : Quotes) (b : Body) (m : Member) → is_part m ≡ true → (is_whole m || (typed_has x m || (quotes_have q m || body_has b m))) ≡ true → body_has b m ≡ true
part-of-value x q b member.PartStart e h = no-quotes q b member.PartStart refl h
part-of-value x q b member.PartOpen e h = no-quotes q b member.PartOpen refl h
part-of-value x q b member.PartOpenhole e h = no-quotes q b member.PartOpenhole refl h
part-of-value x q b member.PartPrequery e h = no-quotes q b member.PartPrequery refl h
part-of-value x q b member.PartBad e h = no-quotes q b member.PartBad refl h
part-of-value x q b _ e h = absurd (no e)

value-of-part : (x : Bool) (q : Quotes) (b : Body) (m : Member) → body_has b m ≡ true → (is_whole m || (typed_has x m || (quotes_have q m || body_has b m))) ≡ true
value-of-part x q b m h = rw (h, or_true (quotes_have q m), or_true (typed_has x m)) (or_true (is_whole m))

value-elsewhere : (v : ValuePlace) (m : Member) → body_shows v.body ≡ m → is_part m ≡ true → body_has v.body m ≡ true → ((b : Body) → joined_bodies b v.body ≡ Some v.body → body_has b m ≡ true → body_query b ≡ false) → ShownQuery (place.Value v)
value-elsewhere v m i e h f = record {
  bears = m;
  is = i;
  there = value-of-part v.typed v.quotes v.body m h;
  leads = λ a l o. value-place (λ (g : Scan). Has (scan_place g) m → in_query (scan_place g) ≡ false) v (λ u b o. f u.body b.body (part-of-value u.typed u.quotes u.body m e o)) a l o;
}

value-whole : (v : ValuePlace) → body_shows v.body ≡ member.Whole → ((b : Body) → joined_bodies b v.body ≡ Some v.body → body_query b ≡ false) → ShownQuery (place.Value v)
value-whole v i f = record {
  bears = member.Whole;
  is = i;
  there = refl;
  leads = λ a l o. value-place (λ (g : Scan). in_query (scan_place g) ≡ false) v (λ u b. f u.body b.body) a l;
}

url-elsewhere : (p : Parts) (e : Elsewhere p) (b : Body) → joined_bodies b (body.Url p) ≡ Some (body.Url p) → body_has b e.bears ≡ true → body_query b ≡ false
url-elsewhere p e (body.Url s) h o = e.leads s o
url-elsewhere p e body.Plain h o = refl
url-elsewhere p e body.NoHole h o = refl
url-elsewhere p e (body.Js j) h o = refl
url-elsewhere p e (body.Css c) h o = absurd (none_some (body.Url p) h)

-- a style
data CssShown (c : Css) : Type 0 where
  css_never : css_shows c ≡ member.Whole → ((d : Css) → joined_css d c ≡ Some c → css_query d ≡ false) → CssShown c
  css_part : (m : Member) → css_shows c ≡ m → is_part m ≡ true → css_has c m ≡ true → ((d : Css) → joined_css d c ≡ Some c → css_has d m ≡ true → css_query d ≡ false) → CssShown c

css-url : (p : Parts) (e : Elsewhere p) (d : Css) → joined_css d (css.Url p) ≡ Some (css.Url p) → css_has d e.bears ≡ true → css_query d ≡ false
css-url p e (css.Url s) h o = e.leads s o
css-url p e d h o = absurd (none_some (css.Url p) h)

css-dq : (p : Parts) (e : Elsewhere p) (d : Css) → joined_css d (css.UrlDq p) ≡ Some (css.UrlDq p) → css_has d e.bears ≡ true → css_query d ≡ false
css-dq p e (css.UrlDq s) h o = e.leads s o
css-dq p e d h o = absurd (none_some (css.UrlDq p) h)

css-sq : (p : Parts) (e : Elsewhere p) (d : Css) → joined_css d (css.UrlSq p) ≡ Some (css.UrlSq p) → css_has d e.bears ≡ true → css_query d ≡ false
css-sq p e (css.UrlSq s) h o = e.leads s o
css-sq p e d h o = absurd (none_some (css.UrlSq p) h)

css-never : (c d : Css) → joined_css d c ≡ Some c → is_url c ≡ false → css_query d ≡ false
css-never c (css.Code x) h e = refl
css-never c css.Dq h e = refl
css-never c css.Sq h e = refl
css-never c css.UrlFresh h e = refl
css-never c css.UrlEnd h e = refl
css-never c (css.Comment x) h e = refl
css-never (css.Url p) (css.Url s) h e = absurd (no (sym e))
css-never c (css.Url s) h e = absurd (none_some c h)
css-never (css.UrlDq p) (css.UrlDq s) h e = absurd (no (sym e))
css-never c (css.UrlDq s) h e = absurd (none_some c h)
css-never (css.UrlSq p) (css.UrlSq s) h e = absurd (no (sym e))
css-never c (css.UrlSq s) h e = absurd (none_some c h)

css-evidence : (c : Css) → IsValidCss c → css_query c ≡ false → CssShown c
css-evidence (css.Url p) v n = (let e = parts-elsewhere p v.0 n in css_part e.bears e.is e.part e.there (λ d h o. css-url p e d h o))
css-evidence (css.UrlDq p) v n = (let e = parts-elsewhere p v.0 n in css_part e.bears e.is e.part e.there (λ d h o. css-dq p e d h o))
css-evidence (css.UrlSq p) v n = (let e = parts-elsewhere p v.0 n in css_part e.bears e.is e.part e.there (λ d h o. css-sq p e d h o))
css-evidence (css.Code x) v n = css_never refl (λ d h. css-never (css.Code x) d h refl)
css-evidence css.Dq v n = css_never refl (λ d h. css-never css.Dq d h refl)
css-evidence css.Sq v n = css_never refl (λ d h. css-never css.Sq d h refl)
css-evidence css.UrlFresh v n = css_never refl (λ d h. css-never css.UrlFresh d h refl)
css-evidence css.UrlEnd v n = css_never refl (λ d h. css-never css.UrlEnd d h refl)
css-evidence (css.Comment x) v n = css_never refl (λ d h. css-never (css.Comment x) d h refl)

css-body : (P : Body → Type 0) (c : Css) → ((d : Css) → joined_css d c ≡ Some c → P (body.Css d)) → (b : Body) → joined_bodies b (body.Css c) ≡ Some (body.Css c) → P b
css-body P c f (body.Css d) h = f d (row_value body.Css css-body-one (joined_css d c) c h)
css-body P c f body.Plain h = absurd (none_some (body.Css c) h)
css-body P c f body.NoHole h = absurd (none_some (body.Css c) h)
css-body P c f (body.Js j) h = absurd (none_some (body.Css c) h)
css-body P c f (body.Url p) h = absurd (none_some (body.Css c) h)

never-body : (c b : Body) → joined_bodies b c ≡ Some c → is_query_body c ≡ false → body_query b ≡ false
never-body c body.Plain h e = refl
never-body c body.NoHole h e = refl
never-body c (body.Js j) h e = refl
never-body (body.Url p) (body.Url s) h e = absurd (no (sym e))
never-body c (body.Url s) h e = absurd (none_some c h)
never-body (body.Css p) (body.Css s) h e = absurd (no (sym e))
never-body c (body.Css s) h e = absurd (none_some c h)

css-value-evidence : (v : ValuePlace) (c : Css) → v.body ≡ body.Css c → CssShown c → ShownQuery (place.Value v)
css-value-evidence v c e (css_never i f) = value-whole v (ap body_shows e ∙ i) (λ b h. css-body (λ (x : Body). body_query x ≡ false) c f b (subst (λ (x : Body). joined_bodies b x ≡ Some x) e h))
css-value-evidence v c e (css_part m i p h f) =
    value-elsewhere v m (ap body_shows e ∙ i) p (subst (λ (x : Body). body_has x m ≡ true) (sym e) h)
    (λ b j o. css-body (λ (x : Body). body_has x m ≡ true → body_query x ≡ false) c f b (subst (λ (x : Body). joined_bodies b x ≡ Some x) e j) o)

value-evidence : (v : ValuePlace) (b : Body) → v.body ≡ b → IsValidBody b → body_query b ≡ false → ShownQuery (place.Value v)
value-evidence v (body.Url p) e w n =
    (let x = parts-elsewhere p w.0 n in
    value-elsewhere v x.bears (ap body_shows e ∙ x.is) x.part (subst (λ (y : Body). body_has y x.bears ≡ true) (sym e) x.there) (λ b h o. url-elsewhere p x b (subst (λ (y : Body). joined_bodies b y ≡ Some y) e h) o))
value-evidence v (body.Css c) e w n = css-value-evidence v c e (css-evidence c w n)
value-evidence v body.Plain e w n = value-whole v (ap body_shows e) (λ b h. never-body v.body b h (ap is_query_body e))
value-evidence v body.NoHole e w n = value-whole v (ap body_shows e) (λ b h. never-body v.body b h (ap is_query_body e))
value-evidence v (body.Js j) e w n = value-whole v (ap body_shows e) (λ b h. never-body v.body b h (ap is_query_body e))

-- a style element
css-place : (P : Place → Type 0) (c : Css) → ((d : Css) → joined_css d c ≡ Some c → P (place.Style d)) → (a : Place) → Below a (place.Style c) → P a
css-place P c f (place.Style d) h = f d (row_value place.Style places_Style (joined_css d c) c h)
css-place P c f a h = absurd (none_some (place.Style c) h)

not-whole : (m : Member) (x : Bool) → is_part m ≡ true → (is_whole m || x) ≡ true → x ≡ true
not-whole member.Whole x e h = absurd (no e)
not-whole _ x e h = h

style-evidence : (c : Css) → CssShown c → ShownQuery (place.Style c)
style-evidence c (css_never i f) = record { bears = member.Whole; is = i; there = refl; leads = λ a l o. css-place (λ (p : Place). in_query p ≡ false) c f a l }
style-evidence c (css_part m i p h f) = record {
  bears = m;
  is = i;
  there = rw h (or_true (is_whole m));
  leads = λ a l o. css-place (λ (x : Place). Has x m → in_query x ≡ false) c (λ d j k. f d j (not-whole m (css_has d m) p k)) a l o;
}

whole-evidence : (p : Place) → query_shows p ≡ member.Whole → is_row p ≡ true → ShownQuery p
whole-evidence p i e = record { bears = member.Whole; is = i; there = refl; leads = λ a l o. row-query a p l e }

query-evidence : (p : Place) → IsValid p → in_query p ≡ false → ShownQuery p
query-evidence (place.Value v) w n = value-evidence v v.body refl w.1 n
query-evidence (place.Style c) w n = style-evidence c (css-evidence c w n)
query-evidence p w n = whole-evidence p refl refl

pub escape-evidence : (x : Escaper) (p : Place) → IsValid p → may_escape p x ≡ false → IsEscapeEvidence p x (escape_shows p x)
escape-evidence escaper.Html p v n = (refl, λ a w l o. same-text a p l ∙ n)
escape-evidence escaper.Urlquery p v n = (let x = query-evidence p v n in subst (IsEscapeEvidence p escaper.Urlquery) (sym x.is) (x.there, λ a w l o. x.leads a l o))

pub evidence-escape : EscapeEvidence
evidence-escape x p v n = (escape_shows p x, escape-evidence x p v n)
