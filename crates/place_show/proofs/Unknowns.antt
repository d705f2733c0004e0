-- A place of which it is not known what the beginning spells is above the place.
use Rattle.std.proofs.Common.{◌≡◌, Bool, true, ◌||◌, Option, Some, None, option_map, IfSome, refl, sym, ap, ◌∙◌, subst}
use Rattle.html_step.proofs.PlaceParts.{under-same, value-below}
use Rattle.place_core.proofs.Semilattices.{of_some, or_same}
use Rattle.place_core.specs.place.ApartPlaces.{beginning_at, beginning_in_body, beginning_in_css}
use Rattle.place_core.specs.place.LanguagePlaces.{IsValidCss, IsValidParts, both_parts, both_prefixes, css_has, joined_css, parts_have}
use Rattle.place_core.specs.place.Places.{Below, Has, IsValid, IsValidBody, body_has, both_bare, is_whole, joined_bodies}
use Rattle.place_core.specs.place.Places.{joined_quotes, quotes_have, typed_has}
use Rattle.place_core.specs.declared.bare.Bare.{Bare}
use Rattle.place_core.specs.declared.body.Body.{Body}
use Rattle.place_core.specs.declared.body.Body.TheVariants as body
use Rattle.place_core.specs.declared.css.Css.{Css}
use Rattle.place_core.specs.declared.css.Css.TheVariants as css
use Rattle.place_core.specs.declared.member.Member.{Member}
use Rattle.place_core.specs.declared.member.Member.TheVariants as member
use Rattle.place_core.specs.declared.parts.Parts.{Parts}
use Rattle.place_core.specs.declared.place.Place.{Place}
use Rattle.place_core.specs.declared.place.Place.TheVariants as place
use Rattle.place_core.specs.declared.prefix.Prefix.{Prefix}
use Rattle.place_core.specs.declared.prefix.Prefix.TheVariants as prefix
use Rattle.place_core.specs.declared.quotes.Quotes.{Quotes}
use Rattle.place_core.specs.declared.quotes.Quotes.TheVariants as quotes
use Rattle.place_core.specs.declared.tag_of.TagOf.{TagOf}
use Rattle.place_core.specs.declared.value_place.ValuePlace.{ValuePlace}
use Rattle.place_show.specs.Unknown.{IsUnknown, unknown_css, unknown_place}

abbrev parts : Bool → Option Prefix → Bool → Bool → Bool → Bool → Parts
parts a o h p q b = record { start = a; opened = o; openhole = h; prequery = p; query = q; bad = b }

abbrev value : TagOf → Bool → Quotes → Body → ValuePlace
value t typed q b = record { tag = t; typed = typed; quotes = q; body = b }

with-differs : (x : Prefix) → both_prefixes (Some x) (Some prefix.Differs) ≡ Some prefix.Differs
with-differs prefix.Off = refl
with-differs (prefix.Javascript n) = refl
with-differs (prefix.Vbscript n) = refl
with-differs (prefix.DataScheme n) = refl
with-differs prefix.Differs = refl

joined-parts : (a : Bool) (x : Prefix) (h p q b : Bool) → both_parts (parts a (Some x) h p q b) (parts a (Some prefix.Differs) h p q b) ≡ parts a (Some prefix.Differs) h p q b
joined-parts a x h p q b = rw (or_same a, with-differs x, or_same h, or_same p, or_same q, or_same b) refl

abbrev bare : Bool → Bool → Bare
bare u v = record { uq = u; unbegun = v }

same-bare : (u v : Bool) → both_bare (bare u v) (bare u v) ≡ bare u v
same-bare u v = rw (or_same u, or_same v) refl

same-quotes : (q : Quotes) → joined_quotes q q ≡ Some q
same-quotes quotes.Dq = refl
same-quotes quotes.Sq = refl
same-quotes (quotes.Bare b) = ap (λ (x : Bare). Some (quotes.Bare x)) (same-bare b.uq b.unbegun)

same-parts : (a : Bool) (x y : Prefix) (h p q b : Bool) (m : Member) → parts_have (parts a (Some x) h p q b) m ≡ parts_have (parts a (Some y) h p q b) m
same-parts a x y h p q b member.Whole = refl
same-parts a x y h p q b member.Typed = refl
same-parts a x y h p q b member.CommentDash = refl
same-parts a x y h p q b member.BlockLt = refl
same-parts a x y h p q b member.NameSpot = refl
same-parts a x y h p q b member.BeforeSpot = refl
same-parts a x y h p q b member.InsideSpot = refl
same-parts a x y h p q b member.AfterSpot = refl
same-parts a x y h p q b member.UnquotedValue = refl
same-parts a x y h p q b member.UnbegunValue = refl
same-parts a x y h p q b member.PartStart = refl
same-parts a x y h p q b member.PartOpen = refl
same-parts a x y h p q b member.PartOpenhole = refl
same-parts a x y h p q b member.PartPrequery = refl
same-parts a x y h p q b member.PartQuery = refl
same-parts a x y h p q b member.PartBad = refl
same-parts a x y h p q b member.SenseRe = refl
same-parts a x y h p q b member.SenseDiv = refl
same-parts a x y h p q b member.SenseBrace = refl
same-parts a x y h p q b member.JsWord = refl
same-parts a x y h p q b member.JsNum = refl
same-parts a x y h p q b member.JsLt = refl
same-parts a x y h p q b member.JsSlash = refl
same-parts a x y h p q b member.JsPlus = refl
same-parts a x y h p q b member.JsMinus = refl
same-parts a x y h p q b member.JsHash = refl
same-parts a x y h p q b member.RegexpSlash = refl
same-parts a x y h p q b member.JsStar = refl
same-parts a x y h p q b member.CssWord = refl
same-parts a x y h p q b member.CssSlash = refl
same-parts a x y h p q b member.CssLt = refl
same-parts a x y h p q b member.CssStar = refl

-- a place that has what the parts of a URL have, whatever these are
record OfParts (P : Parts → Place) : Type 0 where
  below : (s r : Parts) → both_parts s r ≡ r → Below (P s) (P r)
  spells : (s : Parts) → beginning_at (P s) ≡ s.opened
  has : (s r : Parts) → ((m : Member) → parts_have r m ≡ parts_have s m) → (m : Member) → Has (P r) m → Has (P s) m
  valid : (s r : Parts) → (IsValidParts s → IsValidParts r) → IsValid (P s) → IsValid (P r)

unknown-in : (P : Parts → Place) → OfParts P → (a : Bool) (x : Prefix) (h p u b : Bool)
    → IsUnknown (P (parts a (Some x) h p u b)) (P (parts a (Some prefix.Differs) h p u b))
unknown-in P f a x h p u b =
    let s = parts a (Some x) h p u b in
    let r = parts a (Some prefix.Differs) h p u b in
    record {
      below = f.below s r (joined-parts a x h p u b);
      apart = f.spells r;
      has = f.has s r (same-parts a prefix.Differs x h p u b);
      valid = f.valid s r (λ v. (v.0, tt));
    }

-- likewise a body of a value, and a place in a style
record BodyOfParts (F : Parts → Body) : Type 0 where
  joins : (s r : Parts) → joined_bodies (F s) (F r) ≡ Some (F (both_parts s r))
  has : (s : Parts) (m : Member) → body_has (F s) m ≡ parts_have s m
  spells : (s : Parts) → beginning_in_body (F s) ≡ s.opened
  valid : (s : Parts) → IsValidBody (F s) → IsValidParts s
  made : (s : Parts) → IsValidParts s → IsValidBody (F s)

record StyleOfParts (F : Parts → Css) : Type 0 where
  joins : (s r : Parts) → joined_css (F s) (F r) ≡ Some (F (both_parts s r))
  has : (s : Parts) (m : Member) → css_has (F s) m ≡ parts_have s m
  spells : (s : Parts) → beginning_in_css (F s) ≡ s.opened
  valid : (s : Parts) → IsValidCss (F s) → IsValidParts s
  made : (s : Parts) → IsValidParts s → IsValidCss (F s)

abbrev HasIn : TagOf → Bool → Quotes → Member → Bool → Type 0
HasIn t typed q m x = (is_whole m || (typed_has typed m || (quotes_have q m || x))) ≡ true

in-value : (t : TagOf) (typed : Bool) (q : Quotes) (F : Parts → Body) → BodyOfParts F → OfParts (λ s. place.Value (value t typed q (F s)))
in-value t typed q F f = record {
  below = λ s r e. value-below (value t typed q (F s)) (value t typed q (F r)) (record {
    tag = refl;
    typed = under-same typed;
    quotes = same-quotes q;
    body = f.joins s r ∙ ap (λ (z : Parts). Some (F z)) e;
  });
  spells = f.spells;
  has = λ s r e m. subst (HasIn t typed q m) (f.has r m ∙ e m ∙ sym (f.has s m));
  valid = λ s r k v. (v.0, f.made r (k (f.valid s v.1)));
}

in-element : (F : Parts → Css) → StyleOfParts F → OfParts (λ s. place.Style (F s))
in-element F f = record {
  below = λ s r e. ap (option_map place.Style) (f.joins s r ∙ ap (λ (z : Parts). Some (F z)) e);
  spells = f.spells;
  has = λ s r e m. subst (λ (x : Bool). (is_whole m || x) ≡ true) (f.has r m ∙ e m ∙ sym (f.has s m));
  valid = λ s r k v. f.made r (k (f.valid s v));
}

-- a value that is a style
style-body : (F : Parts → Css) → StyleOfParts F → BodyOfParts (λ s. body.Css (F s))
style-body F f = record {
  joins = λ s r. ap (option_map body.Css) (f.joins s r);
  has = f.has;
  spells = f.spells;
  valid = f.valid;
  made = f.made;
}

url-body : BodyOfParts body.Url
url-body = record { joins = λ s r. refl; has = λ s m. refl; spells = λ s. refl; valid = λ s v. v; made = λ s v. v }

url-unknown : (t : TagOf) (typed : Bool) (q : Quotes) (a : Bool) (o : Option Prefix) (h p u b : Bool)
    → IfSome (unknown_place (place.Value (value t typed q (body.Url (parts a o h p u b))))) (IsUnknown (place.Value (value t typed q (body.Url (parts a o h p u b)))))
url-unknown t typed q a None h p u b = tt
url-unknown t typed q a (Some x) h p u b =
    unknown-in (λ s. place.Value (value t typed q (body.Url s))) (in-value t typed q body.Url url-body) a x h p u b

-- in a style, in each of the forms of a url token
in-bare : StyleOfParts css.Url
in-bare = record { joins = λ s r. refl; has = λ s m. refl; spells = λ s. refl; valid = λ s v. v; made = λ s v. v }

in-double : StyleOfParts css.UrlDq
in-double = record { joins = λ s r. refl; has = λ s m. refl; spells = λ s. refl; valid = λ s v. v; made = λ s v. v }

in-single : StyleOfParts css.UrlSq
in-single = record { joins = λ s r. refl; has = λ s m. refl; spells = λ s. refl; valid = λ s v. v; made = λ s v. v }

-- a style is in a value or in an element
abbrev OfStyles : (Css → Place) → Type 0
OfStyles P = (F : Parts → Css) → StyleOfParts F → OfParts (λ s. P (F s))

abbrev IfUnknown : (Css → Place) → Css → Type 0
IfUnknown P c = IfSome (option_map P (unknown_css c)) (IsUnknown (P c))

module _ (P : Css → Place) (of : OfStyles P) where
  bare-unknown : (a : Bool) (o : Option Prefix) (h p u b : Bool) → IfUnknown P (css.Url (parts a o h p u b))
  bare-unknown a None h p u b = tt
  bare-unknown a (Some x) h p u b = unknown-in (λ s. P (css.Url s)) (of css.Url in-bare) a x h p u b

  double-unknown : (a : Bool) (o : Option Prefix) (h p u b : Bool) → IfUnknown P (css.UrlDq (parts a o h p u b))
  double-unknown a None h p u b = tt
  double-unknown a (Some x) h p u b = unknown-in (λ s. P (css.UrlDq s)) (of css.UrlDq in-double) a x h p u b

  single-unknown : (a : Bool) (o : Option Prefix) (h p u b : Bool) → IfUnknown P (css.UrlSq (parts a o h p u b))
  single-unknown a None h p u b = tt
  single-unknown a (Some x) h p u b = unknown-in (λ s. P (css.UrlSq s)) (of css.UrlSq in-single) a x h p u b

  style-unknown : (c : Css) → IfUnknown P c
  style-unknown (css.Url s) = bare-unknown s.start s.opened s.openhole s.prequery s.query s.bad
  style-unknown (css.UrlDq s) = double-unknown s.start s.opened s.openhole s.prequery s.query s.bad
  style-unknown (css.UrlSq s) = single-unknown s.start s.opened s.openhole s.prequery s.query s.bad
  style-unknown _ = tt

-- in a value, as a body
body-unknown : (t : TagOf) (typed : Bool) (q : Quotes) (Q : Place → Type 0) (o : Option Css)
    → IfSome (option_map (λ (c : Css). place.Value (value t typed q (body.Css c))) o) Q
    → IfSome (option_map (λ (b : Body). place.Value (value t typed q b)) (option_map body.Css o)) Q
body-unknown t typed q Q (Some c) h = h
body-unknown t typed q Q None h = tt

css-unknown : (t : TagOf) (typed : Bool) (q : Quotes) (c : Css)
    → IfSome (unknown_place (place.Value (value t typed q (body.Css c)))) (IsUnknown (place.Value (value t typed q (body.Css c))))
css-unknown t typed q c =
    body-unknown t typed q (IsUnknown (place.Value (value t typed q (body.Css c)))) (unknown_css c)
    (style-unknown (λ (d : Css). place.Value (value t typed q (body.Css d)))
    (λ F f. in-value t typed q (λ s. body.Css (F s)) (style-body F f)) c)

value-unknown : (t : TagOf) (typed : Bool) (q : Quotes) (b : Body) → IfSome (unknown_place (place.Value (value t typed q b))) (IsUnknown (place.Value (value t typed q b)))
value-unknown t typed q (body.Url s) = url-unknown t typed q s.start s.opened s.openhole s.prequery s.query s.bad
value-unknown t typed q body.Plain = tt
value-unknown t typed q body.NoHole = tt
value-unknown t typed q (body.Js j) = tt
value-unknown t typed q (body.Css c) = css-unknown t typed q c

place-unknown : (p : Place) → IfSome (unknown_place p) (IsUnknown p)
place-unknown (place.Value v) = value-unknown v.tag v.typed v.quotes v.body
place-unknown place.Text = tt
place-unknown place.Doctype = tt
place-unknown (place.Comment x) = tt
place-unknown (place.Rcdata e) = tt
place-unknown (place.Tag t) = tt
place-unknown (place.Script j) = tt
place-unknown (place.Style c) = style-unknown place.Style in-element c
place-unknown (place.Block x) = tt

pub is-unknown : (p q : Place) → unknown_place p ≡ Some q → IsUnknown p q
is-unknown p q e = of_some (IsUnknown p) (unknown_place p) q (place-unknown p) e
