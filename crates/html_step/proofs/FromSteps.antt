-- Each member after a byte comes from one member before it.
use Rattle.std.proofs.Common.{◌≡◌, ℕ, Bool, true, false, ◌||◌, List, [], ◌∷◌, if◌then◌else◌, Option, Some, None, refl, sym, ap, ◌∙◌, subst, ⊎_elim}
use Rattle.std.specs.Char.{to_ascii_lowercase}
use Rattle.place_core.specs.page.Classes.{Class, White, QuotationMark, Apostrophe, HyphenMinus, Solidus, LessThan, EqualsSign, GreaterThan, class_of}
use Rattle.place_core.specs.place.Errors.{tag_error}
use Rattle.place_core.specs.place.Places.{Has, IsValid, IsValidTag, dash_has, is_whole, typed_has}
use Rattle.place_core.specs.place.StatePlaces.{unbegun}
use Rattle.place_core.specs.place.UrlParts.{parts_of}
use Rattle.place_core.specs.declared.body.Body.{Body}
use Rattle.place_core.specs.declared.body.Body.TheVariants as body
use Rattle.place_core.specs.declared.element.Element.TheVariants as element
use Rattle.place_core.specs.declared.kind.Kind.{Kind}
use Rattle.place_core.specs.declared.kind.Kind.TheVariants as kind
use Rattle.place_core.specs.declared.member.Member.{Member}
use Rattle.place_core.specs.declared.member.Member.TheVariants as member
use Rattle.place_core.specs.declared.place.Place.{Place}
use Rattle.place_core.specs.declared.place.Place.TheVariants as place
use Rattle.place_core.specs.declared.quotes.Quotes.{Quotes}
use Rattle.place_core.specs.declared.tag_of.TagOf.{TagOf}
use Rattle.place_core.specs.declared.tag_place.TagPlace.{TagPlace}
use Rattle.place_core.specs.declared.value_place.ValuePlace.{ValuePlace}
use Rattle.place_core.proofs.Joins.{places_same}
use Rattle.html_scan.specs.Scans.{Scan, At, AfterLess, AfterLessSolidus, InDeclaration, InTagName, InAttributeName, InUrl, InStyle, InScript, InScriptElement, InStyleElement, InCommentEnd, InContentEnd, comment_next, comment_state, place_cause, scan_cut_error, scan_error, scan_next, scan_place, tag_next, value_cause, value_next, value_scan, BeforeType, InType, content_next, content_scan}
use Rattle.html_step.specs.Origins.{byte_origin, end_origin, name_origin, tag_origin, typed_origin, value_origin, white_origin}
use Rattle.html_step.proofs.BelowScans.{IsRigid, below-at, below-at-tag, below-at-unstyled, below-attribute, below-url, comment-end-rigid, content-end-rigid, declaration-rigid, doctype-rigid, less-rigid, rcdata-rigid, solidus-rigid, tag-name-rigid, text-rigid, whole-in, before-type-rigid, type-rigid}
use Rattle.html_step.proofs.ElementFrom.{end-element, from-element, from-element-place}
use Rattle.html_step.proofs.ScriptElementFrom.{end-script-element, from-script-element, from-script-element-place}
use Rattle.html_step.proofs.StyleFrom.{has-placed}
use Rattle.html_step.proofs.FromValues.{From, FromEnd, ValueFrom, content-from, end-from, no-less, value-from, value_has}
use Rattle.html_step.proofs.ScanOrder.{ScanBelow, ScanHas, ScanValid, Unstyled, UrlWithin, begun-open, begun-valid, has-kind, within-unstyled, script_cut}
use Rattle.html_step.proofs.StylePaths.{empty_css}
use Rattle.html_step.proofs.ScriptPaths.{empty_js}
use Rattle.html_step.proofs.ScriptValues.{end-script, from-in-script, from-script-place}
use Rattle.html_step.proofs.StyleValues.{end-style, from-in-style, from-style-place, style-placed}
use Rattle.html_step.proofs.PathScans.{none-at-hand, some}
use Rattle.html_step.proofs.PlaceParts.{TagBelow, below-tag, under-false}
use Rattle.place_core.specs.page.References.{Reference, Closed}
use Rattle.url_lexer.specs.Parts.{UrlStart}
use Rattle.url_lexer.specs.Triples.{Triple, NoTriple}

pub no : false ≡ true → ⊥
no e = cc

pub or-false : (x : Bool) → (x || false) ≡ true → x ≡ true
or-false true h = refl
or-false false h = h

pub false-or : (x : Bool) → x ≡ true → (x || false) ≡ true
false-or x h = rw h refl

from-whole : (f : Scan) (c : Class) (b : ℕ) (y : Member) → is_whole y ≡ true → From f c b y member.Whole
from-whole f c b y e = record { there = whole-in f member.Whole refl; leads = λ g v l h. whole-in (scan_next g c b) y e }

from-rigid : (f : Scan) → IsRigid f → (c : Class) (b : ℕ) (y : Member) → ScanHas (scan_next f c b) y → From f c b y member.Whole
from-rigid f r c b y h = record {
  there = whole-in f member.Whole refl;
  leads = λ g v l o. subst (λ (x : Scan). ScanHas (scan_next x c b) y) (sym (r g l)) h;
}

whole-typed : (y : Member) → is_whole y ≡ true → typed_origin y ≡ member.Whole
whole-typed member.Whole e = refl
whole-typed _ e = absurd (no e)

-- from a tag
pub from-tag : (t : TagPlace) (c : Class) (b : ℕ) (y x : Member) → ScanHas (At (place.Tag t)) x
    → ((u : TagPlace) → IsValidTag u → TagBelow u t → ScanHas (At (place.Tag u)) x → ScanHas (tag_next u c b) y) → From (At (place.Tag t)) c b y x
from-tag t c b y x h f = record {
  there = h;
  leads = λ g v l o. below-at-tag (λ (g : Scan). ScanValid g → ScanHas g x → ScanHas (scan_next g c b) y) t (λ u l v o. f u v l o) g l v o;
}

pub or-last : (x y : Bool) → y ≡ true → (x || y) ≡ true
or-last true y h = refl
or-last false y h = h

pub from-before : (t : TagPlace) (n : Bool) (b : ℕ) → t.spots.name ≡ n → (t.spots.name || t.spots.before) ≡ true
    → From (At (place.Tag t)) White b member.BeforeSpot (if n then member.NameSpot else member.BeforeSpot)
from-before t true b e h = from-tag t White b member.BeforeSpot member.NameSpot e (λ u v l o. rw o refl)
from-before t false b e h = from-tag t White b member.BeforeSpot member.BeforeSpot (sym (rw e refl) ∙ h) (λ u v l o. or-last u.spots.name u.spots.before o)

pub from-after : (t : TagPlace) (i : Bool) (b : ℕ) → t.spots.inside ≡ i → (t.spots.inside || t.spots.after) ≡ true
    → From (At (place.Tag t)) White b member.AfterSpot (if i then member.InsideSpot else member.AfterSpot)
from-after t true b e h = from-tag t White b member.AfterSpot member.InsideSpot e (λ u v l o. rw o refl)
from-after t false b e h = from-tag t White b member.AfterSpot member.AfterSpot (sym (rw e refl) ∙ h) (λ u v l o. or-last u.spots.inside u.spots.after o)

pub from-white : (t : TagPlace) (b : ℕ) (y : Member) → ScanHas (tag_next t White b) y → From (At (place.Tag t)) White b y (white_origin t.spots y)
from-white t b member.Whole h = from-whole (At (place.Tag t)) White b member.Whole refl
from-white t b member.Typed h = from-tag t White b member.Typed member.Typed h (λ u v l o. o)
from-white t b member.BeforeSpot h = from-before t t.spots.name b refl h
from-white t b member.AfterSpot h = from-after t t.spots.inside b refl h
from-white t b _ h = absurd (no h)

pub from-solidus : (t : TagPlace) (b : ℕ) (y : Member) → ScanHas (tag_next t Solidus b) y → From (At (place.Tag t)) Solidus b y (typed_origin y)
from-solidus t b member.Whole h = from-whole (At (place.Tag t)) Solidus b member.Whole refl
from-solidus t b member.Typed h = from-tag t Solidus b member.Typed member.Typed h (λ u v l o. o)
from-solidus t b member.BeforeSpot h = from-tag t Solidus b member.BeforeSpot member.Whole refl (λ u v l o. refl)
from-solidus t b _ h = absurd (no h)

-- a value that begins
begins-typed : (t : TagOf) (x : Bool) (k : Kind) → ScanHas (value_scan t x (Some k)) member.Typed → (x || false) ≡ true
begins-typed t x kind.Plain h = h
begins-typed t x kind.NoHole h = h
begins-typed t x kind.Url h = h
begins-typed t x kind.Script h = h
begins-typed t x kind.Style h = h
begins-typed t x kind.ScriptType h = absurd (no h)

-- whether a `type` may have been seen is a member of its own, the others do not depend on it
value-typed : (x z : Bool) (q : Quotes) (b : Body) (y : Member) → value_has x q b y ≡ true → (typed_has true y ≡ true → z ≡ true) → value_has z q b y ≡ true
value-typed x z q b member.Typed h f = rw (f refl) refl
value-typed x z q b _ h f = h

-- what one value of a kind has, another one has
begins-alike : (t u : TagOf) (x z : Bool) (k : Kind) (y : Member) → ScanHas (value_scan t x (Some k)) y
    → (typed_has true y ≡ true → z ≡ true)
    → ScanHas (value_scan u z (Some k)) y
begins-alike t u x z kind.Plain y h f = value-typed x z unbegun body.Plain y h f
begins-alike t u x z kind.NoHole y h f = value-typed x z unbegun body.NoHole y h f
begins-alike t u x z kind.Url y h f = value-typed x z unbegun (body.Url (parts_of UrlStart)) y h f
begins-alike t u x z kind.Script y h f = value-typed x z unbegun (body.Js empty_js) y h f
begins-alike t u x z kind.Style y h f = value-typed x z unbegun (body.Css empty_css) y h f
begins-alike t u x z kind.ScriptType y h f = h

begins-below : (t u : TagPlace) (b : ℕ) (y : Member) → IsValidTag u → TagBelow u t → tag_error t EqualsSign ≡ None → ScanHas (tag_next t EqualsSign b) y
    → (typed_has true y ≡ true → u.typed ≡ true) → ScanHas (tag_next u EqualsSign b) y
begins-below t u b y w l n h f =
    let j = has-kind u t w l n in
    subst (λ (o : Option Kind). ScanHas (value_scan u.tag u.typed o) y) (sym j.there)
    (begins-alike t.tag u.tag t.typed u.typed j.kind y (subst (λ (o : Option Kind). ScanHas (value_scan t.tag t.typed o) y) j.too h) f)

pub from-equals : (t : TagPlace) (b : ℕ) (y : Member) → IsValidTag t → tag_error t EqualsSign ≡ None → ScanHas (tag_next t EqualsSign b) y
    → From (At (place.Tag t)) EqualsSign b y (typed_origin y)
from-equals t b member.Typed v n h =
    let k = has-kind t t v (below-tag t t (places_same (place.Tag t))) n in
    from-tag t EqualsSign b member.Typed member.Typed
    (begins-typed t.tag t.typed k.kind (subst (λ (o : Option Kind). ScanHas (value_scan t.tag t.typed o) member.Typed) k.there h))
    (λ u w l o. begins-below t u b member.Typed w l n h (λ e. or-false u.typed o))
from-equals t b y v n h = from-tag t EqualsSign b y member.Whole refl (λ u w l o. begins-below t u b y w l n h (λ e. absurd (no e)))

pub from-name : (t : TagPlace) (c : Class) (b : ℕ) (y : Member)
    → ((u : TagPlace) → tag_next u c b ≡ InAttributeName u.tag u.typed (to_ascii_lowercase b ∷ []))
    → ScanHas (InAttributeName t.tag t.typed (to_ascii_lowercase b ∷ [])) y → From (At (place.Tag t)) c b y (typed_origin y)
from-name t c b member.Whole e h = from-whole (At (place.Tag t)) c b member.Whole refl
from-name t c b member.Typed e h = from-tag t c b member.Typed member.Typed (false-or t.typed h)
    (λ u v l o. subst (λ (f : Scan). ScanHas f member.Typed) (sym (e u)) (or-false u.typed o))
from-name t c b _ e h = absurd (no h)

content-typed : (t : TagOf) (y : Member) → ScanHas (content_scan t) y → typed_origin y ≡ member.Whole
content-typed t y h = ⊎_elim (λ k. whole-typed y k) (λ k. ap typed_origin k) (content-from t y h)

pub from-tag-byte : (t : TagPlace) (c : Class) (b : ℕ) (y : Member) → IsValidTag t → tag_error t c ≡ None → ScanHas (tag_next t c b) y
    → From (At (place.Tag t)) c b y (tag_origin c t.spots y)
from-tag-byte t White b y v n h = from-white t b y h
from-tag-byte t Solidus b y v n h = from-solidus t b y h
from-tag-byte t GreaterThan b y v n h =
    subst (From (At (place.Tag t)) GreaterThan b y) (sym (content-typed t.tag y h))
    (from-tag t GreaterThan b y member.Whole refl (λ u w l o. subst (λ (z : TagOf). ScanHas (content_scan z) y) (sym l.tag) h))
from-tag-byte t EqualsSign b y v n h = from-equals t b y v n h
from-tag-byte t QuotationMark b y v n h = absurd (some _ n)
from-tag-byte t Apostrophe b y v n h = absurd (some _ n)
from-tag-byte t LessThan b y v n h = absurd (some _ n)
from-tag-byte t _ b y v n h = from-name t _ b y (λ u. refl) h

-- From a value, at a place, and in a URL in a triple or a reference.
from-value : (v : ValuePlace) (c : Class) (b : ℕ) (y x : Member) → Unstyled v.body → ValueFrom v NoTriple Closed c b y x → From (At (place.Value v)) c b y x
from-value v c b y x z f = record {
  there = f.there;
  leads = λ g w l o. below-at-unstyled (λ (g : Scan). ScanValid g → ScanHas g x → ScanHas (scan_next g c b) y) v z (λ u l w o. f.leads u w.0 l o) g l w o;
}

from-url : (v : ValuePlace) (t : Triple) (r : Reference) (c : Class) (b : ℕ) (y x : Member) → ValueFrom v t r c b y x → From (InUrl v t r) c b y x
from-url v t r c b y x f = record {
  there = f.there;
  leads = λ g w l o. below-url (λ (g : Scan). ScanValid g → ScanHas g x → ScanHas (scan_next g c b) y) v t r
      (λ u l w o. f.leads u (begun-valid u.quotes w.0) l o) g l w o;
}

-- From a comment.
no-dash : (y : Member) → (is_whole y || dash_has false y) ≡ true → is_whole y ≡ true
no-dash member.CommentDash h = absurd (no h)
no-dash y h = or-false (is_whole y) h

comment-whole : (dash : Bool) (c : Class) (y : Member) → ScanHas (comment_next c (comment_state dash)) y → is_whole y ≡ true
comment-whole true HyphenMinus y h = h
comment-whole true _ y h = no-dash y h
comment-whole false HyphenMinus y h = h
comment-whole false _ y h = no-dash y h

-- From a name of an attribute.
pub untyped-rigid : (t : TagOf) (name : List ℕ) → IsRigid (InAttributeName t false name)
untyped-rigid t name g h = below-attribute (λ (g : Scan). g ≡ InAttributeName t false name) t false name
    (λ x u. ap (λ (z : Bool). InAttributeName t z name) (under-false x u)) g h

pub from-typed : (t : TagOf) (name : List ℕ) (c : Class) (b : ℕ) (y : Member) → ScanHas (scan_next (InAttributeName t true name) c b) y
    → From (InAttributeName t true name) c b y member.Typed
from-typed t name c b y h = record {
  there = refl;
  leads = λ g v l o. below-attribute (λ (g : Scan). ScanHas g member.Typed → ScanHas (scan_next g c b) y) t true name
      (λ x u o. subst (λ (z : Bool). ScanHas (scan_next (InAttributeName t z name) c b) y) (sym o) h) g l o;
}

pub from-attribute : (t : TagOf) (typed : Bool) (name : List ℕ) (c : Class) (b : ℕ) (y : Member) → ScanHas (scan_next (InAttributeName t typed name) c b) y
    → From (InAttributeName t typed name) c b y (name_origin typed)
from-attribute t true name c b y h = from-typed t name c b y h
from-attribute t false name c b y h = from-rigid (InAttributeName t false name) (untyped-rigid t name) c b y h

-- From a data block.
block-whole : (c : Class) (y : Member) → ScanHas (content_next c element.DataBlock) y → is_whole y ≡ true
block-whole LessThan y h = h
block-whole _ y h = no-less y h

from-value-byte : (v : ValuePlace) (c : Class) (b : ℕ) (y : Member) (x : Body) → v.body ≡ x → IsValid (place.Value v) → value_cause v Closed c b ≡ None
    → ScanHas (value_next v NoTriple Closed c b) y → From (At (place.Value v)) c b y (value_origin v Closed c b y)
from-value-byte v c b y (body.Css p) d w n h = from-style-place v c b y p d w.0 n h
from-value-byte v c b y (body.Js p) d w n h = from-script-place v c b y p d w n h
from-value-byte v c b y x d w n h =
    let z = subst Unstyled (sym d) tt in
    from-value v c b y (value_origin v Closed c b y) z (value-from v NoTriple Closed c b y w.0 tt z n h)

-- From any scan state.
pub from-place : (p : Place) (c : Class) (b : ℕ) (y : Member) → class_of b ≡ c → IsValid p → place_cause p c b ≡ None → ScanHas (scan_next (At p) c b) y
    → From (At p) c b y (byte_origin (At p) c b y)
from-place place.Text c b y i v n h = from-rigid (At place.Text) text-rigid c b y h
from-place place.Doctype c b y i v n h = from-rigid (At place.Doctype) doctype-rigid c b y h
from-place (place.Comment dash) c b y i v n h = from-whole (At (place.Comment dash)) c b y (comment-whole dash c y h)
from-place (place.Rcdata e) c b y i v n h = from-rigid (At (place.Rcdata e)) (rcdata-rigid e) c b y h
from-place (place.Tag t) c b y i v n h = from-tag-byte t c b y v (none-at-hand (tag_error t c) n) h
from-place (place.Value x) c b y i v n h = from-value-byte x c b y x.body refl v n h
from-place (place.Script j) c b y i v n h = from-script-element-place j c b y i v n h
from-place (place.Style j) c b y i v n h = from-element-place j c b y n h
from-place (place.Block lt) c b y i v n h = from-whole (At (place.Block lt)) c b y (block-whole c y h)

pub from-byte : (f : Scan) (c : Class) (b : ℕ) (y : Member) → class_of b ≡ c → ScanValid f → scan_error f c b ≡ None → ScanHas (scan_next f c b) y
    → From f c b y (byte_origin f c b y)
from-byte (At p) c b y i v n h = from-place p c b y i v n h
from-byte AfterLess c b y i v n h = from-rigid AfterLess less-rigid c b y h
from-byte AfterLessSolidus c b y i v n h = from-rigid AfterLessSolidus solidus-rigid c b y h
from-byte (InDeclaration pending) c b y i v n h = from-rigid (InDeclaration pending) (declaration-rigid pending) c b y h
from-byte (InTagName end name) c b y i v n h = from-rigid (InTagName end name) (tag-name-rigid end name) c b y h
from-byte (InAttributeName t typed name) c b y i v n h = from-attribute t typed name c b y h
from-byte (InUrl w t r) c b y i v n h =
    from-url w t r c b y (value_origin w r c b y) (value-from w t r c b y (begun-valid w.quotes v.0) (begun-open r w.quotes v.0) (within-unstyled w.body v.1) n h)
from-byte (InStyle w s r) c b y i v n h = from-in-style w s r c b y v.0 n h
from-byte (InScript w s r) c b y i v n h = from-in-script w s r c b y v.0 v.2 n h
from-byte (InCommentEnd s) c b y i v n h = from-rigid (InCommentEnd s) (comment-end-rigid s) c b y h
from-byte (InContentEnd e x) c b y i v n h = from-rigid (InContentEnd e x) (content-end-rigid e x) c b y h
from-byte (InStyleElement s x) c b y i v n h = from-element s x c b y n h
from-byte (InScriptElement k x) c b y i v n h = from-script-element k x c b y i v.0 n h
from-byte (BeforeType t) c b y i v n h = from-rigid (BeforeType t) (before-type-rigid t) c b y h
from-byte (InType t q w r) c b y i v n h = from-rigid (InType t q w r) (type-rigid t q w r) c b y h

-- From the end of a text.
end-url : (v : ValuePlace) (t : Triple) (r : Reference) (y : Member) → UrlWithin v.body → scan_cut_error (InUrl v t r) ≡ None → Has (scan_place (InUrl v t r)) y
    → FromEnd (InUrl v t r) y (end_origin (InUrl v t r) y)
end-url v t r y w n h =
    let f = end-from v r y w n h in
    let x = end_origin (InUrl v t r) y in
    record { there = f.there; leads = λ g z l o. below-url (λ (g : Scan). ScanHas g x → Has (scan_place g) y) v t r (λ u l o. f.leads u l o) g l o }

end-rigid : (f : Scan) → IsRigid f → (y : Member) → Has (scan_place f) y → FromEnd f y member.Whole
end-rigid f r y h = record { there = whole-in f member.Whole refl; leads = λ g z l o. subst (λ (x : Scan). Has (scan_place x) y) (sym (r g l)) h }

end-at : (p : Place) (y : Member) (g : Scan) → ScanBelow g (At p) → ScanHas g y → Has (scan_place g) y
end-at p y g l o = below-at (λ (g : Scan). ScanHas g y → Has (scan_place g) y) p (λ a l o. o) (λ v n u o. style-placed v n y o) (λ n u o. has-placed n y o) g l o

end-attribute : (t : TagOf) (typed : Bool) (name : List ℕ) (y : Member) → Has (scan_place (InAttributeName t typed name)) y
    → FromEnd (InAttributeName t typed name) y (name_origin typed)
end-attribute t false name y h = end-rigid (InAttributeName t false name) (untyped-rigid t name) y h
end-attribute t true name y h = record {
  there = refl;
  leads = λ g z l o. below-attribute (λ (g : Scan). ScanHas g member.Typed → Has (scan_place g) y) t true name
      (λ x u o. subst (λ (z : Bool). Has (scan_place (InAttributeName t z name)) y) (sym o) h) g l o;
}

pub from-end : (f : Scan) (y : Member) → ScanValid f → scan_cut_error f ≡ None → script_cut f ≡ None → Has (scan_place f) y → FromEnd f y (end_origin f y)
from-end (At p) y v n o h = record { there = h; leads = λ g z l o. end-at p y g l o }
from-end AfterLess y v n o h = end-rigid AfterLess less-rigid y h
from-end AfterLessSolidus y v n o h = end-rigid AfterLessSolidus solidus-rigid y h
from-end (InDeclaration pending) y v n o h = end-rigid (InDeclaration pending) (declaration-rigid pending) y h
from-end (InTagName end name) y v n o h = end-rigid (InTagName end name) (tag-name-rigid end name) y h
from-end (InAttributeName t typed name) y v n o h = end-attribute t typed name y h
from-end (InCommentEnd s) y v n o h = end-rigid (InCommentEnd s) (comment-end-rigid s) y h
from-end (InContentEnd e x) y v n o h = end-rigid (InContentEnd e x) (content-end-rigid e x) y h
from-end (InStyleElement s x) y v n o h = end-element s x y n h
from-end (InScriptElement k x) y v n o h = end-script-element k x y v.0 n h
from-end (BeforeType t) y v n o h = end-rigid (BeforeType t) (before-type-rigid t) y h
from-end (InUrl w t r) y v n o h = end-url w t r y v.1 n h
from-end (InStyle w s r) y v n o h = end-style w s r y v.0 n h
from-end (InScript w s r) y v n o h = end-script w s r y v.0 v.2 n o h
from-end (InType t q w r) y v n o h = end-rigid (InType t q w r) (type-rigid t q w r) y h
