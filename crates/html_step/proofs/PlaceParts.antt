-- What it says of the parts of two places in tags, or in values, that one is below the other.
use Rattle.std.proofs.Common.{◌≡◌, Bool, true, false, ◌||◌, Option, Some, None, if◌then◌else◌, refl, sym, subst, ap, ◌∙◌}
use Rattle.place_core.specs.place.Places.{Below, both_spots, joined_bodies, joined_elements, joined_kinds, joined_quotes, joined_tag_places, joined_tags, joined_value_places, same_element, same_kind, tag_place, value_place}
use Rattle.place_core.specs.declared.body.Body.{Body}
use Rattle.place_core.specs.declared.element.Element.{Element}
use Rattle.place_core.specs.declared.kind.Kind.{Kind}
use Rattle.place_core.specs.declared.place.Place.TheVariants as place
use Rattle.place_core.specs.declared.quotes.Quotes.{Quotes}
use Rattle.place_core.specs.declared.spots.Spots.{Spots}
use Rattle.place_core.specs.declared.tag_of.TagOf.{TagOf}
use Rattle.place_core.specs.declared.tag_of.TagOf.TheVariants as tag
use Rattle.place_core.specs.declared.tag_place.TagPlace.{TagPlace}
use Rattle.place_core.specs.declared.value_place.ValuePlace.{ValuePlace}
use Rattle.place_core.proofs.JoinParts.{kind_is, tags_Start, tags_partial}
use Rattle.place_core.proofs.Joins.{places_Rcdata, places_Tag, places_Value}
use Rattle.place_core.proofs.Semilattices.{none_some, one_value, row_value}

-- one truth implies another
abbrev pub Under : Bool → Bool → Type 0
Under x y = (x || y) ≡ y

pub under-false : (x : Bool) → Under x false → x ≡ false
under-false true h = h
under-false false h = refl

pub under-none : (x y : Bool) → Under x y → y ≡ false → x ≡ false
under-none x y h e = under-false x (subst (Under x) e h)

pub under-same : (x : Bool) → Under x x
under-same true = refl
under-same false = refl

or-true : (c : Bool) → (c || true) ≡ true
or-true true = refl
or-true false = refl

pub under-both : (a b c d : Bool) → Under a b → Under c d → Under (a || c) (b || d)
under-both true b c d h k = ap (λ (x : Bool). x || d) h
under-both false true c d h k = or-true c
under-both false false c d h k = k

pub record TagBelow (x y : TagPlace) : Type 0 where
  pub tag : x.tag ≡ y.tag
  pub typed : Under x.typed y.typed
  pub name : Under x.spots.name y.spots.name
  pub before : Under x.spots.before y.spots.before
  pub inside : Under x.spots.inside y.spots.inside
  pub after : Under x.spots.after y.spots.after
  pub kind : joined_kinds x.kind y.kind ≡ Some y.kind

pub record ValueBelow (x y : ValuePlace) : Type 0 where
  pub tag : x.tag ≡ y.tag
  pub typed : Under x.typed y.typed
  pub quotes : joined_quotes x.quotes y.quotes ≡ Some y.quotes
  pub body : joined_bodies x.body y.body ≡ Some y.body

if-element : (same : Bool) (e f : Element) → same_element e f ≡ same → (if same then Some e else None) ≡ Some f → e ≡ f
if-element true e f s h = one_value e f h
if-element false e f s h = absurd (none_some f h)

pub same-tags : (t u : TagOf) → joined_tags t u ≡ Some u → t ≡ u
same-tags tag.End tag.End h = refl
same-tags tag.End (tag.Start f) h = absurd (none_some (tag.Start f) h)
same-tags (tag.Start e) tag.End h = absurd (none_some tag.End h)
same-tags (tag.Start e) (tag.Start f) h = ap tag.Start (if-element (same_element e f) e f refl (row_value tag.Start tags_Start (joined_elements e f) f h))

tag-parts : (typed : Bool) (s : Spots) (t : Option TagOf) (k : Option (Option Kind)) (y : TagPlace) → tag_place typed s t k ≡ Some y
    → (typed ≡ y.typed) × (s ≡ y.spots) × (t ≡ Some y.tag) × (k ≡ Some y.kind)
tag-parts typed s (Some t) (Some k) y h =
    let e = one_value (record { tag = t; typed = typed; spots = s; kind = k }) y h in
    (ap (λ (z : TagPlace). z.typed) e, ap (λ (z : TagPlace). z.spots) e, ap (λ (z : TagPlace). Some z.tag) e, ap (λ (z : TagPlace). Some z.kind) e)
tag-parts typed s None k y h = absurd (none_some y h)
tag-parts typed s (Some t) None y h = absurd (none_some y h)

pub below-tag : (x y : TagPlace) → Below (place.Tag x) (place.Tag y) → TagBelow x y
below-tag x y h =
    let p = tag-parts (x.typed || y.typed) (both_spots x.spots y.spots) (joined_tags x.tag y.tag) (joined_kinds x.kind y.kind) y (row_value place.Tag places_Tag (joined_tag_places x y) y h) in
    record {
      tag = same-tags x.tag y.tag p.2;
      typed = p.0;
      name = ap (λ (s : Spots). s.name) p.1;
      before = ap (λ (s : Spots). s.before) p.1;
      inside = ap (λ (s : Spots). s.inside) p.1;
      after = ap (λ (s : Spots). s.after) p.1;
      kind = p.3;
    }

spots : Bool → Bool → Bool → Bool → Spots
spots n b i a = record { name = n; before = b; inside = i; after = a }

same-spots : (n b i a : Bool) (s : Spots) → n ≡ s.name → b ≡ s.before → i ≡ s.inside → a ≡ s.after → spots n b i a ≡ s
unfolding spots
same-spots n b i a s e f g h = rw (e, f, g, h) refl

pub tag-below : (x y : TagPlace) → TagBelow x y → Below (place.Tag x) (place.Tag y)
unfolding spots
tag-below x y h =
    let t : joined_tags x.tag y.tag ≡ Some y.tag = ap (λ (t : TagOf). joined_tags t y.tag) h.tag ∙ tags_partial.same y.tag in
    let s : both_spots x.spots y.spots ≡ y.spots = same-spots (x.spots.name || y.spots.name) (x.spots.before || y.spots.before) (x.spots.inside || y.spots.inside) (x.spots.after || y.spots.after) y.spots h.name h.before h.inside h.after in
    rw (t, h.kind, h.typed, s) refl

value-parts : (typed : Bool) (t : Option TagOf) (q : Option Quotes) (b : Option Body) (y : ValuePlace) → value_place typed t q b ≡ Some y
    → (typed ≡ y.typed) × (t ≡ Some y.tag) × (q ≡ Some y.quotes) × (b ≡ Some y.body)
value-parts typed (Some t) (Some q) (Some b) y h =
    let e = one_value (record { tag = t; typed = typed; quotes = q; body = b }) y h in
    (ap (λ (z : ValuePlace). z.typed) e, ap (λ (z : ValuePlace). Some z.tag) e, ap (λ (z : ValuePlace). Some z.quotes) e, ap (λ (z : ValuePlace). Some z.body) e)
value-parts typed None q b y h = absurd (none_some y h)
value-parts typed (Some t) None b y h = absurd (none_some y h)
value-parts typed (Some t) (Some q) None y h = absurd (none_some y h)

pub below-value : (x y : ValuePlace) → Below (place.Value x) (place.Value y) → ValueBelow x y
below-value x y h =
    let p = value-parts (x.typed || y.typed) (joined_tags x.tag y.tag) (joined_quotes x.quotes y.quotes) (joined_bodies x.body y.body) y (row_value place.Value places_Value (joined_value_places x y) y h) in
    record { tag = same-tags x.tag y.tag p.1; typed = p.0; quotes = p.2; body = p.3 }

pub value-below : (x y : ValuePlace) → ValueBelow x y → Below (place.Value x) (place.Value y)
value-below x y h =
    let t : joined_tags x.tag y.tag ≡ Some y.tag = ap (λ (t : TagOf). joined_tags t y.tag) h.tag ∙ tags_partial.same y.tag in
    rw (t, h.quotes, h.body, h.typed) refl

-- a kind that is there below one is that one
if-kind : (same : Bool) (k l : Kind) → same_kind k l ≡ same → (if same then Some (Some k) else None) ≡ Some (Some l) → k ≡ l
if-kind true k l s h = kind_is k l s
if-kind false k l s h = absurd (none_some (Some l) h)

pub same-kinds : (k : Kind) (o : Option Kind) → joined_kinds (Some k) o ≡ Some o → o ≡ Some k
same-kinds k None h = absurd (none_some k (sym (one_value (Some k) None h)))
same-kinds k (Some l) h = ap Some (sym (if-kind (same_kind k l) k l refl h))

pub below-rcdata : (e f : Element) → Below (place.Rcdata e) (place.Rcdata f) → e ≡ f
below-rcdata e f h = if-element (same_element e f) e f refl (row_value place.Rcdata places_Rcdata (joined_elements e f) f h)
