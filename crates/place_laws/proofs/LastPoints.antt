-- The last point at which two paths are apart in the beginning of a URL, in a text and along moves: there is one, or they are nowhere apart.
use Rattle.std.proofs.Common.{◌≡◌, ℕ, zero, suc, ◌≤◌, Bool, true, false, List, [], ◌∷◌, length, take, drop, Option, Some, None, refl, sym, ap, ◌∙◌, subst, ◌⊎◌, inl, inr, arith}
use Rattle.html_scan.specs.Scans.{At, Scan}
use Rattle.html_step.proofs.OnePath.{ends-agree}
use Rattle.html_step.proofs.OneTexts.{at-place}
use Rattle.html_step.proofs.PathScans.{Ends, WhereScanned, scanned}
use Rattle.html_step.specs.ApartInText.{AreApartAfter, AreNotApart, IsLastIn}
use Rattle.place_core.proofs.Semilattices.{none_some, one_value}
use Rattle.place_core.specs.page.Classes.{class_of}
use Rattle.place_core.specs.page.Html.{next}
use Rattle.place_core.specs.page.References.{Open}
use Rattle.place_core.specs.page.States.{AttributeValue, LexState, Template}
use Rattle.place_core.specs.page.Tags.{ValueState, languages}
use Rattle.place_core.specs.place.ApartPlaces.{beginning_at, opened_apart}
use Rattle.place_core.specs.place.Errors.{or_place, place_before_bytes, shown_from, shown_place, states}
use Rattle.place_core.specs.place.PathPairs.{Apart, ApartBefore, PartWithin, is_in_reference}
use Rattle.place_core.specs.place.StatePlaces.{placed}
use Rattle.place_core.specs.declared.place.Place.{Place}
use Rattle.place_flow.specs.Covering.{edge_read}
use Rattle.place_flow.specs.Errors.{EdgeParts, KeepsAlong, MeetApart, PartAlong}
use Rattle.place_flow.specs.HtmlCovering.{html_language}
use Rattle.place_show.specs.LastApart.{AreShownIn, EdgeNotApart, IsLastAlong, IsLastInEdge, NotApartAlong}
use Rattle.tpl_paths.specs.Edges.{Edge, calls, fills, passes, picks, writes}
use Rattle.tpl_paths.specs.Paths.{Move, along, back}

not-true : (b : Bool) → b ≡ true → b ≡ false → ⊥
not-true b e f = cc

below-or : (n k : ℕ) → n ≤ suc k → (n ≤ k) ⊎ (n ≡ suc k)
below-or zero k le = inl (omega arith)
below-or (suc n) zero le = inr (omega (arith, le))
below-or (suc n) (suc k) le = elim (below-or n k (omega (arith, le))) [ inl h ↦ inl (omega (arith, h)) | inr h ↦ inr (omega (arith, h)) ]

-- whether two paths are apart before the bytes that are left of a text
module _ (bytes : List ℕ) (s r : LexState ValueState) where
  abbrev Decided : Type 0
  Decided = ApartBefore bytes s r ⊎ (ApartBefore bytes s r → ⊥)

  places-by : (a b : Place) (z : Bool) → is_in_reference s bytes ≡ false → is_in_reference r bytes ≡ false → place_before_bytes s bytes ≡ Some a → place_before_bytes r bytes ≡ Some b
      → opened_apart (beginning_at a) (beginning_at b) ≡ z → Decided
  places-by a b true x y o w e = inl (record { own = a; other_own = b; between = x; other_between = y; stands = o; other_stands = w; apart = e })
  places-by a b false x y o w e = inr (λ h.
      let one : h.own ≡ a = one_value h.own a (sym h.stands ∙ o) in
      let other : h.other_own ≡ b = one_value h.other_own b (sym h.other_stands ∙ w) in
      not-true (opened_apart (beginning_at a) (beginning_at b))
      (subst (λ (p : Place). opened_apart (beginning_at p) (beginning_at b) ≡ true) one (subst (λ (q : Place). opened_apart (beginning_at h.own) (beginning_at q) ≡ true) other h.apart)) e)

  apart-by : (x y : Bool) (o w : Option Place) → is_in_reference s bytes ≡ x → is_in_reference r bytes ≡ y → place_before_bytes s bytes ≡ o → place_before_bytes r bytes ≡ w → Decided
  apart-by true y o w e f g h = inr (λ a. not-true (is_in_reference s bytes) e a.between)
  apart-by false true o w e f g h = inr (λ a. not-true (is_in_reference r bytes) f a.other_between)
  apart-by false false None w e f g h = inr (λ a. none_some a.own (sym g ∙ a.stands))
  apart-by false false (Some p) None e f g h = inr (λ a. none_some a.other_own (sym h ∙ a.other_stands))
  apart-by false false (Some p) (Some q) e f g h = places-by p q (opened_apart (beginning_at p) (beginning_at q)) e f g h refl

  apart-or-not : Decided
  apart-or-not = apart-by (is_in_reference s bytes) (is_in_reference r bytes) (place_before_bytes s bytes) (place_before_bytes r bytes) refl refl refl refl

-- the place that is shown where there is one before the bytes that are left, and where there is one before the text
shown-is : (n : ℕ) (bytes : List ℕ) (s : LexState ValueState) (o : Option Place) (p : Place) → place_before_bytes (states (take n bytes) s) (drop n bytes) ≡ Some p → shown_from n bytes s o ≡ Some p
shown-is zero [] s o p h = ap (λ (x : Option Place). or_place x o) h
shown-is zero (b ∷ bs) s o p h = ap (λ (x : Option Place). or_place x o) h
shown-is (suc n) [] s o p h = ap (λ (x : Option Place). or_place x o) h
shown-is (suc n) (b ∷ bs) s o p h = shown-is n bs (next languages Template s (class_of b) b) (or_place (place_before_bytes s (b ∷ bs)) o) p h

or-some : (a o : Option Place) (p : Place) → o ≡ Some p → (q : Place) × (or_place a o ≡ Some q)
or-some (Some x) o p h = (x, refl)
or-some None o p h = (p, h)

keeps-shown : (n : ℕ) (bytes : List ℕ) (s : LexState ValueState) (o : Option Place) (p : Place) → o ≡ Some p → (q : Place) × (shown_from n bytes s o ≡ Some q)
keeps-shown zero bytes s o p h = or-some (place_before_bytes s bytes) o p h
keeps-shown (suc n) [] s o p h = or-some (place_before_bytes s []) o p h
keeps-shown (suc n) (b ∷ bs) s o p h =
    let k = or-some (place_before_bytes s (b ∷ bs)) o p h in
    keeps-shown n bs (next languages Template s (class_of b) b) (or_place (place_before_bytes s (b ∷ bs)) o) k.0 k.1

own-by : (s : LexState ValueState) (bs : List ℕ) (p : Place) (o : Option Scan) → WhereScanned o (Ends s) → o ≡ Some (At p) → place_before_bytes s bs ≡ Some p
own-by s bs p None a e = cc
own-by s bs p (Some f) a e = (subst (Ends s) (one_value f (At p) e) a).shown bs (inl refl)

before-own : (s : LexState ValueState) (p : Place) (bs : List ℕ) → placed s ≡ Some p → place_before_bytes s bs ≡ Some p
before-own s p bs h = own-by s bs p (scanned s) (ends-agree s) (at-place s p h)

not-between : (s : LexState ValueState) (p : Place) (bs : List ℕ) → placed s ≡ Some p → is_in_reference s bs ≡ false
not-between (AttributeValue q t v (Open f bytes)) p (b ∷ bs) h = absurd (none_some p h)
not-between s p bs h = refl

shown-exists : (n : ℕ) (bytes : List ℕ) (s : LexState ValueState) (p : Place) → placed s ≡ Some p → (q : Place) × (shown_place n bytes s ≡ Some q)
shown-exists zero bytes s p h = (p, ap (λ (x : Option Place). or_place x None) (before-own s p bytes h))
shown-exists (suc n) [] s p h = (p, ap (λ (x : Option Place). or_place x None) (before-own s p [] h))
shown-exists (suc n) (b ∷ bs) s p h =
    keeps-shown n bs (next languages Template s (class_of b) b) (or_place (place_before_bytes s (b ∷ bs)) None) p (ap (λ (x : Option Place). or_place x None) (before-own s p (b ∷ bs) h))

-- the last point of a text
abbrev FoundIn : ℕ → List ℕ → LexState ValueState → LexState ValueState → Type 0
FoundIn upto bytes s r = ((p : Place) × (q : Place) × IsLastIn upto bytes s r p q) ⊎ AreNotApart upto bytes s r

here-last : (n : ℕ) (bytes : List ℕ) (s r : LexState ValueState) → AreApartAfter n bytes s r → FoundIn n bytes s r
here-last n bytes s r a = inl (
  a.own,
  a.other_own,
  record {
    after = n;
    within = omega arith;
    apart = a;
    stands = shown-is n bytes s None a.own a.stands;
    other_stands = shown-is n bytes r None a.other_own a.other_stands;
    last = λ m more within h. absurd (omega (arith, more, within));
  },
)

module _ (bytes : List ℕ) (s r : LexState ValueState) where
  not-at : (k n : ℕ) → n ≤ suc k → (AreApartAfter (suc k) bytes s r → ⊥) → (n ≤ k → ⊥) → AreApartAfter n bytes s r → ⊥
  not-at k n le never none h = elim (below-or n k le) [ inl b ↦ none b | inr e ↦ never (subst (λ (m : ℕ). AreApartAfter m bytes s r) e h) ]

  more-last : (k : ℕ) → (AreApartAfter (suc k) bytes s r → ⊥) → FoundIn k bytes s r → FoundIn (suc k) bytes s r
  more-last k never (inl l) =
      let i = l.2 in
      let inside = i.within in
      inl (
        l.0,
        l.1,
        record {
          after = i.after;
          within = omega (arith, inside);
          apart = i.apart;
          stands = i.stands;
          other_stands = i.other_stands;
          last = λ n more within h. not-at k n within never (λ b. i.last n more b h) h;
        },
      )
  more-last k never (inr none) = inr (λ n within h. not-at k n within never (λ b. none n b h) h)

  pub last-in : (upto : ℕ) → FoundIn upto bytes s r
  last-in zero = elim (apart-or-not (drop zero bytes) (states (take zero bytes) s) (states (take zero bytes) r)) [
    | inl a ↦ here-last zero bytes s r a
    | inr never ↦ inr (λ n within h. (let none : n ≡ zero = omega (arith, within) in never (subst (λ (m : ℕ). AreApartAfter m bytes s r) none h)))
  ]
  last-in (suc k) = elim (apart-or-not (drop (suc k) bytes) (states (take (suc k) bytes) s) (states (take (suc k) bytes) r)) [
    | inl a ↦ here-last (suc k) bytes s r a
    | inr never ↦ more-last k never (last-in k)
  ]

  -- where two paths are shown that are refused together
  pub shown-in : (at : ℕ) (p q : Place) → placed s ≡ Some p → placed r ≡ Some q → (x : Place) × (y : Place) × AreShownIn at bytes s r x y
  shown-in at p q own other_own = elim (last-in at) [
    | inl l ↦ (l.0, l.1, inl l.2)
    | inr none ↦ (let x = shown-exists at bytes s p own in let y = shown-exists at bytes r q other_own in (x.0, y.0, inr (none, x.1, y.1)))
  ]

-- the last point along moves
abbrev FoundAlong : List Move → ℕ → List ℕ → LexState ValueState → LexState ValueState → Type 0
FoundAlong common upto bytes s r = ((p : Place) × (q : Place) × IsLastAlong common upto bytes s r p q) ⊎ NotApartAlong common upto bytes s r

edge-last : (e : Edge) (s r : LexState ValueState) → ((p : Place) × (q : Place) × IsLastInEdge e s r p q) ⊎ EdgeNotApart e s r
edge-last (writes n bytes to) s r = last-in bytes s r (length bytes)
edge-last (fills n pipe to) s r = inr tt
edge-last (calls n name to) s r = inr tt
edge-last (picks from choice to) s r = inr tt
edge-last (passes from to) s r = inr tt

last-along : (common : List Move) (upto : ℕ) (bytes : List ℕ) (s r : LexState ValueState) → FoundAlong common upto bytes s r
last-along [] upto bytes s r = last-in bytes s r upto
last-along (along e ∷ common) upto bytes s r = elim (last-along common upto bytes (edge_read html_language e s) (edge_read html_language e r)) [
  | inl l ↦ inl (l.0, l.1, inr l.2)
  | inr none ↦ elim (edge-last e s r) [ inl l ↦ inl (l.0, l.1, inl (l.2, none)) | inr never ↦ inr (never, none) ]
]
last-along (back ∷ common) upto bytes s r = last-along common upto bytes s r

-- where two paths met apart there is one
apart-start : (bytes : List ℕ) (s r : LexState ValueState) → Apart s r → AreApartAfter zero bytes s r
apart-start bytes s r a = record {
  own = a.own;
  other_own = a.other_own;
  between = not-between s a.own bytes a.stands;
  other_between = not-between r a.other_own bytes a.other_stands;
  stands = before-own s a.own bytes a.stands;
  other_stands = before-own r a.other_own bytes a.other_stands;
  apart = a.apart;
}

apart-not : (common : List Move) (upto : ℕ) (bytes : List ℕ) (s r : LexState ValueState) → Apart s r → KeepsAlong common s → KeepsAlong common r → NotApartAlong common upto bytes s r → ⊥
apart-not [] upto bytes s r a k l none = none zero (omega arith) (apart-start bytes s r a)
apart-not (along (writes n text to) ∷ common) upto bytes s r a k l none = none.0 zero (omega arith) (apart-start text s r a)
apart-not (along (fills n pipe to) ∷ common) upto bytes s r a k l none = k.0
apart-not (along (calls n name to) ∷ common) upto bytes s r a k l none = apart-not common upto bytes s r a k.1 l.1 none.1
apart-not (along (picks from choice to) ∷ common) upto bytes s r a k l none = apart-not common upto bytes s r a k.1 l.1 none.1
apart-not (along (passes from to) ∷ common) upto bytes s r a k l none = apart-not common upto bytes s r a k.1 l.1 none.1
apart-not (back ∷ common) upto bytes s r a k l none = apart-not common upto bytes s r a k l none

within-not : (bytes : List ℕ) (s r : LexState ValueState) → PartWithin bytes s r → AreNotApart (length bytes) bytes s r → ⊥
within-not [] s r h none = h
within-not (b ∷ bs) s r (inl h) none = none (suc zero) (omega arith) h.0
within-not (b ∷ bs) s r (inr h) none =
    within-not bs (next languages Template s (class_of b) b) (next languages Template r (class_of b) b) h (λ n within k. none (suc n) (omega (arith, within)) k)

edge-not : (e : Edge) (s r : LexState ValueState) → EdgeParts e s r → EdgeNotApart e s r → ⊥
edge-not (writes n bytes to) s r h none = within-not bytes s r h none
edge-not (fills n pipe to) s r h none = h
edge-not (calls n name to) s r h none = h
edge-not (picks from choice to) s r h none = h
edge-not (passes from to) s r h none = h

parts-not : (common : List Move) (upto : ℕ) (bytes : List ℕ) (s r : LexState ValueState) → PartAlong common s r → NotApartAlong common upto bytes s r → ⊥
parts-not [] upto bytes s r h none = h
parts-not (along e ∷ common) upto bytes s r h none = edge-not e s r h.0 none.0
parts-not (back ∷ common) upto bytes s r h none = h

met-not : (common : List Move) (upto : ℕ) (bytes : List ℕ) (s r : LexState ValueState) → MeetApart common s r → NotApartAlong common upto bytes s r → ⊥
met-not common upto bytes s r (inl h) none = apart-not common upto bytes s r h.0 h.1 h.2 none
met-not common upto bytes s r (inr h) none = parts-not common upto bytes s r h none

pub met-last : (common : List Move) (upto : ℕ) (bytes : List ℕ) (s r : LexState ValueState) → MeetApart common s r → (p : Place) × (q : Place) × IsLastAlong common upto bytes s r p q
met-last common upto bytes s r met = elim (last-along common upto bytes s r) [ inl l ↦ l | inr none ↦ absurd (met-not common upto bytes s r met none) ]
