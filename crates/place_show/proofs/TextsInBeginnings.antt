-- What texts do with paths that are in the beginning of a URL, by the places of which it is not known what the beginning spells.
use Rattle.std.proofs.Common.{◌≡◌, ◌<◌, ℕ, List, Option, Some, None, Result, Ok, Err, refl, sym, ap, ◌∙◌, subst, arith, ◌⊎◌, inl, inr}
use Rattle.html_step.proofs.MetApart.{met-apart}
use Rattle.html_step.proofs.OneTexts.{one-before, one-text}
use Rattle.html_step.proofs.TextEvidences.{evidence-text}
use Rattle.html_step.specs.Laws.{EvidenceData, IsEvidence, apart, one, two}
use Rattle.html_step.specs.Steps.{after_text, place_before}
use Rattle.place_core.proofs.JoinMembers.{the_join_has}
use Rattle.place_core.proofs.JoinValid.{the_join_valid}
use Rattle.place_core.proofs.Joins.{the_join_above}
use Rattle.place_core.proofs.Semilattices.{one_value}
use Rattle.place_core.specs.page.States.{LexState}
use Rattle.place_core.specs.page.Tags.{ValueState}
use Rattle.place_core.specs.place.ApartPlaces.{HasApart, side}
use Rattle.place_core.specs.place.Errors.{PathRefusal, PathRefuses, node, path_refusal, shown_place}
use Rattle.place_core.specs.place.Membership.{Bears, IsIn}
use Rattle.place_core.specs.place.PathPairs.{ClashesApart, Keeps, MeetsColon, PartWithin}
use Rattle.place_core.specs.place.Places.{Has, joined}
use Rattle.place_core.specs.place.StatePlaces.{placed}
use Rattle.place_core.specs.declared.member.Member.{Member}
use Rattle.place_core.specs.declared.place.Place.{Place}
use Rattle.place_core.specs.declared.step_err.StepErr.{StepErr}
use Rattle.place_show.proofs.OwnApart.{not-twice, own-parts}
use Rattle.html_step.specs.ApartInText.{TakesByte}
use Rattle.place_show.specs.Unknown.{IsOwn, IsUnknown, LeadsApart}

none-refused : (r : PathRefusal) (o : Option PathRefusal) → o ≡ None → o ≡ Some r → ⊥
none-refused r o e f = let same : None ≡ Some r = sym e ∙ f in cc

other-byte : (at n : ℕ) (x y : PathRefusal) (o : Option PathRefusal) → o ≡ Some x → o ≡ Some y → y.at ≡ at → x.at ≡ n → at < n → ⊥
other-byte at n x y o e f i j lt = (let same = ap (λ (r : PathRefusal). r.at) (one_value x y (sym e ∙ f)) in omega (arith, same, i, j, lt))

-- one path, from a place that takes a byte of the text
module _ (bytes : List ℕ) (p : Place) (s : LexState ValueState) (own : placed s ≡ Some p) (at : ℕ) where
  -- is not refused there alone
  pub not-alone : (o : Result Place (StepErr Place)) → after_text bytes p ≡ o → TakesByte at o → (e : StepErr Place) → e.at ≡ at → PathRefuses bytes s e → ⊥
  not-alone (Ok q) h takes e i r = none-refused (record { code = e.code; at = e.at; shown = r.shown }) (path_refusal bytes s) ((one-text bytes p s own).0 q h).0 r.stands
  not-alone (Err x) h takes e i r =
      let d = (one-text bytes p s own).1 x h in
      other-byte at x.at (record { code = x.code; at = x.at; shown = d.shown }) (record { code = e.code; at = e.at; shown = r.shown }) (path_refusal bytes s) d.stands r.stands i refl takes

  -- and is there at its place before it
  pub own-before : (o : Result Place (StepErr Place)) → after_text bytes p ≡ o → TakesByte at o → shown_place at bytes s ≡ Some (place_before bytes at p)
  own-before (Ok q) h takes = (one-before bytes p s at own).0 q h
  own-before (Err x) h takes = (one-before bytes p s at own).1 x h (omega (arith, takes))

pub stands-below : (p : Place) (s : LexState ValueState) → IsOwn p s → (c : Place) → joined p c ≡ Some c → IsIn c s
stands-below p s own c b = record { own = p; stands = own.0; valid = own.1; below = b }

pub bears : (p : Place) (s : LexState ValueState) → placed s ≡ Some p → (x : Member) → Has p x → Bears s x
bears p s own x h = record { own = p; stands = own; has = h }

-- a path, by the place of which it is not known what the beginning spells
module _ (bytes : List ℕ) (p u : Place) (unknown : IsUnknown p u) (s : LexState ValueState) (own : IsOwn p s) where
  here : IsIn u s
  here = stands-below p s own u unknown.below

  has-own : (x : Member) → Has u x → Bears s x
  has-own x h = bears p s own.0 x (unknown.has x h)

  in-side : Bears s side
  in-side = has-own side (met-apart.has u unknown.apart)

  pub keeps-side : LeadsApart bytes u → Keeps bytes s
  keeps-side l = kept (met-apart.from bytes u l.after (unknown.valid own.1) l.leads l.apart)
    where
      kept : (HasApart u × ((t : LexState ValueState) → IsIn u t → Bears t side → Keeps bytes t × Bears (node bytes t) side))
          ⊎ ((x : Member) × (z : Member) × Has u x × Has u z × ((t r : LexState ValueState) → IsIn u t → Bears t x → IsIn u r → Bears r z
          → PartWithin bytes t r × Bears (node bytes t) side × Bears (node bytes r) side)) → Keeps bytes s
      kept (inl h) = (h.1 s here in-side).0
      kept (inr h) = absurd (own-parts bytes s (h.4 s s here (has-own h.0 h.2) here (has-own h.1 h.3)).0)

  colon-of : (e : StepErr Place) → TakesByte e.at (after_text bytes p) → (h : EvidenceData) → IsEvidence bytes u e h → ClashesApart bytes s s e.code e.at
  colon-of e takes (one x) h =
      let d = h.1 s here (has-own x h.0) in
      absurd (not-alone bytes p s own.0 e.at (after_text bytes p) refl takes (record { code = e.code; at = e.at; before = d.0 }) refl d.1)
  colon-of e takes (two x y) h = absurd (not-twice bytes s e.code e.at (h.2 s s here (has-own x h.0) here (has-own y h.1)))
  colon-of e takes apart h = h.1 s s here in-side here in-side

  pub own-colon : (e : StepErr Place) → after_text bytes u ≡ Err e → TakesByte e.at (after_text bytes p) → ClashesApart bytes s s e.code e.at
  own-colon e refused takes = (let h = evidence-text bytes u e (unknown.valid own.1) refused in colon-of e takes h.0 h.1)

-- two paths that are refused at one byte so are refused there together
pub both-refused : (bytes : List ℕ) (s r : LexState ValueState) (c d : StepErr Place) → c.at ≡ d.at → ClashesApart bytes s s c.code c.at → ClashesApart bytes r r d.code d.at → ClashesApart bytes s r c.code c.at
both-refused bytes s r c d same x y = record { is = x.is; one = x.one; other = subst (λ (n : ℕ). MeetsColon bytes r n) (sym same) y.one }

-- two paths, by the place that stands for both
module _ (bytes : List ℕ) (p q both : Place) (joins : joined p q ≡ Some both) (s r : LexState ValueState) (own : IsOwn p s) (other_own : IsOwn q r) where
  s-in : IsIn both s
  s-in = stands-below p s own both (the_join_above p q both joins).0

  r-in : IsIn both r
  r-in = stands-below q r other_own both (the_join_above p q both joins).1

  abbrev Parting : Member → Member → Type 0
  Parting x z = (t v : LexState ValueState) → IsIn both t → Bears t x → IsIn both v → Bears v z
      → PartWithin bytes t v × Bears (node bytes t) side × Bears (node bytes v) side

  of-members : (x z : Member) → Parting x z → Has p x ⊎ Has q x → Has p z ⊎ Has q z → PartWithin bytes s r
  of-members x z f (inl h) (inl k) = absurd (own-parts bytes s (f s s s-in (bears p s own.0 x h) s-in (bears p s own.0 z k)).0)
  of-members x z f (inl h) (inr k) = (f s r s-in (bears p s own.0 x h) r-in (bears q r other_own.0 z k)).0
  of-members x z f (inr h) (inl k) = met-apart.turns_within bytes r s (f r s r-in (bears q r other_own.0 x h) s-in (bears p s own.0 z k)).0
  of-members x z f (inr h) (inr k) = absurd (own-parts bytes r (f r r r-in (bears q r other_own.0 x h) r-in (bears q r other_own.0 z k)).0)

  pub part-of : (HasApart both → ⊥) → LeadsApart bytes both → PartWithin bytes s r
  part-of none l = parted (met-apart.from bytes both l.after (the_join_valid p q both own.1 other_own.1 joins) l.leads l.apart)
    where
      parted : (HasApart both × ((t : LexState ValueState) → IsIn both t → Bears t side → Keeps bytes t × Bears (node bytes t) side))
          ⊎ ((x : Member) × (z : Member) × Has both x × Has both z × Parting x z) → PartWithin bytes s r
      parted (inl h) = absurd (none h.0)
      parted (inr h) = of-members h.0 h.1 h.4 ((the_join_has p q both h.0 joins).0 h.2) ((the_join_has p q both h.1 joins).0 h.3)
