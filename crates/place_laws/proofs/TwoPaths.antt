-- Two paths that take the same moves are one path of a language of pairs. Where they met apart, each place of a chart along them has that
-- two of its paths did, and both bear what shows it.
use Rattle.std.proofs.Common.{◌≡◌, ℕ, List, [], ◌∷◌, Option, Some, None, Result, Ok, Err, refl, ap, subst, ◌⊎◌, inl, inr}
use Rattle.html_step.proofs.HoleOrder.{covers-hole, valid-hole}
use Rattle.html_step.proofs.MetApart.{met-apart}
use Rattle.html_step.proofs.WholeTexts.{covers-text, valid-text}
use Rattle.place_core.specs.place.PathPairs.{Apart, Keeps, PartWithin}
use Rattle.html_step.specs.Holes.{Holed, after_hole}
use Rattle.html_step.specs.Steps.{after_text}
use Rattle.place_core.proofs.Joins.{the_order}
use Rattle.place_core.specs.page.Paths.{at_hole}
use Rattle.place_core.specs.page.States.{LexState}
use Rattle.place_core.specs.page.Tags.{ValueState, languages}
use Rattle.place_core.specs.place.Errors.{node}
use Rattle.place_core.specs.place.Membership.{Bears, IsIn}
use Rattle.place_core.specs.place.ApartPlaces.{HasApart, side}
use Rattle.place_core.specs.place.Places.{Below, IsValid}
use Rattle.place_core.specs.declared.chain.Chain.{Chain}
use Rattle.place_core.specs.declared.place.Place.{Place}
use Rattle.place_core.specs.declared.step_err.StepErr.{StepErr}
use Rattle.place_flow.proofs.Covers.{walk_covers}
use Rattle.place_flow.specs.Covering.{ChartByName, Covers, Holds, IsClosedByName, IsCovered, Language, LeadsOn, Pair, read_moves}
use Rattle.place_flow.specs.Errors.{KeepsAlong, MeetApart, PartAlong}
use Rattle.place_flow.specs.HtmlCovering.{behind_hole, behind_text, html_language}
use Rattle.tpl_paths.specs.Edges.{calls, fills, passes, picks, start_in, writes}
use Rattle.tpl_paths.specs.Paths.{IsPath, Move, Standing, along, back, reached}
use Rattle.tpl_tree.specs.Forests.{ForestData}
use Rattle.tpl_tree.specs.declared.pipe.Pipe.{Pipe}

-- what two paths read, with where they were before it
pub data Read : Type 0 where
  text_read : List ℕ → LexState ValueState → LexState ValueState → Read
  hole_read : Read

-- where two paths are, and what they have read since they met, the last first
pub record Both : Type 0 where
  pub one : LexState ValueState
  pub other : LexState ValueState
  pub log : List Read

abbrev pub from_here : LexState ValueState → LexState ValueState → Both
from_here s r = record { one = s; other = r; log = [] }

abbrev after_both : List ℕ → Both → Both
after_both bytes x = record { one = node bytes x.one; other = node bytes x.other; log = text_read bytes x.one x.other ∷ x.log }

-- they were apart where they met, or came apart within a text, and have stayed in the beginning of a URL
abbrev MetBefore : List Read → LexState ValueState → LexState ValueState → Type 0
MetBefore [] s r = Apart s r
MetBefore (text_read bytes a b ∷ log) s r = (Keeps bytes a × Keeps bytes b × MetBefore log a b) ⊎ PartWithin bytes a b
MetBefore (hole_read ∷ log) s r = ⊥

-- a place has it of two of its paths, which bear what shows it
pub record IsShownApart (p : Place) (s r : LexState ValueState) : Type 0 where
  pub there : HasApart p
  pub one : Bears s side
  pub other : Bears r side

abbrev pub both_language : Language Both Place
both_language = record {
  text = λ bytes x. after_both bytes x;
  hole = λ pipe x. record { one = at_hole languages x.one; other = at_hole languages x.other; log = hole_read ∷ x.log };
  text_place = λ bytes p. behind_text (after_text bytes p);
  hole_place = λ pipe p. behind_hole (after_hole p);
  IsIn = λ p x. IsValid p × IsIn p x.one × IsIn p x.other × (MetBefore x.log x.one x.other → IsShownApart p x.one x.other);
  Below = λ p q. IsValid q × Below p q;
}

none : {A : Type 0} {x : A} → None ≡ Some x → ⊥
none e = cc

some-one : {A : Type 0} (x y : A) → Some x ≡ Some y → x ≡ y
some-one x y e = cc

accepted-text : (r : Result Place (StepErr Place)) (q : Place) → behind_text r ≡ Some q → r ≡ Ok q
accepted-text (Ok p) q e = ap Ok (some-one p q e)
accepted-text (Err x) q e = absurd (none e)

accepted-hole : (r : Holed) (q : Place) → behind_hole r ≡ Some q → (c : Chain) × (r ≡ Ok (q, c))
accepted-hole (Ok h) q e = (h.1, ap (λ (p : Place). Ok (p, h.1)) (some-one h.0 q e))
accepted-hole (Err x) q e = absurd (none e)

-- after a text that is accepted
shown-after : (bytes : List ℕ) (p q : Place) (x : Both) → after_text bytes p ≡ Ok q → both_language.IsIn p x
    → (Keeps bytes x.one × Keeps bytes x.other × MetBefore x.log x.one x.other) ⊎ PartWithin bytes x.one x.other → IsShownApart q (node bytes x.one) (node bytes x.other)
shown-after bytes p q x e i (inl k) =
    let m = i.3 k.2 in
    record {
      there = met-apart.stays bytes p q x.one m.there i.1 m.one e k.0;
      one = met-apart.keeps bytes x.one m.one k.0;
      other = met-apart.keeps bytes x.other m.other k.1;
    }
shown-after bytes p q x e i (inr w) =
    let both = met-apart.sides_within bytes x.one x.other w in
    record { there = met-apart.parted bytes p q x.one x.other i.0 i.1 i.2 e w; one = both.0; other = both.1 }

texts : (bytes : List ℕ) (p q : Place) (x : Both) → behind_text (after_text bytes p) ≡ Some q → both_language.IsIn p x → both_language.IsIn q (after_both bytes x)
texts bytes p q x e i =
    let r = accepted-text (after_text bytes p) q e in
    (valid-text bytes p q i.0 r, covers-text bytes p q x.one i.0 i.1 r, covers-text bytes p q x.other i.0 i.2 r, λ m. shown-after bytes p q x r i m)

holes : (pipe : Pipe) (p q : Place) (x : Both) → behind_hole (after_hole p) ≡ Some q → both_language.IsIn p x → both_language.IsIn q (both_language.hole pipe x)
holes pipe p q x e i =
    let r = accepted-hole (after_hole p) q e in
    (valid-hole p q r.0 i.0 r.1, (covers-hole p q r.0 x.one i.0 i.1 r.1).0, (covers-hole p q r.0 x.other i.0 i.2 r.1).0, λ m. absurd m)

in-above : (p q : Place) (s : LexState ValueState) → Below p q → IsIn p s → IsIn q s
in-above p q s b i = record { own = i.own; stands = i.stands; valid = i.valid; below = the_order.1 i.own p q i.below b }

above : (p q : Place) (x : Both) → IsValid q × Below p q → both_language.IsIn p x → both_language.IsIn q x
above p q x h i = (
  h.0,
  in-above p q x.one h.1 i.1,
  in-above p q x.other h.1 i.2,
  λ m. (let k = i.3 m in record { there = met-apart.above p q h.1 k.there; one = k.one; other = k.other }),
)

both-covers : Covers both_language
both-covers = record { texts = texts; holes = holes; above = above }

-- a chart that is closed for one path is closed for two
both-hold : (o : Option Place) (p : Place) → Holds html_language o p → Holds both_language o p
both-hold None p h = h
both-hold (Some q) p h = h

both-lead : (o there : Option Place) → LeadsOn html_language o there → LeadsOn both_language o there
both-lead None there h = h
both-lead (Some q) there h = both-hold there q h

both-closed : (forest : ForestData) (chart : ChartByName Place) → IsClosedByName html_language forest chart → IsClosedByName both_language forest chart
both-closed forest chart h t p (writes n bytes to) a w at = both-lead (behind_text (after_text bytes a)) (chart t p to) (h t p (writes n bytes to) a w at)
both-closed forest chart h t p (fills n pipe to) a w at = both-lead (behind_hole (after_hole a)) (chart t p to) (h t p (fills n pipe to) a w at)
both-closed forest chart h t p (calls n name to) a w at =
    let l = h t p (calls n name to) a w at in
    (both-hold (chart name a (start_in forest name)) a l.0, λ b e. both-hold (chart t p to) b (l.1 b e))
both-closed forest chart h t p (picks from choice to) a w at = both-hold (chart t p to) a (h t p (picks from choice to) a w at)
both-closed forest chart h t p (passes from to) a w at = both-hold (chart t p to) a (h t p (passes from to) a w at)

-- where the two come, each of them comes
pub one-reads : (ms : List Move) (x : Both) → (read_moves both_language ms x).one ≡ read_moves html_language ms x.one
one-reads [] x = refl
one-reads (along (writes n bytes to) ∷ ms) x = one-reads ms (after_both bytes x)
one-reads (along (fills n pipe to) ∷ ms) x = one-reads ms (both_language.hole pipe x)
one-reads (along (calls n name to) ∷ ms) x = one-reads ms x
one-reads (along (picks from choice to) ∷ ms) x = one-reads ms x
one-reads (along (passes from to) ∷ ms) x = one-reads ms x
one-reads (back ∷ ms) x = one-reads ms x

pub other-reads : (ms : List Move) (x : Both) → (read_moves both_language ms x).other ≡ read_moves html_language ms x.other
other-reads [] x = refl
other-reads (along (writes n bytes to) ∷ ms) x = other-reads ms (after_both bytes x)
other-reads (along (fills n pipe to) ∷ ms) x = other-reads ms (both_language.hole pipe x)
other-reads (along (calls n name to) ∷ ms) x = other-reads ms x
other-reads (along (picks from choice to) ∷ ms) x = other-reads ms x
other-reads (along (passes from to) ∷ ms) x = other-reads ms x
other-reads (back ∷ ms) x = other-reads ms x

-- two that met apart still have, after moves along which both stay in the beginning of the URL
abbrev HaveMet : Both → Type 0
HaveMet x = MetBefore x.log x.one x.other

still-met : (ms : List Move) (x : Both) → HaveMet x → KeepsAlong ms x.one → KeepsAlong ms x.other → HaveMet (read_moves both_language ms x)
still-met [] x h k l = h
still-met (along (writes n bytes to) ∷ ms) x h k l = still-met ms (after_both bytes x) (inl (k.0, l.0, h)) k.1 l.1
still-met (along (fills n pipe to) ∷ ms) x h k l = absurd k.0
still-met (along (calls n name to) ∷ ms) x h k l = still-met ms x h k.1 l.1
still-met (along (picks from choice to) ∷ ms) x h k l = still-met ms x h k.1 l.1
still-met (along (passes from to) ∷ ms) x h k l = still-met ms x h k.1 l.1
still-met (back ∷ ms) x h k l = still-met ms x h k l

parted-met : (ms : List Move) (s r : LexState ValueState) → PartAlong ms s r → HaveMet (read_moves both_language ms (from_here s r))
parted-met [] s r h = absurd h
parted-met (along (writes n bytes to) ∷ ms) s r h = still-met ms (after_both bytes (from_here s r)) (inr h.0) h.1 h.2
parted-met (along (fills n pipe to) ∷ ms) s r h = absurd h.0
parted-met (along (calls n name to) ∷ ms) s r h = absurd h.0
parted-met (along (picks from choice to) ∷ ms) s r h = absurd h.0
parted-met (along (passes from to) ∷ ms) s r h = absurd h.0
parted-met (back ∷ ms) s r h = absurd h

along-met : (ms : List Move) (s r : LexState ValueState) → MeetApart ms s r → HaveMet (read_moves both_language ms (from_here s r))
along-met ms s r (inl h) = still-met ms (from_here s r) h.0 h.1 h.2
along-met ms s r (inr h) = parted-met ms s r h

-- From a place of the chart that stands for both, they come to one that stands for both; and if they met apart, it shows that they did.
pub record ShownAlong (forest : ForestData) (chart : ChartByName Place) (entry : Place) (a : Standing) (s r : LexState ValueState) (p : Place) : Type 0 where
  pub there : chart a.template entry a.at ≡ Some p
  pub valid : IsValid p
  pub one_in : IsIn p s
  pub other_in : IsIn p r
  pub shown : IsShownApart p s r

pub both-here : (forest : ForestData) (chart : ChartByName Place) (first : Place) (a : Standing) (ps : List (Pair Place)) (s r : LexState ValueState)
    → (c : IsCovered html_language forest chart first a ps s) → IsIn c.place r → IsCovered both_language forest chart first a ps (from_here s r)
both-here forest chart first a ps s r c j = record {
  entry = c.entry;
  below = c.below;
  stack = c.stack;
  opened = c.opened;
  place = c.place;
  there = c.there;
  is_in = (c.is_in.0, c.is_in.1, j, λ h. (let both = met-apart.sides s r h in record { there = met-apart.met c.place s r c.is_in.1 j h; one = both.0; other = both.1 }));
}

pub shown-along : (forest : ForestData) (chart : ChartByName Place) (first : Place) → IsClosedByName html_language forest chart → (ms : List Move) (a : Standing) (ps : List (Pair Place)) (s r : LexState ValueState)
    → IsPath forest a ms → (c : IsCovered html_language forest chart first a ps s) → IsIn c.place r → MeetApart ms s r
    → (entry : Place) × (p : Place) × ShownAlong forest chart entry (reached forest a ms) (read_moves html_language ms s) (read_moves html_language ms r) p
shown-along forest chart first closed ms a ps s r path c j met =
    let d = walk_covers both_language forest chart first both-covers (both-closed forest chart closed) ms a ps (from_here s r) path (both-here forest chart first a ps s r c j) in
    let b = reached forest a ms in
    let x = read_moves both_language ms (from_here s r) in
    let come : ShownAlong forest chart d.entry b x.one x.other d.place = record {
      there = d.there;
      valid = d.is_in.0;
      one_in = d.is_in.1;
      other_in = d.is_in.2;
      shown = d.is_in.3 (along-met ms s r met);
    } in (
      d.entry,
      d.place,
      subst (λ (u : LexState ValueState). ShownAlong forest chart d.entry b (read_moves html_language ms s) u d.place) (other-reads ms (from_here s r))
          (subst (λ (u : LexState ValueState). ShownAlong forest chart d.entry b u x.other d.place) (one-reads ms (from_here s r)) come),
    )
