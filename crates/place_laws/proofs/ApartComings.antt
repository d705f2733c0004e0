-- Where a point of a pair was given a place of which two paths met apart, these two come from the place in which the pair is entered: they
-- met apart before it, or they come from two members of it.
use Rattle.std.proofs.Common.{◌≡◌, ℕ, zero, suc, ◌<◌, Bool, true, false, List, ◌∷◌, Some, Result, Ok, Err, take, refl, sym, ap, ◌∙◌, subst, if◌then◌else◌, ◌⊎◌, inl, inr, arith}
use Rattle.std.specs.Prelude.{slice_get}
use Rattle.html_step.proofs.MetApart.{met-apart}
use Rattle.html_step.specs.Holes.{Holed, after_hole}
use Rattle.html_step.specs.Steps.{after_text}
use Rattle.place_core.specs.page.States.{LexState}
use Rattle.place_core.specs.page.Tags.{ValueState}
use Rattle.place_core.specs.place.ApartPlaces.{HasApart, side}
use Rattle.place_core.specs.place.Membership.{Bears, IsIn}
use Rattle.place_core.specs.place.Places.{Below, Has, IsValid}
use Rattle.place_core.specs.declared.chain.Chain.{Chain}
use Rattle.place_core.specs.declared.member.Member.{Member}
use Rattle.place_core.specs.declared.member.Member.TheVariants as member
use Rattle.place_core.specs.declared.place.Place.{Place}
use Rattle.place_core.specs.declared.step_err.StepErr.{StepErr}
use Rattle.place_flow.proofs.ClearSteps.{IsTaken, step-clear}
use Rattle.place_flow.proofs.NamedParts.{edge_within, named, numbered, same_start}
use Rattle.place_flow.proofs.StepEdges.{IsCall, is-call, no-reaches, stays-within}
use Rattle.place_flow.proofs.StepLaws.{step-covers}
use Rattle.place_flow.specs.Covering.{edge_read}
use Rattle.place_flow.specs.Errors.{EdgeKeeps, EdgeParts, Errs}
use Rattle.place_flow.specs.Flows.{start_at}
use Rattle.place_flow.specs.HtmlCovering.{behind_hole, behind_text, html_language}
use Rattle.place_flow.specs.Laws.{IsStepOrigin, StepCovers}
use Rattle.place_flow.specs.Transfer.{may_use, reaches_or_refused, step_of, use_at}
use Rattle.place_flow.specs.declared.step.EdgeStep.{EdgeStep}
use Rattle.place_flow.specs.declared.step.EdgeStep.TheVariants.{Reaches, Enters, Refused}
use Rattle.place_derive.specs.Derivations.{AllGiven, ApartGiven, HasDerivationsApart, IsDerivedBy, IsDerivedEntry, IsDerivation, IsMadeDerivation}
use Rattle.place_derive.specs.declared.derivation.Derivation.{Derivation}
use Rattle.place_derive.specs.declared.derivation.DerivedFrom.{DerivedFrom}
use Rattle.place_derive.specs.declared.derivation.DerivedFrom.TheVariants.{Root, Called, Along}
use Rattle.place_laws.proofs.Comings.{AllCome, Comes, all-come, in-above, itself, of_part, take_get}
use Rattle.place_laws.proofs.CommonMoves.{KeepTogether, MeetTogether, keep-along, keep-back, keep-on, keep-still, meet-behind, meet-here, meet-on, meet-within}
use Rattle.tpl_paths.specs.Edges.{Edge, Point, Within, before, calls, edges_in, fills, finish_point, from_of, passes, picks, start_in, to_of, writes}
use Rattle.tpl_paths.specs.Paths.{Open, Standing, along_edge, open_standing}
use Rattle.tpl_tree.specs.Forests.{ForestData, HasAscendingNames, tree_name_at, number_named}

-- a place stands for two paths that are in the beginning of a URL
pub record BearSides (p : Place) (s r : LexState ValueState) : Type 0 where
  pub is_in : IsIn p s
  pub bears : Bears s side
  pub other_in : IsIn p r
  pub other_bears : Bears r side

-- Two paths take the same moves from one point of a template to another, whatever calls are open, and stay in the beginning.
pub record LedTogether (forest : ForestData) (name : List ℕ) (k : Point) (s r : LexState ValueState) (j : Point) (p : Place) : Type 0 where
  pub state : LexState ValueState
  pub other : LexState ValueState
  pub goes : (os : List Open) → KeepTogether forest (open_standing os name k) s r (open_standing os name j) state other
  pub bear : BearSides p state other

-- likewise, after they met apart
pub record LedApart (forest : ForestData) (name : List ℕ) (k : Point) (s r : LexState ValueState) (j : Point) (p : Place) : Type 0 where
  pub state : LexState ValueState
  pub other : LexState ValueState
  pub goes : (os : List Open) → MeetTogether forest (open_standing os name k) s r (open_standing os name j) state other
  pub bear : BearSides p state other

-- two paths met apart before the template was entered
pub record ComesThrough (forest : ForestData) (name : List ℕ) (e : Place) (k : Point) (p : Place) : Type 0 where
  pub before : HasApart e
  pub leads : (s r : LexState ValueState) → BearSides e s r → LedTogether forest name (start_in forest name) s r k p

-- two that bear two members of the place of entry meet apart after it
pub record ComesOfTwo (forest : ForestData) (name : List ℕ) (e : Place) (k : Point) (p : Place) : Type 0 where
  pub one : Member
  pub other : Member
  pub has : Has e one
  pub also : Has e other
  pub leads : (s r : LexState ValueState) → IsIn e s → Bears s one → IsIn e r → Bears r other → LedApart forest name (start_in forest name) s r k p

abbrev pub ComesApart : ForestData → List ℕ → Place → Point → Place → Type 0
ComesApart forest name e k p = ComesThrough forest name e k p ⊎ ComesOfTwo forest name e k p

abbrev pub AllComeApart : ForestData → List Derivation → Type 0
AllComeApart forest log = (t : ℕ) (name : List ℕ) (e : Place) (k : Point) (p : Place) → tree_name_at forest t ≡ Some name → ApartGiven log t e k p → ComesApart forest name e k p

-- what the beginning of a log tells, the log does
pub of_part_apart : (log : List Derivation) (i t : ℕ) (e : Place) (k : Point) (p : Place) → ApartGiven (take i log) t e k p → ApartGiven log t e k p
unfolding of_part
of_part_apart log i t e k p (inl h) = inl (record { number = h.number; derivation = h.derivation; is = (take_get log i h.number h.derivation h.is).1; template = h.template; entry = h.entry; point = h.point; apart = h.apart; below = h.below })
of_part_apart log i t e k p (inr h) = inr (record { one = of_part log i t e k p side h.one; other = of_part log i t e k p side h.other; apart = h.apart })

-- Where an edge lands in a place of which two paths met apart, they did so before it, or within its text.
record FromBefore (e : Edge) (p : Place) : Type 0 where
  pub before : HasApart p
  pub keeps : (s : LexState ValueState) → IsIn p s → Bears s side → EdgeKeeps e s × Bears (edge_read html_language e s) side

record FromWithin (e : Edge) (p : Place) : Type 0 where
  pub one : Member
  pub other : Member
  pub has : Has p one
  pub also : Has p other
  pub parts : (s r : LexState ValueState) → IsIn p s → Bears s one → IsIn p r → Bears r other
      → EdgeParts e s r × Bears (edge_read html_language e s) side × Bears (edge_read html_language e r) side

lands : (p q : Place) → Reaches p ≡ Reaches q → p ≡ q
lands p q e = cc

text-lands : (b : Bool) (o : Result Place (StepErr Place)) (q : Place) → (if b then reaches_or_refused (behind_text o) else Refused) ≡ Reaches q → o ≡ Ok q
text-lands true (Ok p) q h = ap Ok (lands p q h)
text-lands true (Err e) q h = cc
text-lands false o q h = cc

hole-lands : (b : Bool) (o : Holed) (q : Place) → (if b then reaches_or_refused (behind_hole o) else Refused) ≡ Reaches q → (c : Chain) × (o ≡ Ok (q, c))
hole-lands true (Ok h) q e = (h.1, ap (λ (p : Place). Ok (p, h.1)) (lands h.0 q e))
hole-lands true (Err c) q e = cc
hole-lands false o q e = cc

still-lands : (b : Bool) (p q : Place) → (if b then Reaches p else Refused) ≡ Reaches q → p ≡ q
still-lands true p q h = lands p q h
still-lands false p q h = cc

text-from : (n : ℕ) (bytes : List ℕ) (to : Point) (p q : Place) → IsValid p → after_text bytes p ≡ Ok q → HasApart q → FromBefore (writes n bytes to) p ⊎ FromWithin (writes n bytes to) p
text-from n bytes to p q v is h = elim (met-apart.from bytes p q v is h) [
  | inl f ↦ inl (record { before = f.0; keeps = f.1 })
  | inr f ↦ inr (record { one = f.0; other = f.1; has = f.2; also = f.3; parts = f.4 })
]

edge-from : (forest : ForestData) (t : ℕ) (e : Edge) (p q : Place) → IsValid p → step_of forest t e p ≡ Reaches q → HasApart q → FromBefore e p ⊎ FromWithin e p
edge-from forest t (writes n bytes to) p q v is h = text-from n bytes to p q v (text-lands (may_use p (use_at forest t (before n))) (after_text bytes p) q is) h
edge-from forest t (fills n pipe to) p q v is h = (let o = hole-lands (may_use p (use_at forest t (before n))) (after_hole p) q is in absurd (met-apart.holed p q o.0 o.1 h))
edge-from forest t (calls n callee to) p q v is h = absurd (no-reaches (may_use p (use_at forest t (before n))) (number_named callee forest) p q is)
edge-from forest t (picks from choice to) p q v is h =
    inl (record { before = subst HasApart (sym (still-lands (may_use p (use_at forest t from)) p q is)) h; keeps = λ s i b. (tt, b) })
edge-from forest t (passes from to) p q v is h =
    inl (record { before = subst HasApart (sym (still-lands (may_use p (use_at forest t from)) p q is)) h; keeps = λ s i b. (tt, b) })

sides-above : (p q : Place) (s r : LexState ValueState) → Below p q → BearSides p s r → BearSides q s r
sides-above p q s r below b = record { is_in = in-above p q s below b.is_in; bears = b.bears; other_in = in-above p q r below b.other_in; other_bears = b.other_bears }

module _ (forest : ForestData) (name : List ℕ) where
  -- on from a point to which two paths come
  come-on : (e : Place) (k j : Point) (p q : Place) → ((u w : LexState ValueState) → BearSides p u w → LedTogether forest name k u w j q) → ComesApart forest name e k p → ComesApart forest name e j q
  come-on e k j p q on (inl h) = inl (record {
    before = h.before;
    leads = λ s r b. (let l = h.leads s r b in let o = on l.state l.other l.bear in record {
      state = o.state;
      other = o.other;
      goes = λ os. keep-on forest (open_standing os name (start_in forest name)) (open_standing os name k) (open_standing os name j) s r l.state l.other o.state o.other (l.goes os) (o.goes os);
      bear = o.bear;
    });
  })
  come-on e k j p q on (inr h) = inr (record {
    one = h.one;
    other = h.other;
    has = h.has;
    also = h.also;
    leads = λ s r i b c d. (let l = h.leads s r i b c d in let o = on l.state l.other l.bear in record {
      state = o.state;
      other = o.other;
      goes = λ os. meet-on forest (open_standing os name (start_in forest name)) (open_standing os name k) (open_standing os name j) s r l.state l.other o.state o.other (l.goes os) (o.goes os);
      bear = o.bear;
    });
  })

  -- on from a point to which each of two members comes
  two-come : (e : Place) (k j : Point) (p a q : Place) (x z : Member) → Comes forest name e k p x → Comes forest name e k a z
      → ((u w : LexState ValueState) → IsIn p u → Bears u x → IsIn a w → Bears w z → LedApart forest name k u w j q) → ComesApart forest name e j q
  two-come e k j p a q x z one other on = inr (record {
    one = one.from;
    other = other.from;
    has = one.has;
    also = other.has;
    leads = λ s r i b c d. (let l = one.leads s i b in let m = other.leads r c d in let o = on l.state m.state l.is_in l.bears m.is_in m.bears in record {
      state = o.state;
      other = o.other;
      goes = λ os. meet-behind forest (open_standing os name (start_in forest name)) (open_standing os name k) (open_standing os name j) s r l.state m.state o.state o.other (l.goes os) (m.goes os) (o.goes os);
      bear = o.bear;
    });
  })

  -- a place that is given lies below the place that the point has
  come-above : (e : Place) (k : Point) (p q : Place) → Below p q → ComesApart forest name e k p → ComesApart forest name e k q
  come-above e k p q below c = come-on e k k p q (λ u w b. record { state = u; other = w; goes = λ os. keep-still forest (open_standing os name k) u w; bear = sides-above p q u w below b }) c

module _ (forest : ForestData) (up : HasAscendingNames forest) where
  -- into a call that is made
  pub keep-into : (t : ℕ) (name : List ℕ) (e : Edge) (c : ℕ) (p q : Place) (os : List Open) (s r : LexState ValueState) → number_named name forest ≡ Some t → Within e (edges_in forest name) → IsValid p → IsIn p s → IsIn p r
      → step_of forest t e p ≡ Enters c q → (call : IsCall forest e c p q)
      → KeepTogether forest (open_standing os name (from_of e)) s r (open_standing (record { template = name; node = call.node; back = call.behind } ∷ os) call.callee (start_in forest call.callee)) s r
  keep-into t name e c p q os s r number w v i j is call =
      let taken = subst IsTaken (sym is) tt in
      let keeps : (u : LexState ValueState) → EdgeKeeps e u = λ u. subst (λ (x : Edge). EdgeKeeps x u) (sym call.is) tt in
      let keep = keep-along forest os name e s r w (step-clear forest t name e p s number v i taken) (step-clear forest t name e p r number v j taken) (keeps s) (keeps r) in
      subst (λ (x : Edge). KeepTogether forest (open_standing os name (from_of e)) s r (along_edge forest (open_standing os name (from_of e)) x) (edge_read html_language x s) (edge_read html_language x r)) call.is keep

  module _ (log : List Derivation) (all : AllCome forest log) (apart : AllComeApart forest log) (t : ℕ) (name : List ℕ) (at : tree_name_at forest t ≡ Some name) (e : Place) where
    number : number_named name forest ≡ Some t
    number = numbered forest t name up at

    module _ (edge : Edge) (p q r : Place) (w : Within edge (edges_in forest name)) (from : AllGiven log t e (from_of edge) p) (is : step_of forest t edge p ≡ Reaches r) (derived : r ≡ q) where
      taken : IsTaken (step_of forest t edge p)
      taken = subst IsTaken (sym is) tt

      clear : (s : LexState ValueState) → IsIn p s → Errs forest name edge s → ⊥
      clear s i = step-clear forest t name edge p s number from.valid i taken

      lands-in : (s : LexState ValueState) → IsIn p s → IsIn q (edge_read html_language edge s)
      lands-in s i =
          let covers : (z : Member) → Has r z → (x : Member) × IsStepOrigin edge p r z x = subst (λ (st : EdgeStep). StepCovers st edge p) is (step-covers forest t edge p from.valid) in
          subst (λ (z : Place). IsIn z (edge_read html_language edge s)) derived ((covers member.Whole refl).1.is_in s i)

      within : (os : List Open) → along_edge forest (open_standing os name (from_of edge)) edge ≡ open_standing os name (to_of edge)
      within os = stays-within forest t edge p r os name is

      through-edge : FromBefore edge p → (u v : LexState ValueState) → BearSides p u v → LedTogether forest name (from_of edge) u v (to_of edge) q
      through-edge f u v b =
          let one = f.keeps u b.is_in b.bears in
          let other = f.keeps v b.other_in b.other_bears in
          let x = edge_read html_language edge u in
          let y = edge_read html_language edge v in
          record {
            state = x;
            other = y;
            goes = λ os. subst (λ (a : Standing). KeepTogether forest (open_standing os name (from_of edge)) u v a x y) (within os)
                (keep-along forest os name edge u v w (clear u b.is_in) (clear v b.other_in) one.0 other.0);
            bear = record { is_in = lands-in u b.is_in; bears = one.1; other_in = lands-in v b.other_in; other_bears = other.1 };
          }

      within-edge : (f : FromWithin edge p) → (u v : LexState ValueState) → IsIn p u → Bears u f.one → IsIn p v → Bears v f.other → LedApart forest name (from_of edge) u v (to_of edge) q
      within-edge f u v i b j c =
          let parts = f.parts u v i b j c in
          let x = edge_read html_language edge u in
          let y = edge_read html_language edge v in
          record {
            state = x;
            other = y;
            goes = λ os. subst (λ (a : Standing). MeetTogether forest (open_standing os name (from_of edge)) u v a x y) (within os)
                (meet-within forest os name edge u v w (clear u i) (clear v j) parts.0);
            bear = record { is_in = lands-in u i; bears = parts.1; other_in = lands-in v j; other_bears = parts.2 };
          }

      reaches-apart : FromBefore edge p ⊎ FromWithin edge p → ComesApart forest name e (to_of edge) q
      reaches-apart (inl f) = come-on forest name e (from_of edge) (to_of edge) p q (through-edge f) (apart t name e (from_of edge) p at (from.apart f.before))
      reaches-apart (inr f) =
          two-come forest name e (from_of edge) (to_of edge) p p q f.one f.other (all t name e (from_of edge) p f.one at (from.members f.one f.has))
          (all t name e (from_of edge) p f.other at (from.members f.other f.also)) (within-edge f)

    module _ (edge : Edge) (c : ℕ) (p q r : Place) (w : Within edge (edges_in forest name)) (from : AllGiven log t e (from_of edge) p) (is : step_of forest t edge p ≡ Enters c r) (call : IsCall forest edge c p r) where
      in-callee : (s : LexState ValueState) → IsIn p s → IsIn r s
      in-callee s i = subst (λ (z : Place). IsIn z s) (sym call.place) i

      -- into the call, and out of it
      enter : (os : List Open) (u v : LexState ValueState) → IsIn p u → IsIn p v
          → KeepTogether forest (open_standing os name (from_of edge)) u v (open_standing (record { template = name; node = call.node; back = call.behind } ∷ os) call.callee (start_in forest call.callee)) u v
      enter os u v i j = keep-into t name edge c p r os u v number w from.valid i j is call

      leave : (os : List Open) (u v : LexState ValueState)
          → KeepTogether forest (open_standing (record { template = name; node = call.node; back = call.behind } ∷ os) call.callee finish_point) u v (open_standing os name (to_of edge)) u v
      leave os u v =
          let o : Open = record { template = name; node = call.node; back = call.behind } in
          subst (λ (x : Edge). KeepTogether forest (open_standing (o ∷ os) call.callee finish_point) u v (open_standing os name (to_of x)) u v) (sym call.is) (keep-back forest o os call.callee u v)

      through-call : ComesThrough forest call.callee r finish_point q → (u v : LexState ValueState) → BearSides p u v → LedTogether forest name (from_of edge) u v (to_of edge) q
      through-call d u v b =
          let l = d.leads u v (record { is_in = in-callee u b.is_in; bears = b.bears; other_in = in-callee v b.other_in; other_bears = b.other_bears }) in
          record {
            state = l.state;
            other = l.other;
            goes = λ os. (let o : Open = record { template = name; node = call.node; back = call.behind } in
                let start = open_standing (o ∷ os) call.callee (start_in forest call.callee) in
                let end = open_standing (o ∷ os) call.callee finish_point in
                keep-on forest (open_standing os name (from_of edge)) end (open_standing os name (to_of edge)) u v l.state l.other l.state l.other
                (keep-on forest (open_standing os name (from_of edge)) start end u v u v l.state l.other (enter os u v b.is_in b.other_in) (l.goes (o ∷ os))) (leave os l.state l.other));
            bear = l.bear;
          }

      within-call : (d : ComesOfTwo forest call.callee r finish_point q) → (u v : LexState ValueState) → IsIn p u → Bears u d.one → IsIn p v → Bears v d.other → LedApart forest name (from_of edge) u v (to_of edge) q
      within-call d u v i b j k =
          let l = d.leads u v (in-callee u i) b (in-callee v j) k in
          record {
            state = l.state;
            other = l.other;
            goes = λ os. (let o : Open = record { template = name; node = call.node; back = call.behind } in
                let start = open_standing (o ∷ os) call.callee (start_in forest call.callee) in
                let end = open_standing (o ∷ os) call.callee finish_point in
                let into = enter os u v i j in
                meet-on forest (open_standing os name (from_of edge)) end (open_standing os name (to_of edge)) u v l.state l.other l.state l.other
                (meet-behind forest (open_standing os name (from_of edge)) start end u v u v l.state l.other into.one into.other (l.goes (o ∷ os))) (leave os l.state l.other));
            bear = l.bear;
          }

      -- a member of the callee's entry comes to the call
      to-call : (m : Member) → Has r m → Comes forest name e (from_of edge) p m
      to-call m h = all t name e (from_of edge) p m at (from.members m (subst (λ (z : Place). Has z m) call.place h))

      enters-apart : ComesApart forest call.callee r finish_point q → ComesApart forest name e (to_of edge) q
      enters-apart (inl d) = come-on forest name e (from_of edge) (to_of edge) p q (through-call d) (apart t name e (from_of edge) p at (from.apart (subst HasApart call.place d.before)))
      enters-apart (inr d) = two-come forest name e (from_of edge) (to_of edge) p p q d.one d.other (to-call d.one d.has) (to-call d.other d.also) (within-call d)

    along-apart : (edge : Edge) (p q : Place) (step : EdgeStep) → Within edge (edges_in forest name) → AllGiven log t e (from_of edge) p → step_of forest t edge p ≡ step → IsDerivedBy log step q → HasApart q → ComesApart forest name e (to_of edge) q
    along-apart edge p q (Reaches r) w from is gives h = reaches-apart edge p q r w from is gives.0 (edge-from forest t edge p r from.valid is (subst HasApart (sym gives.0) h))
    along-apart edge p q (Enters c r) w from is gives h =
        let call = is-call forest t edge p c r is in
        enters-apart edge c p q r w from is call (apart c call.callee r finish_point q (named forest c call.callee call.number) (gives.apart h))
    along-apart edge p q Refused w from is gives h = absurd gives

    -- from where the template is entered
    entry-apart : (g : Derivation) → g.template ≡ t → g.entry ≡ e → IsDerivedEntry forest g → HasApart g.place → ComesApart forest name e g.point g.place
    entry-apart g same place entry h =
        let start : start_in forest name ≡ g.point = same_start forest t name number ∙ (ap (λ (n : ℕ). start_at forest n) (sym same) ∙ sym entry.point) in
        let derived : g.place ≡ e = entry.place ∙ place in
        inl (record {
          before = subst HasApart derived h;
          leads = λ s r b. record {
            state = s;
            other = r;
            goes = λ os. subst (λ (k : Point). KeepTogether forest (open_standing os name (start_in forest name)) s r (open_standing os name k) s r) start (keep-still forest (open_standing os name (start_in forest name)) s r);
            bear = subst (λ (p : Place). BearSides p s r) (sym derived) b;
          };
        })

  -- what was given comes, where each derivation does
  module _ (log : List Derivation) (all : AllCome forest log) where
    two-given : (t : ℕ) (name : List ℕ) (e : Place) (k : Point) (p : Place) → tree_name_at forest t ≡ Some name → HasDerivationsApart log t e k p → ComesApart forest name e k p
    two-given t name e k p at h =
        let one = h.one.derivation.place in
        let other = h.other.derivation.place in
        two-come forest name e k k one other p side side (all t name e k one side at (itself log t e k p side h.one)) (all t name e k other side at (itself log t e k p side h.other))
        (λ u w i b j c. record {
          state = u;
          other = w;
          goes = λ os. meet-here forest (open_standing os name k) u w (met-apart.are_apart one other u w h.apart i b j c);
          bear = record { is_in = in-above one p u h.one.below i; bears = b; other_in = in-above other p w h.other.below j; other_bears = c };
        })

    pub given-apart : ((j : ℕ) (g : Derivation) (name : List ℕ) → slice_get log j ≡ Some g → tree_name_at forest g.template ≡ Some name → HasApart g.place → ComesApart forest name g.entry g.point g.place) → AllComeApart forest log
    given-apart known t name e k p at (inl h) =
        let g = h.derivation in
        come-above forest name e k g.place p h.below (subst (λ (x : Point). ComesApart forest name e x g.place) h.point (subst (λ (x : Place). ComesApart forest name x g.point g.place) h.entry
        (known h.number g name h.is (ap (tree_name_at forest) h.template ∙ at) h.apart)))
    given-apart known t name e k p at (inr h) = two-given t name e k p at h

  module _ (roots : List ℕ) (first : Place) (log : List Derivation) (made : IsMadeDerivation forest roots first log) where
    abbrev AreApartKnown : ℕ → Type 0
    AreApartKnown i = (j : ℕ) (g : Derivation) (name : List ℕ) → j < i → slice_get log j ≡ Some g → tree_name_at forest g.template ≡ Some name → HasApart g.place → ComesApart forest name g.entry g.point g.place

    part-comes : (i : ℕ) → AllCome forest (take i log)
    part-comes i t name e k p m at h = all-come forest up roots first log made t name e k p m at (of_part log i t e k p m h)

    part-apart : (i : ℕ) → AreApartKnown i → AllComeApart forest (take i log)
    part-apart i known = given-apart (take i log) (part-comes i) (λ j g name is at h. (let was = take_get log i j g is in known j g name was.0 was.1 at h))

    derivation-apart : (i : ℕ) (g : Derivation) (name : List ℕ) (how : DerivedFrom) → AreApartKnown i → IsDerivation forest roots first (take i log) g how → tree_name_at forest g.template ≡ Some name → HasApart g.place → ComesApart forest name g.entry g.point g.place
    derivation-apart i g name Root known k at h = entry-apart (take i log) (part-comes i) (part-apart i known) g.template name at g.entry g refl refl k.entry h
    derivation-apart i g name (Called t e n) known k at h = entry-apart (take i log) (part-comes i) (part-apart i known) g.template name at g.entry g refl refl k.entry h
    derivation-apart i g name (Along n) known k at h = subst (λ (x : Point). ComesApart forest name g.entry x g.place) (sym k.to)
        (along-apart (take i log) (part-comes i) (part-apart i known) g.template name at g.entry k.edge g.source g.place (step_of forest g.template k.edge g.source)
        (edge_within forest g.template n name k.edge (numbered forest g.template name up at) k.is) k.from refl k.gives h)

    apart-to : (n i : ℕ) (g : Derivation) (name : List ℕ) → i < n → slice_get log i ≡ Some g → tree_name_at forest g.template ≡ Some name → HasApart g.place → ComesApart forest name g.entry g.point g.place
    apart-to zero i g name lt is at h = absurd (omega (arith, lt))
    apart-to (suc n) i g name lt is at h = derivation-apart i g name g.from (λ j f called le was named k. apart-to n j f called (omega (arith, lt, le)) was named k) (made i g is) at h

    -- Two paths come to each place that was given of which two met apart.
    pub all-come-apart : AllComeApart forest log
    all-come-apart = given-apart log (all-come forest up roots first log made) (λ j g name is at h. apart-to (suc j) j g name (omega arith) is at h)
