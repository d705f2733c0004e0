-- Each member that was given to a point of a pair comes from a member of the place in which the pair is entered, along a part of a path
-- that stays above the calls open before it.
use Rattle.std.proofs.Common.{◌≡◌, ℕ, zero, suc, ◌<◌, List, [], ◌∷◌, take, Some, refl, sym, ap, ◌∙◌, subst, arith}
use Rattle.std.specs.Prelude.{slice_get}
use Rattle.place_flow.specs.Covering.{edge_read}
use Rattle.place_flow.specs.HtmlCovering.{html_language}
use Rattle.place_core.proofs.Joins.{the_order}
use Rattle.place_core.specs.place.Membership.{Bears, IsIn}
use Rattle.place_core.specs.place.Places.{Below, Has, IsValid}
use Rattle.place_core.specs.page.States.{LexState}
use Rattle.place_core.specs.page.Tags.{ValueState}
use Rattle.place_core.specs.declared.member.Member.{Member}
use Rattle.place_core.specs.declared.place.Place.{Place}
use Rattle.tpl_paths.specs.Edges.{Edge, Point, Within, edges_in, finish_point, from_of, start_in, to_of}
use Rattle.tpl_paths.specs.Paths.{Open, Standing, along_edge, open_standing}
use Rattle.tpl_tree.specs.Forests.{ForestData, HasAscendingNames, tree_name_at, number_named}
use Rattle.place_flow.proofs.PointStateLaws.{below_refl}
use Rattle.place_flow.proofs.StepLaws.{step-covers}
use Rattle.place_flow.specs.Flows.{start_at}
use Rattle.place_flow.specs.Laws.{IsStepOrigin, StepCovers}
use Rattle.place_flow.specs.Transfer.{step_of}
use Rattle.place_flow.specs.declared.step.EdgeStep.{EdgeStep}
use Rattle.place_flow.specs.declared.step.EdgeStep.TheVariants.{Reaches, Enters, Refused}
use Rattle.place_derive.specs.Derivations.{AllGiven, HasDerivation, IsDerivedEntry, IsDerivedBy, IsDerivation, IsMadeDerivation}
use Rattle.place_derive.specs.declared.derivation.DerivedFrom.{DerivedFrom}
use Rattle.place_derive.specs.declared.derivation.DerivedFrom.TheVariants.{Root, Called, Along}
use Rattle.place_derive.specs.declared.derivation.Derivation.{Derivation}
use Rattle.place_flow.proofs.ClearSteps.{IsTaken, step-clear}
use Rattle.place_flow.proofs.Goings.{Goes, goes-along, goes-back, goes-on, stays}
use Rattle.place_flow.proofs.NamedParts.{edge_within, named, numbered, same_start}
use Rattle.place_flow.proofs.StepEdges.{IsCall, is-call, stays-within}
use Rattle.place_flow.specs.Errors.{Errs}

-- a derivation of the beginning of a log
pub take_get : {A : Type 0} (xs : List A) (i j : ℕ) (x : A) → slice_get (take i xs) j ≡ Some x → (j < i) × (slice_get xs j ≡ Some x)
take_get [] zero j x e = cc
take_get (y ∷ xs) zero j x e = cc
take_get [] (suc i) j x e = cc
take_get (y ∷ xs) (suc i) zero x e = (omega arith, e)
take_get (y ∷ xs) (suc i) (suc j) x e = (let h = take_get xs i j x e in let lt = h.0 in (omega (arith, lt), h.1))

-- what the beginning of a log tells, the log does
unfoldable pub of_part : (log : List Derivation) (i t : ℕ) (e : Place) (k : Point) (p : Place) (m : Member) → HasDerivation (take i log) t e k p m → HasDerivation log t e k p m
of_part log i t e k p m h = record { number = h.number; derivation = h.derivation; is = (take_get log i h.number h.derivation h.is).1; template = h.template; entry = h.entry; point = h.point; has = h.has; below = h.below }

-- what was given, of the very place that was derived
pub itself : (log : List Derivation) (t : ℕ) (e : Place) (k : Point) (p : Place) (m : Member) → (h : HasDerivation log t e k p m) → HasDerivation log t e k h.derivation.place m
itself log t e k p m h = record { number = h.number; derivation = h.derivation; is = h.is; template = h.template; entry = h.entry; point = h.point; has = h.has; below = below_refl h.derivation.place }

-- a place stands for all that one below it stands for
pub in-above : (p q : Place) (s : LexState ValueState) → Below p q → IsIn p s → IsIn q s
in-above p q s b i = record { own = i.own; stands = i.stands; valid = i.valid; below = the_order.1 i.own p q i.below b }

-- a part of a path leads from a template's start to one of its points, whatever calls are open below it, and bears a member there
pub record Led (forest : ForestData) (name : List ℕ) (s : LexState ValueState) (k : Point) (p : Place) (m : Member) : Type 0 where
  pub state : LexState ValueState
  pub goes : (os : List Open) → Goes forest (open_standing os name (start_in forest name)) s (open_standing os name k) state
  pub is_in : IsIn p state
  pub bears : Bears state m

pub record Comes (forest : ForestData) (name : List ℕ) (e : Place) (k : Point) (p : Place) (m : Member) : Type 0 where
  pub from : Member
  pub has : Has e from
  pub leads : (s : LexState ValueState) → IsIn e s → Bears s from → Led forest name s k p m

-- each member that a log tells of comes
abbrev pub AllCome : ForestData → List Derivation → Type 0
AllCome forest log = (t : ℕ) (name : List ℕ) (e : Place) (k : Point) (p : Place) (m : Member) → tree_name_at forest t ≡ Some name → HasDerivation log t e k p m → Comes forest name e k p m

module _ (forest : ForestData) (up : HasAscendingNames forest) where
  -- a call that is made, from where a path stands before it
  pub goes-into : (t : ℕ) (name : List ℕ) (e : Edge) (c : ℕ) (p q : Place) (os : List Open) (s : LexState ValueState) → number_named name forest ≡ Some t → Within e (edges_in forest name) → IsValid p → IsIn p s → step_of forest t e p ≡ Enters c q → (call : IsCall forest e c p q)
      → Goes forest (open_standing os name (from_of e)) s (open_standing (record { template = name; node = call.node; back = call.behind } ∷ os) call.callee (start_in forest call.callee)) s
  goes-into t name e c p q os s number w v i is call =
      let clear : Errs forest name e s → ⊥ = step-clear forest t name e p s number v i (subst IsTaken (sym is) tt) in
      let goes : Goes forest (open_standing os name (from_of e)) s (along_edge forest (open_standing os name (from_of e)) e) (edge_read html_language e s) = goes-along forest os name e s w clear in
      subst (λ (x : Edge). Goes forest (open_standing os name (from_of e)) s (along_edge forest (open_standing os name (from_of e)) x) (edge_read html_language x s)) call.is goes

  module _ (log : List Derivation) (all : AllCome forest log) (t : ℕ) (name : List ℕ) (at : tree_name_at forest t ≡ Some name) (e : Place) where
    number : number_named name forest ≡ Some t
    number = numbered forest t name up at

    -- along an edge
    pub along-comes : (edge : Edge) (p q : Place) (y : Member) (step : EdgeStep) → Within edge (edges_in forest name) → AllGiven log t e (from_of edge) p → step_of forest t edge p ≡ step → IsDerivedBy log step q → Has q y → Comes forest name e (to_of edge) q y
    along-comes edge p q y (Reaches r) w from is gives h =
        let covers : (z : Member) → Has r z → (x : Member) × IsStepOrigin edge p r z x = subst (λ (st : EdgeStep). StepCovers st edge p) is (step-covers forest t edge p from.valid) in
        let x = covers y (subst (λ (z : Place). Has z y) (sym gives.0) h) in
        let c = all t name e (from_of edge) p x.0 at (from.members x.0 x.1.has) in
        record {
          from = c.from;
          has = c.has;
          leads = λ s i b. (let l = c.leads s i b in record {
            state = edge_read html_language edge l.state;
            goes = λ os. goes-on forest (open_standing os name (start_in forest name)) (open_standing os name (from_of edge)) (open_standing os name (to_of edge)) s l.state (edge_read html_language edge l.state) (l.goes os)
                (subst (λ (b : Standing). Goes forest (open_standing os name (from_of edge)) l.state b (edge_read html_language edge l.state)) (stays-within forest t edge p r os name is)
                (goes-along forest os name edge l.state w (step-clear forest t name edge p l.state number from.valid l.is_in (subst IsTaken (sym is) tt))));
            is_in = subst (λ (z : Place). IsIn z (edge_read html_language edge l.state)) gives.0 (x.1.is_in l.state l.is_in);
            bears = x.1.bears l.state l.is_in l.bears;
          });
        }
    along-comes edge p q y (Enters c r) w from is gives h =
        let call = is-call forest t edge p c r is in
        let d = all c call.callee r finish_point q y (named forest c call.callee call.number) (gives.members y h) in
        let b = all t name e (from_of edge) p d.from at (from.members d.from (subst (λ (z : Place). Has z d.from) call.place d.has)) in
        record {
          from = b.from;
          has = b.has;
          leads = λ s i k. (let l = b.leads s i k in let u = d.leads l.state (subst (λ (z : Place). IsIn z l.state) (sym call.place) l.is_in) l.bears in record {
            state = u.state;
            goes = λ os. (let o : Open = record { template = name; node = call.node; back = call.behind } in
                goes-on forest (open_standing os name (start_in forest name)) (open_standing os name (from_of edge)) (open_standing os name (to_of edge)) s l.state u.state (l.goes os)
                (goes-on forest (open_standing os name (from_of edge)) (open_standing (o ∷ os) call.callee (start_in forest call.callee)) (open_standing os name (to_of edge)) l.state l.state u.state
                (goes-into t name edge c p r os l.state number w from.valid l.is_in is call)
                (goes-on forest (open_standing (o ∷ os) call.callee (start_in forest call.callee)) (open_standing (o ∷ os) call.callee finish_point) (open_standing os name (to_of edge)) l.state u.state u.state (u.goes (o ∷ os))
                (subst (λ (x : Edge). Goes forest (open_standing (o ∷ os) call.callee finish_point) u.state (open_standing os name (to_of x)) u.state) (sym call.is) (goes-back forest o os call.callee u.state)))));
            is_in = u.is_in;
            bears = u.bears;
          });
        }
    along-comes edge p q y Refused w from is gives h = absurd gives

    -- from where the template is entered
    entry-comes : (g : Derivation) (y : Member) → g.template ≡ t → g.entry ≡ e → IsDerivedEntry forest g → Has g.place y → Comes forest name e g.point g.place y
    entry-comes g y same place entry h =
        let start : start_in forest name ≡ g.point = same_start forest t name number ∙ (ap (λ (n : ℕ). start_at forest n) (sym same) ∙ sym entry.point) in
        let derived : g.place ≡ e = entry.place ∙ place in
        record {
          from = y;
          has = subst (λ (p : Place). Has p y) derived h;
          leads = λ s i b. record {
            state = s;
            goes = λ os. subst (λ (k : Point). Goes forest (open_standing os name (start_in forest name)) s (open_standing os name k) s) start (stays forest (open_standing os name (start_in forest name)) s);
            is_in = subst (λ (p : Place). IsIn p s) (sym derived) i;
            bears = b;
          };
        }

  module _ (roots : List ℕ) (first : Place) (log : List Derivation) (made : IsMadeDerivation forest roots first log) where
    -- what was given before comes
    abbrev AreKnown : ℕ → Type 0
    AreKnown i = (j : ℕ) (g : Derivation) (y : Member) (name : List ℕ) → j < i → slice_get log j ≡ Some g → tree_name_at forest g.template ≡ Some name → Has g.place y → Comes forest name g.entry g.point g.place y

    given-comes : (g : Derivation) (t : ℕ) (name : List ℕ) (e : Place) (k : Point) (p : Place) (m : Member) → g.entry ≡ e → g.point ≡ k → Below g.place p → Comes forest name g.entry g.point g.place m → Comes forest name e k p m
    given-comes g t name e k p m entry point below h =
        let c : Comes forest name e k g.place m = subst (λ (x : Point). Comes forest name e x g.place m) point (subst (λ (x : Place). Comes forest name x g.point g.place m) entry h) in
        record { from = c.from; has = c.has; leads = λ s i b. (let l = c.leads s i b in record { state = l.state; goes = l.goes; is_in = in-above g.place p l.state below l.is_in; bears = l.bears }) }

    all-known : (i : ℕ) → AreKnown i → AllCome forest (take i log)
    all-known i known t name e k p m at h =
        let was = take_get log i h.number h.derivation h.is in
        given-comes h.derivation t name e k p m h.entry h.point h.below
        (known h.number h.derivation m name was.0 was.1 (ap (tree_name_at forest) h.template ∙ at) h.has)

    derivation-comes : (i : ℕ) (g : Derivation) (y : Member) (name : List ℕ) (how : DerivedFrom) → AreKnown i → IsDerivation forest roots first (take i log) g how → tree_name_at forest g.template ≡ Some name → Has g.place y → Comes forest name g.entry g.point g.place y
    derivation-comes i g y name Root known k at h = entry-comes (take i log) (all-known i known) g.template name at g.entry g y refl refl k.entry h
    derivation-comes i g y name (Called t e n) known k at h = entry-comes (take i log) (all-known i known) g.template name at g.entry g y refl refl k.entry h
    derivation-comes i g y name (Along n) known k at h = subst (λ (x : Point). Comes forest name g.entry x g.place y) (sym k.to)
        (along-comes (take i log) (all-known i known) g.template name at g.entry k.edge g.source g.place y (step_of forest g.template k.edge g.source)
        (edge_within forest g.template n name k.edge (numbered forest g.template name up at) k.is) k.from refl k.gives h)

    comes-to : (n i : ℕ) (g : Derivation) (y : Member) (name : List ℕ) → i < n → slice_get log i ≡ Some g → tree_name_at forest g.template ≡ Some name → Has g.place y → Comes forest name g.entry g.point g.place y
    comes-to zero i g y name lt is at h = absurd (omega (arith, lt))
    comes-to (suc n) i g y name lt is at h = derivation-comes i g y name g.from (λ j f m x le was named k. comes-to n j f m x (omega (arith, lt, le)) was named k) (made i g is) at h

    -- Each member that the log tells of comes from a member of the place of entry.
    pub all-come : AllCome forest log
    all-come t name e k p m at h =
        given-comes h.derivation t name e k p m h.entry h.point h.below
        (comes-to (suc h.number) h.number h.derivation m name (omega arith) h.is (ap (tree_name_at forest) h.template ∙ at) h.has)
