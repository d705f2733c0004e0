-- Which edges a step lands by, and which it enters a template by.
use Rattle.std.proofs.Common.{◌≡◌, ℕ, Bool, true, false, List, Option, Some, None, refl, if◌then◌else◌}
use Rattle.place_flow.specs.HtmlCovering.{behind_hole, behind_text}
use Rattle.place_core.specs.declared.place.Place.{Place}
use Rattle.html_step.specs.Holes.{after_hole}
use Rattle.html_step.specs.Steps.{after_text}
use Rattle.tpl_paths.specs.Edges.{Edge, Point, before, calls, fills, from_of, passes, picks, to_of, writes}
use Rattle.tpl_paths.specs.Paths.{Open, along_edge, open_standing}
use Rattle.tpl_tree.specs.Forests.{ForestData, number_named}
use Rattle.place_flow.specs.Transfer.{enters_or_refused, reaches_or_refused, may_use, step_of, use_at}
use Rattle.place_flow.specs.declared.step.EdgeStep.TheVariants.{Reaches, Enters, Refused}

-- an edge that calls a template, and enters it in the place before it
pub record IsCall (forest : ForestData) (e : Edge) (c : ℕ) (p q : Place) : Type 0 where
  pub node : ℕ
  pub callee : List ℕ
  pub behind : Point
  pub is : e ≡ calls node callee behind
  pub number : number_named callee forest ≡ Some c
  pub place : q ≡ p

pub no-reaches : (b : Bool) (o : Option ℕ) (p q : Place) → (if b then enters_or_refused o p else Refused) ≡ Reaches q → ⊥
no-reaches true (Some c) p q e = cc
no-reaches true None p q e = cc
no-reaches false o p q e = cc

no-enters : (b : Bool) (o : Option Place) (c : ℕ) (q : Place) → (if b then reaches_or_refused o else Refused) ≡ Enters c q → ⊥
no-enters true (Some p) c q e = cc
no-enters true None c q e = cc
no-enters false o c q e = cc

enters : (b : Bool) (o : Option ℕ) (p : Place) (c : ℕ) (q : Place) → (if b then enters_or_refused o p else Refused) ≡ Enters c q → (o ≡ Some c) × (q ≡ p)
enters true (Some d) p c q e = (cc, cc)
enters true None p c q e = cc
enters false o p c q e = cc

module _ (forest : ForestData) (t : ℕ) where
  -- what lands is no call, so it stays in its template
  pub stays-within : (e : Edge) (p q : Place) (os : List Open) (name : List ℕ) → step_of forest t e p ≡ Reaches q → along_edge forest (open_standing os name (from_of e)) e ≡ open_standing os name (to_of e)
  stays-within (writes n bytes to) p q os name is = refl
  stays-within (fills n pipe to) p q os name is = refl
  stays-within (calls n callee to) p q os name is = absurd (no-reaches (may_use p (use_at forest t (before n))) (number_named callee forest) p q is)
  stays-within (picks from choice to) p q os name is = refl
  stays-within (passes from to) p q os name is = refl

  pub is-call : (e : Edge) (p : Place) (c : ℕ) (q : Place) → step_of forest t e p ≡ Enters c q → IsCall forest e c p q
  is-call (writes n bytes to) p c q is = absurd (no-enters (may_use p (use_at forest t (before n))) (behind_text (after_text bytes p)) c q is)
  is-call (fills n pipe to) p c q is = absurd (no-enters (may_use p (use_at forest t (before n))) (behind_hole (after_hole p)) c q is)
  is-call (calls n callee to) p c q is =
      let h = enters (may_use p (use_at forest t (before n))) (number_named callee forest) p c q is in
      record { node = n; callee = callee; behind = to; is = refl; number = h.0; place = h.1 }
  is-call (picks from choice to) p c q is = absurd (no-enters (may_use p (use_at forest t from)) (Some p) c q is)
  is-call (passes from to) p c q is = absurd (no-enters (may_use p (use_at forest t from)) (Some p) c q is)
