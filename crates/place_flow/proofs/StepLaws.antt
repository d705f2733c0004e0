-- A step along an edge keeps the order of places and valid places, and covers the paths.
use Rattle.std.proofs.Common.{◌≡◌, ℕ, Bool, true, false, List, Option, Some, None, Result, Ok, Err, refl, sym, subst, if◌then◌else◌}
use Rattle.place_flow.specs.HtmlCovering.{behind_hole, behind_text}
use Rattle.place_core.specs.place.Places.{Below, IsValid}
use Rattle.place_core.specs.declared.place.Place.{Place}
use Rattle.place_core.specs.declared.step_err.StepErr.{StepErr}
use Rattle.html_step.specs.Holes.{Holed, after_hole}
use Rattle.html_step.specs.Steps.{after_text}
use Rattle.html_step.specs.declared.escaper.Escaper.TheVariants as escaper
use Rattle.html_step.proofs.EscapeOrder.{grows-escape}
use Rattle.html_step.proofs.FromTexts.{from-text}
use Rattle.html_step.proofs.HoleOrder.{covers-hole, grows-hole, valid-hole}
use Rattle.html_step.proofs.HoleShows.{from-hole}
use Rattle.html_step.proofs.WholeTexts.{covers-text, grows-text, valid-text}
use Rattle.place_flow.specs.declared.predefined.Predefined.TheVariants as predefined
use Rattle.place_flow.specs.declared.uses.EscaperUse.{EscaperUse}
use Rattle.place_flow.specs.declared.uses.EscaperUse.TheVariants as uses
use Rattle.tpl_paths.specs.Edges.{Edge, Point, calls, fills, from_of, passes, picks, writes}
use Rattle.tpl_tree.specs.Forests.{ForestData, number_named}
use Rattle.tpl_tree.specs.declared.pipe.Pipe.{Pipe}
use Rattle.place_flow.specs.Laws.{EachStepCovers, IsValidStep, StepBelow, StepCovers, StepKeepsOrder, StepKeepsValid}
use Rattle.place_flow.specs.Transfer.{edge_step, enters_or_refused, reaches_or_refused, may_use, use_at}
use Rattle.place_flow.specs.declared.step.EdgeStep.{EdgeStep}
use Rattle.place_flow.specs.declared.step.EdgeStep.TheVariants.{Reaches, Enters, Refused}

no : false ≡ true → ⊥
no e = cc

-- a use of an escaper that a place lets stand may stand in each valid place below
pub may-keeps : (x : EscaperUse) (p q : Place) → IsValid p → Below p q → may_use q x ≡ true → may_use p x ≡ true
may-keeps uses.Nothing p q v b h = refl
may-keeps (uses.Last predefined.Html) p q v b h = grows-escape escaper.Html p q v b h
may-keeps (uses.Last predefined.Urlquery) p q v b h = grows-escape escaper.Urlquery p q v b h
may-keeps uses.Misused p q v b h = h

below_refused : (s : EdgeStep) → StepBelow s Refused
below_refused (Reaches p) = tt
below_refused (Enters c p) = tt
below_refused Refused = tt

guard-keeps : (a b : Bool) (s r : EdgeStep) → (b ≡ true → a ≡ true) → StepBelow s r → StepBelow (if a then s else Refused) (if b then r else Refused)
guard-keeps true true s r f h = h
guard-keeps false true s r f h = absurd (no (f refl))
guard-keeps true false s r f h = below_refused s
guard-keeps false false s r f h = tt

text-keeps : (bytes : List ℕ) (p q : Place) → IsValid p → IsValid q → Below p q → (r : Result Place (StepErr Place)) → after_text bytes q ≡ r
    → StepBelow (reaches_or_refused (behind_text (after_text bytes p))) (reaches_or_refused (behind_text r))
text-keeps bytes p q v w b (Ok c) e =
    let g = grows-text bytes p q c v w b e in
    subst (λ (o : Result Place (StepErr Place)). StepBelow (reaches_or_refused (behind_text o)) (Reaches c)) (sym g.1) g.2
text-keeps bytes p q v w b (Err x) e = below_refused (reaches_or_refused (behind_text (after_text bytes p)))

hole-keeps : (p q : Place) → IsValid p → IsValid q → Below p q → (r : Holed) → after_hole q ≡ r
    → StepBelow (reaches_or_refused (behind_hole (after_hole p))) (reaches_or_refused (behind_hole r))
hole-keeps p q v w b (Ok c) e =
    let g = grows-hole p q c.0 c.1 v w b e in
    subst (λ (o : Holed). StepBelow (reaches_or_refused (behind_hole o)) (Reaches c.0)) (sym g.1) g.2
hole-keeps p q v w b (Err x) e = below_refused (reaches_or_refused (behind_hole (after_hole p)))

call-keeps : (o : Option ℕ) (p q : Place) → Below p q → StepBelow (enters_or_refused o p) (enters_or_refused o q)
call-keeps (Some c) p q b = (refl, b)
call-keeps None p q b = tt

edge-keeps : (forest : ForestData) (e : Edge) (p q : Place) → IsValid p → IsValid q → Below p q → StepBelow (edge_step forest e p) (edge_step forest e q)
edge-keeps forest (writes n bytes to) p q v w b = text-keeps bytes p q v w b (after_text bytes q) refl
edge-keeps forest (fills n pipe to) p q v w b = hole-keeps p q v w b (after_hole q) refl
edge-keeps forest (calls n name to) p q v w b = call-keeps (number_named name forest) p q b
edge-keeps forest (picks from choice to) p q v w b = b
edge-keeps forest (passes from to) p q v w b = b

pub step-keeps-order : StepKeepsOrder
step-keeps-order forest t e p q v w b =
    guard-keeps (may_use p (use_at forest t (from_of e))) (may_use q (use_at forest t (from_of e))) (edge_step forest e p) (edge_step forest e q)
    (may-keeps (use_at forest t (from_of e)) p q v b) (edge-keeps forest e p q v w b)

guard-valid : (a : Bool) (s : EdgeStep) → IsValidStep s → IsValidStep (if a then s else Refused)
guard-valid true s h = h
guard-valid false s h = tt

text-valid : (bytes : List ℕ) (p : Place) → IsValid p → (r : Result Place (StepErr Place)) → after_text bytes p ≡ r → IsValidStep (reaches_or_refused (behind_text r))
text-valid bytes p v (Ok q) e = valid-text bytes p q v e
text-valid bytes p v (Err x) e = tt

hole-valid : (p : Place) → IsValid p → (r : Holed) → after_hole p ≡ r → IsValidStep (reaches_or_refused (behind_hole r))
hole-valid p v (Ok q) e = valid-hole p q.0 q.1 v e
hole-valid p v (Err x) e = tt

call-valid : (o : Option ℕ) (p : Place) → IsValid p → IsValidStep (enters_or_refused o p)
call-valid (Some c) p v = v
call-valid None p v = tt

edge-valid : (forest : ForestData) (e : Edge) (p : Place) → IsValid p → IsValidStep (edge_step forest e p)
edge-valid forest (writes n bytes to) p v = text-valid bytes p v (after_text bytes p) refl
edge-valid forest (fills n pipe to) p v = hole-valid p v (after_hole p) refl
edge-valid forest (calls n name to) p v = call-valid (number_named name forest) p v
edge-valid forest (picks from choice to) p v = v
edge-valid forest (passes from to) p v = v

pub step-keeps-valid : StepKeepsValid
step-keeps-valid forest t e p v = guard-valid (may_use p (use_at forest t (from_of e))) (edge_step forest e p) (edge-valid forest e p v)

guard-covers : (a : Bool) (s : EdgeStep) (e : Edge) (p : Place) → StepCovers s e p → StepCovers (if a then s else Refused) e p
guard-covers true s e p h = h
guard-covers false s e p h = tt

text-covers : (n : ℕ) (bytes : List ℕ) (to : Point) (p : Place) → IsValid p → (r : Result Place (StepErr Place)) → after_text bytes p ≡ r
    → StepCovers (reaches_or_refused (behind_text r)) (writes n bytes to) p
text-covers n bytes to p v (Ok q) e = λ y h. (let x = from-text bytes p q y v e h in
    (x.0, record { has = x.1.0; bears = x.1.1; is_in = λ s i. covers-text bytes p q s v i e }))
text-covers n bytes to p v (Err x) e = tt

hole-covers : (n : ℕ) (pipe : Pipe) (to : Point) (p : Place) → IsValid p → (r : Holed) → after_hole p ≡ r
    → StepCovers (reaches_or_refused (behind_hole r)) (fills n pipe to) p
hole-covers n pipe to p v (Ok q) e = λ y h. (let x = from-hole p q.0 q.1 y v e h in
    (x.0, record { has = x.1.0; bears = x.1.1; is_in = λ s i. (covers-hole p q.0 q.1 s v i e).0 }))
hole-covers n pipe to p v (Err x) e = tt

call-covers : (o : Option ℕ) (e : Edge) (p : Place) → StepCovers (enters_or_refused o p) e p
call-covers (Some c) e p = refl
call-covers None e p = tt

edge-covers : (forest : ForestData) (e : Edge) (p : Place) → IsValid p → StepCovers (edge_step forest e p) e p
edge-covers forest (writes n bytes to) p v = text-covers n bytes to p v (after_text bytes p) refl
edge-covers forest (fills n pipe to) p v = hole-covers n pipe to p v (after_hole p) refl
edge-covers forest (calls n name to) p v = call-covers (number_named name forest) (calls n name to) p
edge-covers forest (picks from choice to) p v = λ y h. (y, record { has = h; bears = λ s i b. b; is_in = λ s i. i })
edge-covers forest (passes from to) p v = λ y h. (y, record { has = h; bears = λ s i b. b; is_in = λ s i. i })

pub step-covers : EachStepCovers
step-covers forest t e p v = guard-covers (may_use p (use_at forest t (from_of e))) (edge_step forest e p) e p (edge-covers forest e p v)
