-- Where an edge is accepted from a place, no error stands there on a path that the place stands for.
use Rattle.std.proofs.Common.{◌≡◌, ℕ, Bool, true, false, List, Option, Some, None, Result, Ok, Err, refl, sym, ap, ◌∙◌, subst, if◌then◌else◌, inl, inr}
use Rattle.place_flow.specs.HtmlCovering.{behind_hole, behind_text}
use Rattle.place_core.specs.place.Errors.{PathRefuses, RefusesHole, path_refusal}
use Rattle.place_core.specs.place.Membership.{IsIn}
use Rattle.place_core.specs.place.Places.{Below, IsValid}
use Rattle.place_core.specs.place.StatePlaces.{placed}
use Rattle.place_core.specs.page.States.{LexState}
use Rattle.place_core.specs.page.Tags.{ValueState}
use Rattle.place_core.specs.declared.code.Code.{Code}
use Rattle.place_core.specs.declared.place.Place.{Place}
use Rattle.place_core.specs.declared.step_err.StepErr.{StepErr}
use Rattle.html_step.proofs.EscapeOrder.{grows-escape}
use Rattle.html_step.proofs.HoleOrder.{accepts-hole}
use Rattle.html_step.proofs.AcceptedTexts.{accepts-text, none-refused}
use Rattle.html_step.specs.Holes.{Holed, after_hole}
use Rattle.html_step.specs.Steps.{after_text}
use Rattle.html_step.specs.declared.escaper.Escaper.TheVariants as escaper
use Rattle.place_flow.specs.declared.predefined.Predefined.TheVariants as predefined
use Rattle.place_flow.specs.declared.uses.EscaperUse.{EscaperUse}
use Rattle.place_flow.specs.declared.uses.EscaperUse.TheVariants as uses
use Rattle.tpl_paths.specs.Edges.{Edge, calls, fills, from_of, passes, picks, writes}
use Rattle.tpl_tree.specs.Forests.{ForestData, number_named}
use Rattle.place_flow.specs.Transfer.{edge_step, enters_or_refused, reaches_or_refused, may_use, step_of, use_at}
use Rattle.place_flow.specs.declared.step.EdgeStep.{EdgeStep}
use Rattle.place_flow.specs.declared.step.EdgeStep.TheVariants.{Reaches, Enters, Refused}
use Rattle.place_flow.specs.Errors.{EdgeRefuses, Errs, Misuses}
use Rattle.place_flow.proofs.NamedParts.{same_use}

-- a path has one place
pub one_place : (o : Option Place) (a b : Place) → o ≡ Some a → o ≡ Some b → a ≡ b
one_place o a b e f = cc

abbrev pub IsTaken : EdgeStep → Type 0
IsTaken (Reaches q) = Unit {0}
IsTaken (Enters c q) = Unit {0}
IsTaken Refused = ⊥

-- an escaper that may stand in a place may stand in each below
pub may-below : (p a : Place) (u : EscaperUse) → IsValid a → Below a p → may_use p u ≡ true → may_use a u ≡ true
may-below p a uses.Nothing v b h = refl
may-below p a (uses.Last predefined.Html) v b h = grows-escape escaper.Html a p v b h
may-below p a (uses.Last predefined.Urlquery) v b h = grows-escape escaper.Urlquery a p v b h
may-below p a uses.Misused v b h = cc

not-both : (b : Bool) → b ≡ true → b ≡ false → ⊥
not-both b e f = cc

taken-parts : (b : Bool) (x : EdgeStep) → IsTaken (if b then x else Refused) → (b ≡ true) × IsTaken x
taken-parts true x h = (refl, h)
taken-parts false x h = absurd h

text-clear : (bytes : List ℕ) (p : Place) (s : LexState ValueState) (o : Result Place (StepErr Place)) → IsValid p → IsIn p s → after_text bytes p ≡ o → IsTaken (reaches_or_refused (behind_text o)) → (e : StepErr Place) → PathRefuses bytes s e → ⊥
text-clear bytes p s (Ok q) v i is taken e r =
    none-refused (record { code = e.code; at = e.at; shown = r.shown }) (path_refusal bytes s) (accepts-text bytes p q s v is i).0 r.stands
text-clear bytes p s (Err x) v i is taken e r = taken

hole-clear : (p : Place) (s : LexState ValueState) (o : Holed) → IsValid p → IsIn p s → after_hole p ≡ o → IsTaken (reaches_or_refused (behind_hole o)) → (e : Code) → RefusesHole s e → ⊥
hole-clear p s (Ok h) v i is taken e r = (accepts-hole p h.0 h.1 s e v is i).0 r
hole-clear p s (Err x) v i is taken e r = taken

call-clear : (p : Place) (o : Option ℕ) → IsTaken (enters_or_refused o p) → o ≡ None → ⊥
call-clear p (Some c) taken e = cc
call-clear p None taken e = taken

edge-clear : (forest : ForestData) (e : Edge) (p : Place) (s : LexState ValueState) → IsValid p → IsIn p s → IsTaken (edge_step forest e p) → EdgeRefuses forest e s → ⊥
edge-clear forest (writes n bytes to) p s v i taken r = text-clear bytes p s (after_text bytes p) v i refl taken r.0 r.1
edge-clear forest (fills n pipe to) p s v i taken r = hole-clear p s (after_hole p) v i refl taken r.0 r.1
edge-clear forest (calls n name to) p s v i taken r = call-clear p (number_named name forest) taken r
edge-clear forest (picks from choice to) p s v i taken r = r
edge-clear forest (passes from to) p s v i taken r = r

use-clear : (forest : ForestData) (t : ℕ) (name : List ℕ) (e : Edge) (p : Place) (s : LexState ValueState) → number_named name forest ≡ Some t → IsIn p s → may_use p (use_at forest t (from_of e)) ≡ true → Misuses forest name (from_of e) s → ⊥
use-clear forest t name e p s number i may m =
    let own : i.own ≡ m.own = one_place (placed s) i.own m.own i.stands m.stands in
    let ours : may_use m.own (use_at forest t (from_of e)) ≡ true = subst (λ (a : Place). may_use a (use_at forest t (from_of e)) ≡ true) own (may-below p i.own (use_at forest t (from_of e)) i.valid i.below may) in
    not-both (may_use m.own (use_at forest t (from_of e))) ours (ap (may_use m.own) (sym (same_use forest t name number (from_of e))) ∙ m.misused)

pub step-clear : (forest : ForestData) (t : ℕ) (name : List ℕ) (e : Edge) (p : Place) (s : LexState ValueState) → number_named name forest ≡ Some t → IsValid p → IsIn p s → IsTaken (step_of forest t e p) → Errs forest name e s → ⊥
step-clear forest t name e p s number v i taken (inl m) = use-clear forest t name e p s number i (taken-parts (may_use p (use_at forest t (from_of e))) (edge_step forest e p) taken).0 m
step-clear forest t name e p s number v i taken (inr r) = edge-clear forest e p s v i (taken-parts (may_use p (use_at forest t (from_of e))) (edge_step forest e p) taken).1 r
