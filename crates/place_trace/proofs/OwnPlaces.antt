-- A step from a path's own place leads to the path's own place.
use Rattle.std.proofs.Common.{◌≡◌, ℕ, Bool, true, false, List, Option, Some, None, Result, Ok, Err, refl, ap, ◌∙◌, if◌then◌else◌}
use Rattle.place_flow.specs.Covering.{edge_read}
use Rattle.place_flow.specs.HtmlCovering.{behind_hole, behind_text, html_language}
use Rattle.place_core.specs.place.Errors.{node}
use Rattle.place_core.specs.page.Paths.{at_hole}
use Rattle.place_core.specs.place.StatePlaces.{placed}
use Rattle.place_core.specs.page.States.{LexState}
use Rattle.place_core.specs.page.Tags.{ValueState, languages}
use Rattle.place_core.specs.declared.place.Place.{Place}
use Rattle.place_core.specs.declared.step_err.StepErr.{StepErr}
use Rattle.html_step.proofs.HoleOrder.{one-hole}
use Rattle.html_step.proofs.OneTexts.{one-text}
use Rattle.html_step.specs.Holes.{Holed, after_hole}
use Rattle.html_step.specs.Steps.{after_text}
use Rattle.tpl_paths.specs.Edges.{Edge, before, calls, fills, passes, picks, writes}
use Rattle.tpl_tree.specs.Forests.{ForestData, number_named}
use Rattle.place_flow.specs.Transfer.{enters_or_refused, reaches_or_refused, may_use, step_of, use_at}
use Rattle.place_flow.specs.declared.step.EdgeStep.TheVariants.{Reaches, Refused}

text-own : (may : Bool) (bytes : List ℕ) (p q : Place) (s : LexState ValueState) (o : Result Place (StepErr Place)) → placed s ≡ Some p → after_text bytes p ≡ o
    → (if may then reaches_or_refused (behind_text o) else Refused) ≡ Reaches q → placed (node bytes s) ≡ Some q
text-own true bytes p q s (Ok r) own is e = (let same : r ≡ q = cc in ((one-text bytes p s own).0 r is).1 ∙ ap Some same)
text-own true bytes p q s (Err x) own is e = cc
text-own false bytes p q s o own is e = cc

hole-own : (may : Bool) (p q : Place) (s : LexState ValueState) (o : Holed) → placed s ≡ Some p → after_hole p ≡ o
    → (if may then reaches_or_refused (behind_hole o) else Refused) ≡ Reaches q → placed (at_hole languages s) ≡ Some q
hole-own true p q s (Ok h) own is e = (let same : h.0 ≡ q = cc in ((one-hole p s own).0 h.0 h.1 is).1 ∙ ap Some same)
hole-own true p q s (Err x) own is e = cc
hole-own false p q s o own is e = cc

no-reaches : (may : Bool) (o : Option ℕ) (p q : Place) → (if may then enters_or_refused o p else Refused) ≡ Reaches q → ⊥
no-reaches true (Some c) p q e = cc
no-reaches true None p q e = cc
no-reaches false o p q e = cc

same-own : (may : Bool) (p q : Place) → (if may then Reaches p else Refused) ≡ Reaches q → p ≡ q
same-own true p q e = cc
same-own false p q e = cc

pub reaches-own : (forest : ForestData) (t : ℕ) (e : Edge) (p q : Place) (s : LexState ValueState) → placed s ≡ Some p → step_of forest t e p ≡ Reaches q → placed (edge_read html_language e s) ≡ Some q
reaches-own forest t (writes n bytes to) p q s own is = text-own (may_use p (use_at forest t (before n))) bytes p q s (after_text bytes p) own refl is
reaches-own forest t (fills n pipe to) p q s own is = hole-own (may_use p (use_at forest t (before n))) p q s (after_hole p) own refl is
reaches-own forest t (calls n name to) p q s own is = absurd (no-reaches (may_use p (use_at forest t (before n))) (number_named name forest) p q is)
reaches-own forest t (picks from choice to) p q s own is = own ∙ ap Some (same-own (may_use p (use_at forest t from)) p q is)
reaches-own forest t (passes from to) p q s own is = own ∙ ap Some (same-own (may_use p (use_at forest t from)) p q is)
