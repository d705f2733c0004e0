-- The steps of HTML are what is owed of a language.
use Rattle.std.proofs.Common.{◌≡◌, ℕ, List, Some, None, Result, Ok, Err, ap}
use Rattle.place_core.specs.place.Errors.{node}
use Rattle.place_core.specs.place.Membership.{IsIn}
use Rattle.place_core.specs.page.Paths.{at_hole}
use Rattle.place_core.specs.place.Places.{Below, IsValid}
use Rattle.place_core.specs.page.States.{LexState}
use Rattle.place_core.specs.page.Tags.{ValueState, languages}
use Rattle.place_core.specs.declared.chain.Chain.{Chain}
use Rattle.place_core.specs.declared.place.Place.{Place}
use Rattle.place_core.specs.declared.step_err.StepErr.{StepErr}
use Rattle.place_core.proofs.Joins.{the_order}
use Rattle.tpl_tree.specs.declared.pipe.Pipe.{Pipe}
use Rattle.html_step.specs.Holes.{Holed, after_hole}
use Rattle.html_step.specs.Steps.{after_text}
use Rattle.html_step.proofs.HoleOrder.{covers-hole, valid-hole}
use Rattle.html_step.proofs.WholeTexts.{covers-text, valid-text}
use Rattle.place_flow.specs.Covering.{Covers}
use Rattle.place_flow.specs.HtmlCovering.{HtmlChartCovers, behind_hole, behind_text, html_language}
use Rattle.place_flow.proofs.Covers.{covers}

none : {A : Type 0} {x : A} → None ≡ Some x → ⊥
none e = cc

some-one : {A : Type 0} (x y : A) → Some x ≡ Some y → x ≡ y
some-one x y e = cc

accepted-text : (r : Result Place (StepErr Place)) (q : Place) → behind_text r ≡ Some q → r ≡ Ok q
accepted-text (Ok p) q e = ap Ok (some-one p q e)
accepted-text (Err x) q e = absurd (none e)

accepted-hole : (r : Holed) (q : Place) → behind_hole r ≡ Some q → (c : Chain) × (r ≡ Ok (q, c))
accepted-hole (Ok h) q e = (h.1, ap (λ (p : Place). Ok (p, h.1)) (some-one h.0 q e))
accepted-hole (Err x) q e = absurd (none e)

texts : (bytes : List ℕ) (p q : Place) (s : LexState ValueState) → behind_text (after_text bytes p) ≡ Some q → IsValid p × IsIn p s → IsValid q × IsIn q (node bytes s)
texts bytes p q s e i =
    let r = accepted-text (after_text bytes p) q e in
    (valid-text bytes p q i.0 r, covers-text bytes p q s i.0 i.1 r)

holes : (p q : Place) (s : LexState ValueState) → behind_hole (after_hole p) ≡ Some q → IsValid p × IsIn p s → IsValid q × IsIn q (at_hole languages s)
holes p q s e i =
    let r = accepted-hole (after_hole p) q e in
    (valid-hole p q r.0 i.0 r.1, (covers-hole p q r.0 s i.0 i.1 r.1).0)

above : (p q : Place) (s : LexState ValueState) → IsValid q × Below p q → IsValid p × IsIn p s → IsValid q × IsIn q s
above p q s h i = (h.0, record { own = i.1.own; stands = i.1.stands; valid = i.1.valid; below = the_order.1 i.1.own p q i.1.below h.1 })

html-covers : Covers html_language
html-covers = record { texts = texts; holes = λ (pipe : Pipe) (p q : Place) (s : LexState ValueState). holes p q s; above = above }

pub chart-covers : HtmlChartCovers
chart-covers = covers (LexState ValueState) Place html_language html-covers
