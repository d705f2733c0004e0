-- What is owed of a step along an edge: that it keeps the order of places and valid places, that the paths go with it, and that each member
-- after it comes from one before it.
use Rattle.std.specs.Prelude.{◌≡◌, ℕ, ⊤}
use Rattle.place_flow.specs.Covering.{edge_read}
use Rattle.place_flow.specs.HtmlCovering.{html_language}
use Rattle.place_core.specs.place.Membership.{Bears, IsIn}
use Rattle.place_core.specs.place.Places.{Below, Has, IsValid}
use Rattle.place_core.specs.page.States.{LexState}
use Rattle.place_core.specs.page.Tags.{ValueState}
use Rattle.place_core.specs.declared.member.Member.{Member}
use Rattle.place_core.specs.declared.place.Place.{Place}
use Rattle.tpl_paths.specs.Edges.{Edge}
use Rattle.tpl_tree.specs.Forests.{ForestData}
use Rattle.place_flow.specs.Transfer.{step_of}
use Rattle.place_flow.specs.declared.step.EdgeStep.{EdgeStep}
use Rattle.place_flow.specs.declared.step.EdgeStep.TheVariants.{Reaches, Enters, Refused}

abbrev pub StepBelow : EdgeStep → EdgeStep → Type 0
StepBelow s Refused = ⊤
StepBelow (Reaches p) (Reaches q) = Below p q
StepBelow (Reaches p) (Enters d q) = ⊥
StepBelow (Enters c p) (Reaches q) = ⊥
StepBelow (Enters c p) (Enters d q) = (c ≡ d) × Below p q
StepBelow Refused (Reaches q) = ⊥
StepBelow Refused (Enters d q) = ⊥

-- from a place below, an edge leads below, and it is refused only where it is refused from the place above
abbrev pub StepKeepsOrder : Type 0
StepKeepsOrder = (forest : ForestData) (t : ℕ) (e : Edge) (p q : Place) → IsValid p → IsValid q → Below p q → StepBelow (step_of forest t e p) (step_of forest t e q)

abbrev pub IsValidStep : EdgeStep → Type 0
IsValidStep (Reaches q) = IsValid q
IsValidStep (Enters c q) = IsValid q
IsValidStep Refused = ⊤

abbrev pub StepKeepsValid : Type 0
StepKeepsValid = (forest : ForestData) (t : ℕ) (e : Edge) (p : Place) → IsValid p → IsValidStep (step_of forest t e p)

-- a member after a step comes from one before it, on whatever path bears that one; and the place after the step stands for the path's state
pub record IsStepOrigin (e : Edge) (p q : Place) (y x : Member) : Type 0 where
  pub has : Has p x
  pub bears : (s : LexState ValueState) → IsIn p s → Bears s x → Bears (edge_read html_language e s) y
  pub is_in : (s : LexState ValueState) → IsIn p s → IsIn q (edge_read html_language e s)

abbrev pub StepCovers : EdgeStep → Edge → Place → Type 0
StepCovers (Reaches q) e p = (y : Member) → Has q y → (x : Member) × IsStepOrigin e p q y x
StepCovers (Enters c q) e p = q ≡ p
StepCovers Refused e p = ⊤

abbrev pub EachStepCovers : Type 0
EachStepCovers = (forest : ForestData) (t : ℕ) (e : Edge) (p : Place) → IsValid p → StepCovers (step_of forest t e p) e p
