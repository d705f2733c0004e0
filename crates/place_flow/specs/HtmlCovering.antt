-- The language of HTML: the states of paths, and the places that stand for them.
use Rattle.std.specs.Prelude.{Option, Some, None, Result, Ok, Err}
use Rattle.place_core.specs.place.Errors.{node}
use Rattle.place_core.specs.place.Membership.{IsIn}
use Rattle.place_core.specs.page.Paths.{at_hole}
use Rattle.place_core.specs.place.Places.{Below, IsValid}
use Rattle.place_core.specs.page.States.{LexState}
use Rattle.place_core.specs.page.Tags.{ValueState, languages}
use Rattle.place_core.specs.declared.place.Place.{Place}
use Rattle.place_core.specs.declared.step_err.StepErr.{StepErr}
use Rattle.html_step.specs.Holes.{Holed, after_hole}
use Rattle.html_step.specs.Steps.{after_text}
use Rattle.place_flow.specs.Covering.{ChartCovers, Language}

-- the place after a text, or a hole, that is accepted
abbrev pub behind_text : Result Place (StepErr Place) → Option Place
behind_text (Ok q) = Some q
behind_text (Err e) = None

abbrev pub behind_hole : Holed → Option Place
behind_hole (Ok h) = Some h.0
behind_hole (Err e) = None

-- what a hole evaluates does not matter to its place
abbrev pub html_language : Language (LexState ValueState) Place
html_language = record {
  text = λ bytes s. node bytes s;
  hole = λ pipe s. at_hole languages s;
  text_place = λ bytes p. behind_text (after_text bytes p);
  hole_place = λ pipe p. behind_hole (after_hole p);
  IsIn = λ p s. IsValid p × IsIn p s;
  Below = λ p q. IsValid q × Below p q;
}

abbrev pub HtmlChartCovers : Type 0
HtmlChartCovers = ChartCovers html_language
