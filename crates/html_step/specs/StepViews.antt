-- What the code answers for a text, without the place before what is refused.
use Rattle.std.specs.Prelude.{◌≡◌, ℕ, Option, Result, Ok, Err}
use Rattle.place_core.specs.place.Errors.{PathCause, PathRefusal}
use Rattle.place_core.specs.declared.place.Place.{Place}
use Rattle.html_step.specs.Steps.{unless_refused, unless_refused_in_script}
use Rattle.html_step.specs.declared.refusal.Refusal.{Refusal as ReadRefusal}

abbrev pub stepped_at : Result Place ReadRefusal → Result Place PathRefusal
stepped_at (Ok p) = Ok p
stepped_at (Err r) = Err (record { code = r.code; at = r.at; shown = r.shown })

-- Of what a script refuses at a byte and what else is refused there it is the first one: so whatever follows, the answer is the same.
abbrev pub StandsFirst : ℕ → Option PathCause → Option PathRefusal → Option PathCause → Type 0
StandsFirst k e x o = (r : Result Place PathRefusal) → unless_refused k e r ≡ unless_refused_in_script k x o r
