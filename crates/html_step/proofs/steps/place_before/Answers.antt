use Rattle.std.proofs.Common.{ap, None, Option}
use Rattle.place_core.specs.declared.place.Place.{Place}
use Rattle.html_scan.specs.Scans.{At}
use Rattle.html_step.specs.Steps.{or_shown}
use Rattle.html_step.proofs.ShownTexts.{shown-within}
use Rattle.html_step.proofs.steps.place_before.Goals as goal

pub returns : goal.returns
returns c =
    rw (c.shown.ensures, c.min.ensures, c.as_bytes-text.ensures.value)
    (ap (λ (o : Option Place). or_shown o c.args.place) (shown-within c.args.at c.args.text.now (At c.args.place) None))
