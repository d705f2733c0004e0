use Rattle.css_step.proofs.ShownStyleHoles.{style-refusal-is-shown}
use Rattle.css_step.proofs.laws.style_refusal_is_shown.Goals as goal

pub returns : goal.returns
returns c = style-refusal-is-shown
