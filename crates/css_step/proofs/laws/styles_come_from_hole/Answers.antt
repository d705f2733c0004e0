use Rattle.css_step.proofs.StyleHolePaths.{styles-come-from-hole}
use Rattle.css_step.proofs.laws.styles_come_from_hole.Goals as goal

pub returns : goal.returns
returns c = styles-come-from-hole
