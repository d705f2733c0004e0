use Rattle.css_step.proofs.StyleParts.{styles-stay-valid}
use Rattle.css_step.proofs.laws.styles_stay_valid.Goals as goal

pub returns : goal.returns
returns c = styles-stay-valid
