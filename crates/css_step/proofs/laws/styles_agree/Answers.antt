use Rattle.css_step.proofs.StyleParts.{styles-agree}
use Rattle.css_step.proofs.laws.styles_agree.Goals as goal

pub returns : goal.returns
returns c = styles-agree
