use Rattle.css_step.proofs.StyleTextValidity.{style-texts-stay-valid}
use Rattle.css_step.proofs.laws.style_texts_stay_valid.Goals as goal

pub returns : goal.returns
returns c = style-texts-stay-valid
