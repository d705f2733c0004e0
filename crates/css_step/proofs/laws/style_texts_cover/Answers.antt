use Rattle.css_step.proofs.StyleTextCovering.{style-texts-cover}
use Rattle.css_step.proofs.laws.style_texts_cover.Goals as goal

pub returns : goal.returns
returns c = style-texts-cover
