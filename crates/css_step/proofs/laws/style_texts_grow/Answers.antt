use Rattle.css_step.proofs.StyleTextGrowth.{style-texts-grow}
use Rattle.css_step.proofs.laws.style_texts_grow.Goals as goal

pub returns : goal.returns
returns c = style-texts-grow
