use Rattle.css_step.proofs.StyleTexts.{style-texts-come-from}
use Rattle.css_step.proofs.laws.style_texts_come_from.Goals as goal

pub returns : goal.returns
returns c = style-texts-come-from
