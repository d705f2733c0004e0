use Rattle.css_step.proofs.StyleGrowth.{empty-texts-keep-styles}
use Rattle.css_step.proofs.laws.empty_texts_keep_styles.Goals as goal

pub returns : goal.returns
returns c = empty-texts-keep-styles
