use Rattle.css_step.proofs.StyleGrowth.{covers-styles}
use Rattle.css_step.proofs.laws.covers_styles.Goals as goal

pub returns : goal.returns
returns c = covers-styles
