use Rattle.css_step.proofs.StyleGrowth.{styles-grow}
use Rattle.css_step.proofs.laws.styles_grow.Goals as goal

pub returns : goal.returns
returns c = styles-grow
