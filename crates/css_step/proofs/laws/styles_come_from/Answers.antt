use Rattle.css_step.proofs.StyleComesFrom.{styles-come-from}
use Rattle.css_step.proofs.laws.styles_come_from.Goals as goal

pub returns : goal.returns
returns c = styles-come-from
