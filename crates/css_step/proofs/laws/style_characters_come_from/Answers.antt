use Rattle.css_step.proofs.StyleTextCovering.{style-characters-come-from}
use Rattle.css_step.proofs.laws.style_characters_come_from.Goals as goal

pub returns : goal.returns
returns c = style-characters-come-from
