use Rattle.html_step.proofs.WholeTexts.{valid-text}
use Rattle.html_step.proofs.laws.keeps_valid.Goals as goal

pub returns : goal.returns
returns c = valid-text
