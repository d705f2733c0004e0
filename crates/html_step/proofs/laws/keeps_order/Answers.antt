use Rattle.html_step.proofs.WholeTexts.{grows-text}
use Rattle.html_step.proofs.laws.keeps_order.Goals as goal

pub returns : goal.returns
returns c = grows-text
