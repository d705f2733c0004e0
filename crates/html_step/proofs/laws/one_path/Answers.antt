use Rattle.html_step.proofs.OneTexts.{one-text}
use Rattle.html_step.proofs.laws.one_path.Goals as goal

pub returns : goal.returns
returns c = one-text
