use Rattle.html_step.proofs.OneTexts.{one-before}
use Rattle.html_step.proofs.laws.one_path_before.Goals as goal

pub returns : goal.returns
returns c = one-before
