use Rattle.html_step.proofs.AcceptedTexts.{accepts-text}
use Rattle.html_step.proofs.laws.accepts_all_paths.Goals as goal

pub returns : goal.returns
returns c = accepts-text
