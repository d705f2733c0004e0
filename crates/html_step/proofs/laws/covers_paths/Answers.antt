use Rattle.html_step.proofs.WholeTexts.{covers-text}
use Rattle.html_step.proofs.laws.covers_paths.Goals as goal

pub returns : goal.returns
returns c = covers-text
