use Rattle.html_step.proofs.TextEvidences.{evidence-text}
use Rattle.html_step.proofs.laws.refusal_has_evidence.Goals as goal

pub returns : goal.returns
returns c = evidence-text
