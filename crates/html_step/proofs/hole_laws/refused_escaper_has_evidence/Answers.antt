use Rattle.html_step.proofs.EscapeOrder.{evidence-escape}
use Rattle.html_step.proofs.hole_laws.refused_escaper_has_evidence.Goals as goal

pub returns : goal.returns
returns c = evidence-escape
