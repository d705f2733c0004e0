use Rattle.html_step.proofs.EscapeOrder.{grows-escape}
use Rattle.html_step.proofs.hole_laws.escapers_keep_order.Goals as goal

pub returns : goal.returns
returns c = grows-escape
