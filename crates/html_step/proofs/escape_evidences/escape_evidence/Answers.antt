use Rattle.std.proofs.Common.{sym, subst}
use Rattle.html_step.specs.HoleLaws.{IsEscapeEvidence}
use Rattle.html_step.proofs.EscapeOrder.{escape-evidence}
use Rattle.html_step.proofs.escape_evidences.escape_evidence.Goals as goal

pub returns : goal.returns
returns c = λ h. subst (IsEscapeEvidence c.args.place c.args.escaper) (sym c.evidence.ensures) (escape-evidence c.args.escaper c.args.place c.requires.valid h)
