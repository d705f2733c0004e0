use Rattle.std.proofs.Common.{sym, subst}
use Rattle.html_step.specs.HoleLaws.{IsHoleEvidence}
use Rattle.html_step.proofs.HoleShows.{evidence-hole-at}
use Rattle.html_step.proofs.hole_evidences.hole_evidence.Goals as goal

pub returns : goal.returns
returns c = λ e h. subst (IsHoleEvidence c.args.place e) (sym c.evidence.ensures) (evidence-hole-at c.args.place e c.requires.valid h)
