use Rattle.std.proofs.Common.{ap, sym, subst, ◌∙◌, List, ℕ}
use Rattle.html_scan.specs.Scans.{At}
use Rattle.html_step.specs.Laws.{IsEvidence}
use Rattle.html_step.specs.Origins.{shows}
use Rattle.html_step.proofs.TextEvidences.{evidence-text-at}
use Rattle.html_step.proofs.showing.text_evidence.Goals as goal

pub returns : goal.returns
returns c = λ e h.
    subst (IsEvidence c.args.text.now c.args.place e)
    (sym (c.evidence.ensures ∙ ap (λ (xs : List ℕ). shows xs (At c.args.place)) c.as_bytes.ensures.value))
    (evidence-text-at c.args.text.now c.args.place e c.requires.valid h)
