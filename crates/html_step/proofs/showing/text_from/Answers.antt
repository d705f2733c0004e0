use Rattle.std.proofs.Common.{ap, sym, subst, ◌∙◌, List, ℕ}
use Rattle.html_scan.specs.Scans.{At}
use Rattle.html_step.specs.Laws.{IsOrigin}
use Rattle.html_step.specs.Origins.{origin}
use Rattle.html_step.proofs.FromTexts.{from-text-at}
use Rattle.html_step.proofs.showing.text_from.Goals as goal

pub returns : goal.returns
returns c =
    subst (IsOrigin c.args.text.now c.args.place c.args.member)
    (sym (c.origin.ensures ∙ ap (λ (xs : List ℕ). origin xs (At c.args.place) c.args.member) c.as_bytes.ensures.value))
    (from-text-at c.args.text.now c.args.place c.requires.accepted.0 c.args.member c.requires.valid c.requires.accepted.1 c.requires.accepted.2)
