use Rattle.std.proofs.Common.{◌∙◌, Some, ap, inr, refl, sym}
use Rattle.place_show.proofs.TextsInBeginnings.{own-before}
use Rattle.html_step.specs.Steps.{after_text}
use Rattle.place_show.proofs.beginnings.shown_places.Goals as goal

pub returns-else-has_apart : goal.returns-else-has_apart
returns-else-has_apart c = λ s r own other takes other_takes.
    inr (
      λ h. (let t = c.if-has_apart.ensures.1 h in cc),
      c.in-None.ensures s r own other takes other_takes,
      own-before c.args.text.now c.args.one s own c.args.at (after_text c.args.text.now c.args.one) refl takes ∙ ap Some (sym c.place_before.ensures),
      own-before c.args.text.now c.args.other r other c.args.at (after_text c.args.text.now c.args.other) refl other_takes ∙ ap Some (sym c.place_before-in-None.ensures),
    )
