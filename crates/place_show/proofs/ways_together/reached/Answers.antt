use Rattle.std.proofs.Common.{◌∙◌, refl, sym, subst}
use Rattle.place_show.proofs.LeadingTogether.{together-along}
use Rattle.place_show.specs.WaysTogether.{IsGoingTogether}
use Rattle.place_show.specs.declared.ways_together.GoingTogether.{GoingTogether}
use Rattle.place_show.proofs.ways_together.reached.Goals as goal

pub returns-in-Reaches : goal.returns-in-Reaches
returns-in-Reaches c = λ up e at from end passed step is.
    subst (λ (s : GoingTogether). IsGoingTogether c.args.flows.now s) (sym c.gone.ensures)
    (together-along c.args.flows.now c.args.at.template c.args.number c.args.at.from c.args.at.one c.args.at.other c.args.at.point c.args.at.places e c.args.to c.args.found up at from end passed is
    c.args.place c.in-Reaches.other c.choice.result (c.choice.ensures e at) c.in-None.is step (sym (c.transfer.ensures e at) ∙ c.in-Reaches.is))
