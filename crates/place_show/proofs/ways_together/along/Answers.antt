use Rattle.std.proofs.Common.{◌∙◌, sym}
use Rattle.place_show.proofs.ways_together.along.Goals as goal

pub returns-in-Reaches : goal.returns-in-Reaches
returns-in-Reaches c = λ up within e at from end ways is. c.reached.ensures up e at from end (c.in-Some.ensures e at) (sym (c.transfer.ensures e at) ∙ c.in-Reaches.is) is

pub returns-in-Enters : goal.returns-in-Enters
returns-in-Enters c = λ up within e at from end ways is.
    c.entered.ensures up within e at from end (c.in-Some.ensures e at) (sym (c.transfer.ensures e at) ∙ c.in-Enters.is) ways is
