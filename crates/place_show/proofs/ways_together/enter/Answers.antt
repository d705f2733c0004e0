use Rattle.std.proofs.Common.{All, sym, subst}
use Rattle.std.proofs.lemmas.List.Elements.{All-push}
use Rattle.place_show.specs.WaysTogether.{IsGoingTogether}
use Rattle.place_show.proofs.ways_together.enter.Goals as goal

pub returns : goal.returns
returns c = λ is callers. (
  subst (All (IsGoingTogether c.args.flows.now)) (sym c.in_ok-push.ensures.items) (All-push (IsGoingTogether c.args.flows.now) c.args.callers.now.items c.args.at callers is),
  c.begun.ensures c.args.flows.now,
)
