use Rattle.std.proofs.Common.{All, sym, subst}
use Rattle.std.proofs.lemmas.List.Elements.{All-push}
use Rattle.place_trace.specs.UnchosenWays.{IsGoingUnchosen}
use Rattle.place_trace.proofs.unchosen_ways.enter.Goals as goal

pub returns : goal.returns
returns c = λ is callers. (
  subst (All (IsGoingUnchosen c.args.flows.now)) (sym c.in_ok-push.ensures.items) (All-push (IsGoingUnchosen c.args.flows.now) c.args.callers.now.items c.args.at callers is),
  c.begun.ensures c.args.flows.now,
)
