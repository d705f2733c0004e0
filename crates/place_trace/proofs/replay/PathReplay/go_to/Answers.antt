use Rattle.std.proofs.Common.{IfSome, Option, subst}
use Rattle.place_core.specs.declared.place.Place.{Place}
use Rattle.place_trace.specs.UnchosenWays.{LeadsUnchosen}
use Rattle.place_trace.proofs.replay.PathReplay.go_to.Goals as goal

pub returns-in-Some-clause-path : goal.returns-in-Some-clause-path
returns-in-Some-clause-path c = λ ways is.
    let w = c.args.self.now in
    let leads = subst (λ (o : Option Place). IfSome o (LeadsUnchosen c.args.flows.now w.template w.point w.place c.args.to)) c.in-Some.is (c.in_ok-exit.ensures.reaches ways) in
    leads.goes w.root w.open_calls.items w.chosen.items is
