use Rattle.std.proofs.Common.{refl, sym}
use Rattle.place_core.proofs.Semilattices.{of_some}
use Rattle.place_show.proofs.LeadingTogether.{both-there}
use Rattle.place_show.specs.WaysTogether.{LeadsTogether}
use Rattle.place_trace.specs.Replays.{replay_data}
use Rattle.place_show.proofs.together.both_to.Goals as goal

pub returns-in-Some-clause-goes : goal.returns-in-Some-clause-goes
returns-in-Some-clause-goes c = λ ways.
    let w = c.args.one.now in
    let v = c.args.other.now in
    let leads =
    of_some (LeadsTogether c.args.flows.now w.template w.point w.place v.place c.args.to) c.in_ok-reached.reached c.in-Some.exit (c.in_ok-reached.ensures.reaches ways) c.in-Some.is in
    both-there c.args.flows.now (replay_data w) (replay_data v) _ _ c.args.to c.in-Some.exit c.if-one-other.false (c.if-not-same_point.ensures refl) leads refl refl
