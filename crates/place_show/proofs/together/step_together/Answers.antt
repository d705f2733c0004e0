use Rattle.place_show.proofs.EdgesTogether.{edge-both}
use Rattle.place_show.proofs.together.step_together.Goals as goal

pub returns-then-branch : goal.returns-then-branch
returns-then-branch c =
    edge-both c.args.apart c.args.flows.now c.args.number c.args.one.now c.args.other.now c.both_along.new.one c.both_along.new.other c.in-Some.found c.in_ok-both_along.field-0
    c.if-branch.true c.in_ok-both_along.ensures c.in-Some.ensures
