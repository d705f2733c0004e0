use Rattle.std.proofs.Common.{true}
use Rattle.place_show.proofs.GoingBoth.{both-step}
use Rattle.place_show.proofs.Mapped.{if-shown}
use Rattle.place_show.specs.Together.{GoBoth, StepTogether}
use Rattle.place_trace.specs.Replays.{replay_data}
use Rattle.place_show.proofs.together.take_together.Goals as goal

pub returns-in-Along-clause-goes : goal.returns-in-Along-clause-goes
returns-in-Along-clause-goes c = λ ways.
    let forest = c.args.flows.now in
    let w = c.args.one.now in
    let v = c.args.other.now in
    let w1 = c.step_together.new.one in
    let v1 = c.step_together.new.other in
    if-shown (StepTogether true forest w v w1 v1) (GoBoth forest (replay_data w) (replay_data v) (replay_data w1) (replay_data v1)) c.step_together.result
    (λ found h. both-step forest w v w1 v1 found h) c.step_together.ensures
