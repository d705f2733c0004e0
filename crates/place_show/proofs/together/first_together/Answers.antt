use Rattle.std.proofs.Common.{false}
use Rattle.place_show.proofs.GoingTogether.{first-on}
use Rattle.place_show.proofs.Mapped.{if-shown}
use Rattle.place_show.specs.Together.{GoOnTogether, StepTogether}
use Rattle.place_show.proofs.together.first_together.Goals as goal

pub returns-in-Along : goal.returns-in-Along
returns-in-Along c =
    let forest = c.args.flows.now in
    let w = c.args.one.now in
    let v = c.args.other.now in
    let w1 = c.step_together.new.one in
    let v1 = c.step_together.new.other in
    if-shown (StepTogether false forest w v w1 v1) (GoOnTogether forest w v w1 v1) c.step_together.result (λ found h. first-on forest w v w1 v1 found h) c.step_together.ensures
