use Rattle.place_flow.proofs.StepLaws.{step-covers}
use Rattle.place_flow.proofs.laws.step_covers.Goals as goal

pub returns : goal.returns
returns c = step-covers
