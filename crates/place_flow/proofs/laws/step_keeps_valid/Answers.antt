use Rattle.place_flow.proofs.StepLaws.{step-keeps-valid}
use Rattle.place_flow.proofs.laws.step_keeps_valid.Goals as goal

pub returns : goal.returns
returns c = step-keeps-valid
