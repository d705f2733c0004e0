use Rattle.place_flow.proofs.StepLaws.{step-keeps-order}
use Rattle.place_flow.proofs.laws.step_keeps_order.Goals as goal

pub returns : goal.returns
returns c = step-keeps-order
