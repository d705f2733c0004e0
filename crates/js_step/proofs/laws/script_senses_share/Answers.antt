use Rattle.js_step.proofs.SharedStates.{script-senses-share}
use Rattle.js_step.proofs.laws.script_senses_share.Goals as goal

pub returns : goal.returns
returns c = script-senses-share
