use Rattle.js_step.proofs.TailsGrowth.{script-tails-grow}
use Rattle.js_step.proofs.laws.script_tails_grow.Goals as goal

pub returns : goal.returns
returns c = script-tails-grow
