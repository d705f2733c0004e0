use Rattle.js_step.proofs.ScriptGrowth.{scripts-grow}
use Rattle.js_step.proofs.order.scripts_grow.Goals as goal

pub returns : goal.returns
returns c = scripts-grow
