use Rattle.js_step.proofs.ScriptMembers.{scripts-come-from}
use Rattle.js_step.proofs.order.scripts_come_from.Goals as goal

pub returns : goal.returns
returns c = scripts-come-from
