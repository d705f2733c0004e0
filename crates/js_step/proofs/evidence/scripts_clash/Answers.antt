use Rattle.js_step.proofs.ScriptClash.{scripts-clash}
use Rattle.js_step.proofs.evidence.scripts_clash.Goals as goal

pub returns : goal.returns
returns c = scripts-clash
