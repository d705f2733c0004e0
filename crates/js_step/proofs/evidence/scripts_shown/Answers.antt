use Rattle.js_step.proofs.ScriptEvidence.{scripts-shown}
use Rattle.js_step.proofs.evidence.scripts_shown.Goals as goal

pub returns : goal.returns
returns c = scripts-shown
