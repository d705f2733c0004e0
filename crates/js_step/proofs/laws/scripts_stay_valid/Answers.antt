use Rattle.js_step.proofs.ValidScripts.{scripts-stay-valid}
use Rattle.js_step.proofs.laws.scripts_stay_valid.Goals as goal

pub returns : goal.returns
returns c = scripts-stay-valid
