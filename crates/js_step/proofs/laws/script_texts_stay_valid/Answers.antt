use Rattle.js_step.proofs.ScriptTextValidity.{script-texts-stay-valid}
use Rattle.js_step.proofs.laws.script_texts_stay_valid.Goals as goal

pub returns : goal.returns
returns c = script-texts-stay-valid
