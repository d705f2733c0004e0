use Rattle.js_step.proofs.OneScriptPath.{exact-on-one-script}
use Rattle.js_step.proofs.laws.is_exact_on_one_script.Goals as goal

pub returns : goal.returns
returns c = exact-on-one-script
