use Rattle.js_step.proofs.OneScriptText.{is-exact-on-one-script-text}
use Rattle.js_step.proofs.laws.is_exact_on_one_script_text.Goals as goal

pub returns : goal.returns
returns c = is-exact-on-one-script-text
