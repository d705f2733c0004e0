use Rattle.js_step.proofs.ValidScripts.{empty-texts-keep-scripts}
use Rattle.js_step.proofs.laws.empty_texts_keep_scripts.Goals as goal

pub returns : goal.returns
returns c = empty-texts-keep-scripts
