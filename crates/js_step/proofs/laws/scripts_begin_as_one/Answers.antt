use Rattle.js_step.proofs.FirstCharacter.{scripts-begin-as-one}
use Rattle.js_step.proofs.laws.scripts_begin_as_one.Goals as goal

pub returns : goal.returns
returns c = scripts-begin-as-one
