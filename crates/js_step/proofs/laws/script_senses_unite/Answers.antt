use Rattle.js_step.proofs.UnitedSenses.{script-senses-unite}
use Rattle.js_step.proofs.laws.script_senses_unite.Goals as goal

pub returns : goal.returns
returns c = script-senses-unite
