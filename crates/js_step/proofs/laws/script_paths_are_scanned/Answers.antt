use Rattle.js_step.proofs.ScriptPaths.{script-paths-are-scanned}
use Rattle.js_step.proofs.laws.script_paths_are_scanned.Goals as goal

pub returns : goal.returns
returns c = script-paths-are-scanned
