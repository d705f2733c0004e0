use Rattle.std.proofs.Common.{◌∙◌}
use Rattle.js_step.specs.ScriptScanViews.{script_scan_at}
use Rattle.html_scan.proofs.ScriptElements.{less_asked}
use Rattle.html_scan.proofs.script_element_refusals.of_held.Goals as goal

pub returns-in-Less-clause-error : goal.returns-in-Less-clause-error
returns-in-Less-clause-error c text k = rw c.in-Less.is (c.of_byte.ensures.error ∙ less_asked (script_scan_at c.args.script))
