use Rattle.std.proofs.Common.{◌∙◌, ap, sym, Some}
use Rattle.js_step.specs.ScriptScans.{script_scan_end_error}
use Rattle.js_step.specs.ScriptScanViews.{script_scan_at}
use Rattle.html_step.proofs.ScriptShowing.{cut-shown, cut-silent}
use Rattle.html_step.proofs.script_element_showing.of_end_tag.Goals as goal

pub returns-in-Some : goal.returns-in-Some
returns-in-Some c =
    let n = script_scan_at c.args.script in
    ap Some c.by_end.ensures ∙ cut-shown n (script_scan_end_error n) c.in-Some.cause (sym c.in-Some.is ∙ c.refused_at_end.ensures)

pub returns-in-None : goal.returns-in-None
returns-in-None c =
    let n = script_scan_at c.args.script in
    cut-silent n (script_scan_end_error n) (sym c.in-None.is ∙ c.refused_at_end.ensures)
