use Rattle.std.proofs.Common.{◌∙◌, ap, sym, Some}
use Rattle.js_step.specs.ScriptScans.{script_scan_end_error}
use Rattle.js_step.specs.ScriptScanViews.{script_scan_at}
use Rattle.html_step.proofs.ScriptShowing.{end-shown}
use Rattle.html_step.proofs.script_showing.of_end.Goals as goal

pub returns-in-Some : goal.returns-in-Some
returns-in-Some c =
    rw c.if-not-ends.false (ap Some c.by_end.ensures
    ∙ end-shown (script_scan_at c.args.script) (script_scan_end_error (script_scan_at c.args.script)) c.in-Some.cause (sym c.in-Some.is ∙ c.refused_at_end.ensures)
    (sym c.is_told_at_node_end.ensures ∙ c.if-not-is_told_at_node_end.true))
