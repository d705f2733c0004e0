use Rattle.std.proofs.Common.{◌∙◌, ap, sym, Some}
use Rattle.js_step.specs.ScriptScans.{script_scan_cut_error}
use Rattle.js_step.specs.ScriptScanViews.{script_scan_at}
use Rattle.html_step.proofs.ScriptShowing.{cut-shown, cut-silent}
use Rattle.html_step.proofs.script_showing.of_cut.Goals as goal

pub returns-in-Some : goal.returns-in-Some
returns-in-Some c =
    ap Some c.by_end.ensures
    ∙ cut-shown (script_scan_at c.args.script) (script_scan_cut_error (script_scan_at c.args.script)) c.in-Some.cause (sym c.in-Some.is ∙ c.refused_at_cut.ensures)

pub returns-in-None : goal.returns-in-None
returns-in-None c = cut-silent (script_scan_at c.args.script) (script_scan_cut_error (script_scan_at c.args.script)) (sym c.in-None.is ∙ c.refused_at_cut.ensures)
