use Rattle.std.proofs.Common.{◌∙◌, length}
use Rattle.js_step.specs.ScriptScanViews.{script_scan_at}
use Rattle.html_scan.specs.ScanViews.{script_pending_at}
use Rattle.html_scan.proofs.ScriptElements.{cut_refused}
use Rattle.html_scan.proofs.script_element_refusals.refused_at_cut.Goals as goal

pub returns-in-None-clause-error : goal.returns-in-None-clause-error
returns-in-None-clause-error c =
    c.at_cut.ensures.error
    ∙ cut_refused (script_scan_at c.args.script) (script_scan_at c.behind_pending.result)
    (script_pending_at c.args.text.now (length c.args.text.now) c.args.back) c.in-None.ensures.error c.behind_pending.ensures.fed
