use Rattle.std.specs.Prelude.{get_or}
use Rattle.js_step.specs.ScriptScanViews.{script_scan_at}
use Rattle.html_scan.specs.ClassViews.{class_at}
use Rattle.html_scan.specs.ScanViews.{script_pending_at}
use Rattle.html_scan.proofs.ScriptElements.{element_reads}
use Rattle.html_scan.proofs.script_elements.in_element.Goals as goal

pub returns-in-Reads-clause-scan : goal.returns-in-Reads-clause-scan
returns-in-Reads-clause-scan c =
    element_reads (script_scan_at c.args.script) (script_scan_at c.behind_byte.result) c.may_end.result
    (script_pending_at c.args.text.now c.args.index c.args.back) (class_at c.args.class) (get_or c.args.text.now c.args.index 0) c.may_end.ensures
    c.in-Reads.ensures.step c.behind_byte.ensures.fed
