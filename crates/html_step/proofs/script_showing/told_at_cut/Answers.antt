use Rattle.std.proofs.Common.{option_map, length}
use Rattle.js_step.specs.ScriptScanViews.{script_scan_at}
use Rattle.html_scan.specs.ScanViews.{open_reference_at}
use Rattle.html_step.specs.OriginViews.{evidence_at}
use Rattle.html_step.proofs.ScriptShowing.{told-cut}
use Rattle.html_step.proofs.script_showing.told_at_cut.Goals as goal

pub returns : goal.returns
returns c =
    let text = c.args.text.now in
    told-cut (script_scan_at c.args.script) (script_scan_at c.script_at_cut.result) (open_reference_at text (length text) c.args.reference)
    (option_map evidence_at c.of_open-shown.result) (option_map evidence_at c.of_cut-end.result) (option_map evidence_at c.first_shown.result)
    c.first_shown.ensures c.of_open-shown.ensures c.script_at_cut.ensures c.of_cut-end.ensures
