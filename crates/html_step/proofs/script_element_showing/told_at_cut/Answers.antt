use Rattle.std.proofs.Common.{◌∙◌, ap, length, option_map, sym}
use Rattle.js_step.specs.ScriptScans.{script_scan_cut_error}
use Rattle.js_step.specs.ScriptScanViews.{script_scan_at}
use Rattle.place_core.specs.page.Contents.{pending_bytes}
use Rattle.html_scan.specs.ScanViews.{script_pending_at}
use Rattle.html_step.specs.OriginViews.{evidence_at}
use Rattle.html_step.proofs.ScriptElementShowing.{none-told, some-told}
use Rattle.html_step.proofs.script_element_showing.told_at_cut.Goals as goal

pub returns-in-Some : goal.returns-in-Some
returns-in-Some c =
    let text = c.args.text.now in
    some-told script_scan_cut_error (pending_bytes (script_pending_at text (length text) c.args.pending)) (script_scan_at c.args.script)
    (evidence_at c.in-Some.shown) (sym (ap (option_map evidence_at) c.in-Some.is) ∙ c.of_pending.ensures)

pub returns-in-None : goal.returns-in-None
returns-in-None c =
    let text = c.args.text.now in
    none-told script_scan_cut_error (pending_bytes (script_pending_at text (length text) c.args.pending)) (script_scan_at c.args.script)
    (script_scan_at c.behind_pending.result) (option_map evidence_at c.of_cut.result) (sym (ap (option_map evidence_at) c.in-None.is) ∙ c.of_pending.ensures)
    c.behind_pending.ensures.fed c.of_cut.ensures
