use Rattle.std.proofs.Common.{◌∙◌, length, sym, arith}
use Rattle.js_step.specs.ScriptScanViews.{script_scan_at}
use Rattle.html_scan.specs.ScanViews.{open_reference_at, script_count}
use Rattle.html_scan.proofs.ScriptErrors.{cut_located, from_pending, stands_within}
use Rattle.html_scan.proofs.script_refusals.of_open_in_script.Goals as goal

pub returns-clause-error : goal.returns-clause-error
returns-clause-error c =
    let k = length c.args.text.now in
    let from = from_pending (script_count c.args.script) k c.args.reference c.requires.pending in
    (rw (c.cut_run-run.ensures.fed, c.of_open.ensures) at c.located.ensures.error)
    ∙ sym (cut_located k (script_scan_at c.args.script) (open_reference_at c.args.text.now k c.args.reference) (stands_within c.args.text.now k c.args.reference from (omega arith)))
