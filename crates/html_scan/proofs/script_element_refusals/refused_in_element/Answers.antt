use Rattle.std.proofs.Common.{◌∙◌, ◌+◌, ◌≤◌, length, arith}
use Rattle.std.specs.Prelude.{get_or}
use Rattle.js_step.specs.ScriptScanViews.{script_scan_at}
use Rattle.html_scan.specs.ClassViews.{class_at}
use Rattle.html_scan.specs.ScanViews.{script_pending_at}
use Rattle.html_scan.proofs.ScriptElements.{end_refused, step_refused}
use Rattle.html_scan.proofs.script_element_refusals.refused_in_element.Goals as goal

pub returns-in-Holds-clause-error : goal.returns-in-Holds-clause-error
returns-in-Holds-clause-error c =
    c.of_held.ensures.error c.args.text.now (c.args.index + 1)
    ∙ step_refused (script_scan_at c.args.script) c.may_end.result (script_pending_at c.args.text.now c.args.index c.args.back) (class_at c.args.class)
    (get_or c.args.text.now c.args.index 0) _ c.may_end.ensures c.in-Holds.ensures.step

pub returns-in-Ends-clause-error : goal.returns-in-Ends-clause-error
returns-in-Ends-clause-error c =
    let inside : c.in-Ends.letters ≤ c.args.index = omega (arith, c.in-Ends.ensures.length, c.requires.pending) in
    let within : c.args.index ≤ length c.args.text.now = omega (arith, c.requires.inside) in
    c.at_end_tag.ensures.error
    ∙ end_refused (script_scan_at c.args.script) c.args.text.now c.in-Ends.letters c.args.index inside within
    ∙ step_refused (script_scan_at c.args.script) c.may_end.result (script_pending_at c.args.text.now c.args.index c.args.back) (class_at c.args.class)
    (get_or c.args.text.now c.args.index 0) _ c.may_end.ensures c.in-Ends.ensures.step
