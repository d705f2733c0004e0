use Rattle.std.proofs.Common.{◌∙◌, Option, Some, None, ap, option_map, sym}
use Rattle.js_lexer.specs.Refusals.{Cause}
use Rattle.js_step.specs.ScriptEvidence.{script_evidence_at, script_shown_by, script_split_shows}
use Rattle.js_step.specs.ScriptScans.{script_scan_error}
use Rattle.js_step.specs.ScriptScanViews.{script_scan_at}
use Rattle.place_core.specs.declared.member.Member.{Member}
use Rattle.html_step.proofs.ScriptShowing.{byte-shown}
use Rattle.html_step.proofs.script_showing.of_byte.Goals as goal

pub returns-in-Some : goal.returns-in-Some
returns-in-Some c =
    let n = script_scan_at c.args.script in
    let shows : Cause → Option Member = λ e. script_shown_by n (script_split_shows n c.args.byte) e.refusal in
    ap Some c.of_shown.ensures
    ∙ byte-shown shows (script_scan_error c.args.element n c.args.byte) (Some (script_evidence_at c.in-Some.shown))
    (sym (ap (option_map script_evidence_at) c.in-Some.is) ∙ c.shown_at_byte.ensures)

pub returns-in-None : goal.returns-in-None
returns-in-None c =
    let n = script_scan_at c.args.script in
    let shows : Cause → Option Member = λ e. script_shown_by n (script_split_shows n c.args.byte) e.refusal in
    byte-shown shows (script_scan_error c.args.element n c.args.byte) None (sym (ap (option_map script_evidence_at) c.in-None.is) ∙ c.shown_at_byte.ensures)
