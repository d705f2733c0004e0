use Rattle.std.proofs.Common.{◌∙◌, ap, option_map, sym}
use Rattle.js_step.specs.ScriptScanViews.{script_scan_at}
use Rattle.html_scan.specs.ClassViews.{class_at}
use Rattle.html_scan.specs.ScanViews.{open_form_at, outcome_at}
use Rattle.html_step.proofs.ScriptShowing.{script-breaks-shown, script-closes-shown}
use Rattle.html_step.specs.OriginViews.{evidence_at}
use Rattle.html_step.proofs.script_showing.in_reference.Goals as goal

pub returns-in-Breaks : goal.returns-in-Breaks
returns-in-Breaks c =
    c.first_shown.ensures
    ∙ script-breaks-shown (option_map evidence_at c.of_broken-shown.result) (option_map evidence_at c.of_plain_byte-later.result) (script_scan_at c.args.script) (script_scan_at c.broken-fed.result)
    (open_form_at c.args.form) c.args.read.now (class_at c.args.class) c.args.byte c.is_equals-equals.result
    (sym c.turn.ensures ∙ ap outcome_at c.in-Breaks.is) c.is_equals-equals.ensures c.broken-fed.ensures.fed c.of_broken-shown.ensures c.of_plain_byte-later.ensures

pub returns-in-Closes : goal.returns-in-Closes
returns-in-Closes c =
    c.of_char.ensures
    ∙ script-closes-shown (script_scan_at c.args.script) (open_form_at c.args.form) c.args.read.now (class_at c.args.class) c.args.byte c.meaning.result
    (sym c.turn.ensures ∙ ap outcome_at c.in-Closes.is) c.meaning.ensures
