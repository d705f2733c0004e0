use Rattle.std.proofs.Common.{◌∙◌}
use Rattle.js_step.specs.ScriptScanViews.{script_scan_at}
use Rattle.html_scan.specs.ClassViews.{class_at}
use Rattle.html_scan.specs.ScanViews.{open_form_at}
use Rattle.html_scan.proofs.ScriptErrors.{breaks_behind, breaks_found, closes_first}
use Rattle.html_scan.proofs.script_refusals.in_reference.Goals as goal

pub returns-in-Closes : goal.returns-in-Closes
returns-in-Closes c = λ k.
    (rw c.meaning.ensures at c.of_char.ensures)
    ∙ closes_first k (script_scan_at c.args.script) (open_form_at c.args.form) c.args.read.now (class_at c.args.class) c.args.byte (rw c.in-Closes.is at c.turn.ensures)

pub returns-in-Some : goal.returns-in-Some
returns-in-Some c = λ k.
    breaks_found k (script_scan_at c.args.script) (open_form_at c.args.form) c.args.read.now (class_at c.args.class) c.args.byte c.in-Some.refused
    (rw c.in-Breaks.is at c.turn.ensures) (rw c.is_equals-equals.ensures at c.in-Some.ensures)

pub returns-in-None : goal.returns-in-None
returns-in-None c = λ k.
    breaks_behind k (script_scan_at c.args.script) (open_form_at c.args.form) c.args.read.now (class_at c.args.class) c.args.byte c.of_plain_byte.result
    (rw c.in-Breaks.is at c.turn.ensures) (rw c.is_equals-equals.ensures at c.in-None.ensures)
    (rw (c.broken-behind.ensures.fed, c.broken_count.ensures.count, c.is_equals-equals.ensures) at c.of_plain_byte.ensures)
