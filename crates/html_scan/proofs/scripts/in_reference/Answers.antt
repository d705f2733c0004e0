use Rattle.std.proofs.Common.{◌∙◌, ◌+◌}
use Rattle.js_step.specs.ScriptScanViews.{script_scan_at}
use Rattle.html_scan.specs.ClassViews.{class_at}
use Rattle.html_scan.specs.ScanViews.{open_form_at}
use Rattle.html_scan.proofs.ScriptsFed.{script_breaks, script_goes_on}
use Rattle.html_scan.proofs.scripts.in_reference.Goals as goal

pub returns-in-Grows-clause-scan : goal.returns-in-Grows-clause-scan
returns-in-Grows-clause-scan c = λ text inside here read.
    script_goes_on c.args.place (script_scan_at c.args.script) (open_form_at c.args.open.form) (open_form_at c.in-Grows.form) text c.args.read.now
    (c.args.open.from + 1) c.args.index c.args.byte (class_at c.args.class) c.requires.from inside here read (rw c.in-Grows.is at c.turn.ensures)

pub returns-in-Breaks-clause-scan : goal.returns-in-Breaks-clause-scan
returns-in-Breaks-clause-scan c = λ text inside here read.
    c.at_plain_byte.ensures.scan text inside
    ∙ script_breaks c.args.place (script_scan_at c.args.script) (script_scan_at c.broken-script.result) (open_form_at c.args.open.form) c.args.read.now
    (class_at c.args.class) c.args.byte c.is_equals.result (rw c.in-Breaks.is at c.turn.ensures) c.is_equals.ensures c.broken-script.ensures.fed
