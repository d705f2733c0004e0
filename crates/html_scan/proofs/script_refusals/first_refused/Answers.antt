use Rattle.std.proofs.Common.{◌∙◌}
use Rattle.std.specs.Prelude.{get_or}
use Rattle.js_step.specs.ScriptScanViews.{script_scan_at}
use Rattle.html_scan.specs.ClassViews.{class_at}
use Rattle.html_scan.specs.ScanViews.{open_form_at}
use Rattle.html_scan.proofs.ScriptErrors.{ends_first}
use Rattle.html_scan.proofs.script_refusals.first_refused.Goals as goal

pub returns-then-stops-2 : goal.returns-then-stops-2
returns-then-stops-2 c =
    rw (c.if-stops-2.true, c.in-Some.is, ← c.pending-read.ensures.read)
    (c.of_broken.ensures
    ∙ ends_first c.args.index (script_scan_at c.args.script) (open_form_at c.in-Some.open.form) c.pending-read.result.now (class_at c.args.class)
    (get_or c.args.text.now c.args.index 0))
