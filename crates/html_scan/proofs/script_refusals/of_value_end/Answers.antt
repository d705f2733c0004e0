use Rattle.std.proofs.Common.{◌≡◌, true, ◌∙◌, sym, ap}
use Rattle.std.specs.Prelude.{get_or, option_map}
use Rattle.js_step.specs.ScriptScans.{ScriptScan, script_scan_end_error}
use Rattle.js_step.specs.ScriptScanViews.{script_cause_at, script_scan_at}
use Rattle.html_scan.specs.ClassViews.{class_at}
use Rattle.html_scan.specs.ScanViews.{open_form_at}
use Rattle.html_scan.specs.Scans.{ends_quoted}
use Rattle.html_scan.proofs.ScriptEnds.{ended_open}
use Rattle.html_scan.proofs.script_refusals.of_value_end.Goals as goal

pub returns-in-Some : goal.returns-in-Some
returns-in-Some c =
    let ends : ends_quoted c.args.quotes (class_at c.args.class) ≡ true = sym c.ends_between.ensures ∙ c.if-not-ends_between.false in
    rw (ends, c.in-Some.is, ← c.pending-read.ensures.read)
    (c.refused_at_end-in-Some.ensures
    ∙ ap (λ (s : ScriptScan). option_map script_cause_at (script_scan_end_error s))
    (c.broken.ensures.fed
    ∙ ended_open c.args.quotes c.args.index (script_scan_at c.args.script) (open_form_at c.in-Some.open.form) c.pending-read.result.now (class_at c.args.class)
    (get_or c.args.text.now c.args.index 0) ends))
