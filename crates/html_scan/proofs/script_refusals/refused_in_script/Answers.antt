use Rattle.std.proofs.Common.{◌≤◌, ◌∙◌, arith}
use Rattle.std.specs.Prelude.{get_or}
use Rattle.js_step.specs.ScriptScanViews.{script_scan_at}
use Rattle.html_scan.specs.ClassViews.{class_at}
use Rattle.html_scan.specs.ScanViews.{open_reference_at, reference_from, script_count}
use Rattle.html_scan.proofs.ScriptErrors.{from_pending, has_read, quoted_located}
use Rattle.html_scan.proofs.script_refusals.refused_in_script.Goals as goal

pub returns-in-None-clause-error : goal.returns-in-None-clause-error
returns-in-None-clause-error c =
    let index = c.args.index in
    let read = c.read_between-open.ensures.read c.args.text.now index in
    let pending = from_pending (script_count c.args.script) index c.args.reference c.requires.pending in
    let from : reference_from c.read_between-open.result ≤ index = omega (arith, pending, c.read_between-open.ensures.from) in
    (rw (c.first_refused-refused.ensures, c.fed_by-run.ensures.fed, c.stops-stops.ensures, read) at c.located.ensures.error)
    ∙ quoted_located index c.args.quotes (script_scan_at c.args.script) (open_reference_at c.args.text.now index c.args.reference) (class_at c.args.class)
    (get_or c.args.text.now index 0) (rw read at (has_read c.args.text.now index c.read_between-open.result from (omega (arith, c.requires.inside))))
    (rw (c.stops-stops.ensures, read) at c.in-None.ensures.error)
