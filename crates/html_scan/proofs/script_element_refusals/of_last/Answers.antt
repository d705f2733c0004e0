use Rattle.std.proofs.Common.{◌∙◌}
use Rattle.js_step.specs.ScriptScanViews.{script_scan_at}
use Rattle.place_core.specs.page.Contents.{pending_bytes}
use Rattle.html_scan.specs.ScanViews.{script_pending_at}
use Rattle.html_scan.proofs.ScriptElements.{byte_alone, read_before, read_last}
use Rattle.html_scan.proofs.script_element_refusals.of_last.Goals as goal

pub returns-in-Some-clause-error : goal.returns-in-Some-clause-error
returns-in-Some-clause-error c =
    read_before (script_scan_at c.args.script) (pending_bytes (script_pending_at c.args.text.now c.args.index c.args.back)) c.args.byte
    (record { code = c.in-Some.cause.code; back = c.in-Some.cause.back; shown = c.in-Some.cause.shown }) c.in-Some.ensures.error

pub returns-in-None-clause-error : goal.returns-in-None-clause-error
returns-in-None-clause-error c =
    c.of_byte-in-None.ensures.error
    ∙ read_last (script_scan_at c.args.script) (script_scan_at c.behind_pending.result)
    (pending_bytes (script_pending_at c.args.text.now c.args.index c.args.back)) c.args.byte c.in-None.ensures.error c.behind_pending.ensures.fed

pub returns-in-Nothing-clause-error : goal.returns-in-Nothing-clause-error
returns-in-Nothing-clause-error c = rw c.in-Nothing.is (c.of_byte.ensures.error ∙ byte_alone (script_scan_at c.args.script) c.args.byte)
