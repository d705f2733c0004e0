use Rattle.std.proofs.Common.{◌∙◌, ap, option_map, sym}
use Rattle.js_step.specs.ScriptScanViews.{script_scan_at}
use Rattle.place_core.specs.page.Contents.{pending_bytes}
use Rattle.html_scan.specs.ScanViews.{script_pending_at}
use Rattle.html_step.specs.OriginViews.{evidence_at}
use Rattle.html_step.proofs.ScriptElementShowing.{none-part, pending-is, some-part}
use Rattle.html_step.proofs.script_element_showing.of_pending.Goals as goal

pub returns-in-Some : goal.returns-in-Some
returns-in-Some c =
    let text = c.args.text.now in
    let h = script_pending_at text c.args.index c.args.pending in
    let opens = c.opening-opens.result.now in
    let letters = c.letters_of-letters.result.now in
    some-part opens letters (pending_bytes h) (script_scan_at c.args.script) (evidence_at c.in-Some.shown)
    (pending-is h opens letters (c.opening-opens.ensures.bytes text c.args.index) c.letters_of-letters.ensures.letters)
    (sym (ap (option_map evidence_at) c.in-Some.is) ∙ c.of_bytes.ensures)

pub returns-in-None : goal.returns-in-None
returns-in-None c =
    let text = c.args.text.now in
    let h = script_pending_at text c.args.index c.args.pending in
    let opens = c.opening-opens.result.now in
    let letters = c.letters_of-letters.result.now in
    none-part opens letters (pending_bytes h) (script_scan_at c.args.script) (script_scan_at c.after_bytes.result)
    (option_map evidence_at c.of_bytes-in-None.result)
    (pending-is h opens letters (c.opening-opens.ensures.bytes text c.args.index) c.letters_of-letters.ensures.letters)
    (sym (ap (option_map evidence_at) c.in-None.is) ∙ c.of_bytes.ensures) c.after_bytes.ensures.fed c.of_bytes-in-None.ensures
