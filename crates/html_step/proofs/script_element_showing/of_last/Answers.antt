use Rattle.std.proofs.Common.{◌∙◌, ◌∷◌, ◌++◌, [], ap, option_map, refl, sym}
use Rattle.js_step.specs.ScriptScanViews.{script_scan_at}
use Rattle.place_core.specs.page.Contents.{pending_bytes}
use Rattle.html_scan.specs.ScanViews.{script_pending_at}
use Rattle.html_step.specs.OriginViews.{evidence_at}
use Rattle.html_step.proofs.ScriptElementShowing.{none-part, one-byte, some-part}
use Rattle.html_step.proofs.script_element_showing.of_last.Goals as goal

pub returns-in-Some : goal.returns-in-Some
returns-in-Some c =
    let back = pending_bytes (script_pending_at c.args.text.now c.args.index c.args.pending) in
    some-part back (c.args.byte ∷ []) (back ++ c.args.byte ∷ []) (script_scan_at c.args.script) (evidence_at c.in-Some.shown) refl
    (sym (ap (option_map evidence_at) c.in-Some.is) ∙ c.of_pending.ensures)

pub returns-in-None : goal.returns-in-None
returns-in-None c =
    let back = pending_bytes (script_pending_at c.args.text.now c.args.index c.args.pending) in
    let behind = script_scan_at c.behind_pending.result in
    none-part back (c.args.byte ∷ []) (back ++ c.args.byte ∷ []) (script_scan_at c.args.script) behind (option_map evidence_at c.of_byte.result) refl
    (sym (ap (option_map evidence_at) c.in-None.is) ∙ c.of_pending.ensures) c.behind_pending.ensures.fed
    (one-byte c.args.byte behind (option_map evidence_at c.of_byte.result) c.of_byte.ensures)
