use Rattle.std.proofs.Common.{◌∙◌, ap, length}
use Rattle.std.specs.Prelude.{option_map}
use Rattle.js_step.specs.ScriptScans.{ScriptScan, script_scan_cut_error}
use Rattle.js_step.specs.ScriptScanViews.{script_cause_at, script_scan_at}
use Rattle.html_scan.specs.ScanViews.{open_reference_at}
use Rattle.html_scan.specs.ScriptPlaces.{fed_text, places_fed, places_from}
use Rattle.html_scan.proofs.ScriptEnds.{cut_ends, cut_found, cut_passed, from_reversed}
use Rattle.html_scan.proofs.script_refusals.of_cut.Goals as goal

pub returns-in-Some-clause-refusal : goal.returns-in-Some-clause-refusal
returns-in-Some-clause-refusal c =
    let k = length c.args.text.now in
    (rw c.cut_run-run.ensures.fed at c.standing.ensures.refusal)
    ∙ cut_found k (places_fed (fed_text c.args.text.now c.args.begins k)) (places_from c.args.text.now c.args.begins k)
    (script_scan_at c.args.script) (open_reference_at c.args.text.now k c.args.reference) c.in-Some.refused (from_reversed c.args.text.now c.args.begins k) c.in-Some.ensures

pub returns-in-Some-refused_at_cut-clause-refusal : goal.returns-in-Some-refused_at_cut-clause-refusal
returns-in-Some-refused_at_cut-clause-refusal c =
    let k = length c.args.text.now in
    (rw c.cut_run-run.ensures.fed at c.standing-in-Some-refused_at_cut.ensures.refusal)
    ∙ cut_ends k c.fed_count.result (places_fed (fed_text c.args.text.now c.args.begins k)) (places_from c.args.text.now c.args.begins k)
    (script_scan_at c.args.script) (open_reference_at c.args.text.now k c.args.reference) c.in-Some-refused_at_cut.cause (from_reversed c.args.text.now c.args.begins k)
    c.in-None.ensures (rw c.cut_run-run.ensures.fed at (c.fed_count.ensures.count k))
    (c.in-Some-refused_at_cut.ensures ∙ ap (λ (s : ScriptScan). option_map script_cause_at (script_scan_cut_error s)) c.script_at_cut.ensures)

pub returns-in-None-refused_at_cut-clause-refusal : goal.returns-in-None-refused_at_cut-clause-refusal
returns-in-None-refused_at_cut-clause-refusal c =
    let k = length c.args.text.now in
    cut_passed k (places_fed (fed_text c.args.text.now c.args.begins k)) (places_from c.args.text.now c.args.begins k)
    (script_scan_at c.args.script) (open_reference_at c.args.text.now k c.args.reference) (from_reversed c.args.text.now c.args.begins k) c.in-None.ensures
    (c.in-None-refused_at_cut.ensures ∙ ap (λ (s : ScriptScan). option_map script_cause_at (script_scan_cut_error s)) c.script_at_cut.ensures)
