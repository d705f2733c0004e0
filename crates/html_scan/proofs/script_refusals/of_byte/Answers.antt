use Rattle.std.proofs.Common.{◌∙◌, sym}
use Rattle.std.specs.Prelude.{get_or}
use Rattle.js_step.specs.ScriptScanViews.{script_scan_at}
use Rattle.html_scan.specs.ClassViews.{class_at}
use Rattle.html_scan.specs.ScanViews.{open_reference_at}
use Rattle.html_scan.specs.ScriptPlaces.{fed_text, places_fed, places_from}
use Rattle.html_scan.proofs.ScriptEnds.{byte_end_left, byte_end_told, byte_found, byte_passed, from_reversed}
use Rattle.html_scan.proofs.script_refusals.of_byte.Goals as goal

pub returns-in-Some-clause-refusal : goal.returns-in-Some-clause-refusal
returns-in-Some-clause-refusal c =
    (rw (c.fed_by-run.ensures.fed, c.stops-stops.ensures, c.read_between-open.ensures.read c.args.text.now c.args.index) at c.standing.ensures.refusal)
    ∙ byte_found c.args.quotes c.args.index (places_fed (fed_text c.args.text.now c.args.begins c.args.index)) (places_from c.args.text.now c.args.begins c.args.index)
    (script_scan_at c.args.script)
    (open_reference_at c.args.text.now c.args.index c.args.reference) (class_at c.args.class) (get_or c.args.text.now c.args.index 0) c.in-Some.refused
    (from_reversed c.args.text.now c.args.begins c.args.index) (rw (c.stops-stops.ensures, c.read_between-open.ensures.read c.args.text.now c.args.index) at c.in-Some.ensures)

pub returns-in-Some-of_value_end-clause-refusal : goal.returns-in-Some-of_value_end-clause-refusal
returns-in-Some-of_value_end-clause-refusal c =
    (rw (c.fed_by-run.ensures.fed, c.stops-stops.ensures, c.read_between-open.ensures.read c.args.text.now c.args.index)
    at c.standing-in-Some-of_value_end.ensures.refusal)
    ∙ byte_end_told c.args.quotes c.args.index c.fed_count.result (places_fed (fed_text c.args.text.now c.args.begins c.args.index)) (places_from c.args.text.now c.args.begins c.args.index)
    (script_scan_at c.args.script)
    (open_reference_at c.args.text.now c.args.index c.args.reference) (class_at c.args.class) (get_or c.args.text.now c.args.index 0) c.in-Some-of_value_end.cause
    (from_reversed c.args.text.now c.args.begins c.args.index) (rw (c.stops-stops.ensures, c.read_between-open.ensures.read c.args.text.now c.args.index) at c.in-None.ensures)
    (rw (c.fed_by-run.ensures.fed, c.stops-stops.ensures, c.read_between-open.ensures.read c.args.text.now c.args.index) at (c.fed_count.ensures.count c.args.index))
    c.in-Some-of_value_end.ensures (sym c.is_told_at_node_end.ensures ∙ c.if-not-is_told_at_node_end.true)

pub returns-in_default-clause-refusal : goal.returns-in_default-clause-refusal
returns-in_default-clause-refusal c =
    byte_end_left c.args.quotes c.args.index (places_fed (fed_text c.args.text.now c.args.begins c.args.index)) (places_from c.args.text.now c.args.begins c.args.index)
    (script_scan_at c.args.script)
    (open_reference_at c.args.text.now c.args.index c.args.reference) (class_at c.args.class) (get_or c.args.text.now c.args.index 0) c.in-Some-of_value_end.cause
    (from_reversed c.args.text.now c.args.begins c.args.index) (rw (c.stops-stops.ensures, c.read_between-open.ensures.read c.args.text.now c.args.index) at c.in-None.ensures)
    c.in-Some-of_value_end.ensures (sym c.is_told_at_node_end.ensures ∙ c.if-not-is_told_at_node_end.false)

pub returns-in_default-2-clause-refusal : goal.returns-in_default-2-clause-refusal
returns-in_default-2-clause-refusal c =
    byte_passed c.args.quotes c.args.index (places_fed (fed_text c.args.text.now c.args.begins c.args.index)) (places_from c.args.text.now c.args.begins c.args.index)
    (script_scan_at c.args.script)
    (open_reference_at c.args.text.now c.args.index c.args.reference) (class_at c.args.class) (get_or c.args.text.now c.args.index 0)
    (from_reversed c.args.text.now c.args.begins c.args.index) (rw (c.stops-stops.ensures, c.read_between-open.ensures.read c.args.text.now c.args.index) at c.in-None.ensures)
    c.in_default.ensures
