use Rattle.std.proofs.Common.{◌∙◌, sym}
use Rattle.std.specs.Prelude.{get_or}
use Rattle.js_step.specs.ScriptScanViews.{script_scan_at}
use Rattle.html_scan.specs.ClassViews.{class_at}
use Rattle.html_scan.specs.ScanViews.{open_reference_at}
use Rattle.html_scan.specs.ScriptPlaces.{fed_text, places_fed, places_from}
use Rattle.html_scan.proofs.ScriptEnds.{deep_told, from_reversed, shown_stands}
use Rattle.html_scan.proofs.script_refusals.of_depth.Goals as goal

pub returns-in-Some-clause-deep : goal.returns-in-Some-clause-deep
returns-in-Some-clause-deep c =
    shown_stands (rw (c.fed_by-run.ensures.fed, c.stops.ensures, c.read_between-open.ensures.read c.args.text.now c.args.index) at c.standing.ensures.refusal)
    ∙ deep_told c.args.quotes c.args.index c.fed_count.result (places_fed (fed_text c.args.text.now c.args.begins c.args.index)) (places_from c.args.text.now c.args.begins c.args.index)
    (script_scan_at c.args.script)
    (open_reference_at c.args.text.now c.args.index c.args.reference) (class_at c.args.class) (get_or c.args.text.now c.args.index 0) c.in-Some.cause
    (from_reversed c.args.text.now c.args.begins c.args.index)
    (rw (c.fed_by-run.ensures.fed, c.stops.ensures, c.read_between-open.ensures.read c.args.text.now c.args.index) at (c.fed_count.ensures.count c.args.index))
    c.in-Some.ensures (sym c.is_told_at_node_end.ensures ∙ c.if-is_told_at_node_end.true)
